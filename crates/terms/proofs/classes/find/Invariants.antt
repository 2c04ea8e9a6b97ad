use Prim.Native.Nat.{◌<◌, ◌-◌}
use Rattle.terms.proofs.NameLaws.{WayToName}
use Rattle.terms.proofs.classes.find.Given as goal

abbrev pub invariant-loop : goal.invariant-loop
invariant-loop l = (l.k < 256) × WayToName l.c l.fn.i (256 - l.counter) l.k
