use Prim.Native.Nat.{◌*◌, ◌-◌}
use lib.ListN.{length}
use Rattle.judge.proofs.cover.+mark_around.Given as goal

abbrev pub decreases-mark_around : goal.decreases-mark_around
decreases-mark_around l = length l.p.now - 4 * l.i
