use Rattle.judge.specs.CoverEntries.{Narrowed}
use Rattle.judge.proofs.flag.narrow.Given as goal

abbrev pub invariant-loop-k : goal.invariant-loop-k
invariant-loop-k l = Narrowed l.initial.flags l.flags l.low l.k l.kept
