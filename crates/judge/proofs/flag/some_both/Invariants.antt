use Rattle.terms.specs.Decisions.{Says}
use Rattle.judge.proofs.Covering.Flags.{BothBelow}
use Rattle.judge.proofs.flag.some_both.Given as goal

abbrev pub invariant-loop-k : goal.invariant-loop-k
invariant-loop-k l = Says l.found (BothBelow l.flags l.others l.k)
