use Rattle.judge_tests.proofs.TallyLaws.{Loaded}
use Rattle.judge_tests.proofs.tally_from.Given as goal

abbrev pub invariant-loop-k : goal.invariant-loop-k
invariant-loop-k l = Loaded l.counts l.loaders l.k
