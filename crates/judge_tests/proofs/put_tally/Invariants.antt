use Rattle.judge_tests.proofs.TallyLaws.{Stored}
use Rattle.judge_tests.proofs.put_tally.Given as goal

abbrev pub invariant-loop-k : goal.invariant-loop-k
invariant-loop-k l = Stored l.counts l.fn.t.loaders l.k
