-- `judge_tests::put_tally` meets its contract: the first k pairs are stored. Assumes nothing.
use Rattle.judge_tests.proofs.TallyLaws.{stored-none, stored-room, stored_more, stored-all}
use borrow.Author.Rules.{rules}
use Rattle.judge_tests.proofs.put_tally.Goals as goal

pub loop-k-init : goal.loop-k-init
loop-k-init c = stored-none (search rules)

pub bounds-counts-k-in-loop-k : goal.bounds-counts-k-in-loop-k
bounds-counts-k-in-loop-k c = stored-room c.loop-k.invariant (search rules) _

pub loop-k-preserved : goal.loop-k-preserved
loop-k-preserved c = stored_more c.loop-k.invariant (search rules)

pub returns : goal.returns
returns c = stored-all _ c.loop-k.invariant (search rules)
