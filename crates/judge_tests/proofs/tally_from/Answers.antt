-- `judge_tests::tally_from` meets its contract: the first k pairs are loaded. Assumes nothing.
use Rattle.judge_tests.proofs.TallyLaws.{loaded-none, loaded-more, loaded-all}
use borrow.Author.Rules.{rules}
use Rattle.judge_tests.proofs.tally_from.Goals as goal

pub loop-k-init : goal.loop-k-init
loop-k-init c = loaded-none (search rules)

pub loop-k-preserved : goal.loop-k-preserved
loop-k-preserved c = loaded-more c.loop-k.invariant (search rules)

pub returns : goal.returns
returns c = loaded-all _ c.requires c.loop-k.invariant (search rules)
