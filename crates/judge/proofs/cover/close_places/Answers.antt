-- `judge::cover::close_places` meets its contract: before entry h the flags are on that were on at the start and are open as far as the first h entries go. Assumes nothing.
use Rattle.judge.proofs.Covering.Opens.{open_more, open-all}
use Rattle.judge.proofs.Covering.Covers.{standing-concluded}
use borrow.Author.Rules.{rules}
use Rattle.judge.proofs.cover.close_places.Goals as goal

pub close_below-requires : goal.close_below-requires
close_below-requires c =
    let pre = c.requires in let whole = pre.0.whole in (standing-concluded pre.0 (search rules), c.loop-h.invariant.1)

pub loop-h-preserved : goal.loop-h-preserved
loop-h-preserved c = (open_more c.loop-h.invariant.0 c.close_below.ensures.flags, c.close_below.ensures.memo)

pub returns-clause-flags : goal.returns-clause-flags
returns-clause-flags c = let whole = c.requires.0.whole in open-all c.loop-h.invariant.0 (search rules)
