-- `judge::cover::take_hats` meets its contract: before entry h the flags are off for which a hat stands among the first h entries. Assumes nothing.
use Rattle.judge.proofs.Covering.Hats.{hats-more}
use Rattle.judge.proofs.Covering.Covers.{standing-concluded}
use borrow.Author.Rules.{rules}
use Rattle.judge.proofs.cover.take_hats.Goals as goal

pub take_below-requires : goal.take_below-requires
take_below-requires c =
    let pre = c.requires in let whole = pre.0.whole in (standing-concluded pre.0 (search rules), c.loop-h.invariant.1)

pub loop-h-preserved : goal.loop-h-preserved
loop-h-preserved c =
    let whole = c.requires.0.whole in (hats-more c.loop-h.invariant.0 c.take_below.ensures.flags, c.take_below.ensures.memo)
