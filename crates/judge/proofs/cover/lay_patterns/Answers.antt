-- `judge::cover::lay_patterns` meets its contract: the flags are raised by the patterns of the blocks from `left` on. Assumes nothing.
use Rattle.judge.proofs.Covering.Hats.{held_more, held_all, held-lower}
use borrow.Author.Rules.{rules}
use Rattle.judge.proofs.cover.lay_patterns.Goals as goal

pub returns-then-kind_at-from : goal.returns-then-kind_at-from
returns-then-kind_at-from c =
    let pre = c.requires in held-lower pre.0.laid pre.1 (search rules) c.kind_at.ensures (rw c.from.ensures at c.if-kind_at-from.true)
    (held_more (search rules) (search rules) c.loop-i.invariant c.lay_pattern.ensures)

pub loop-i-preserved : goal.loop-i-preserved
loop-i-preserved c = held_more (search rules) (search rules) c.loop-i.invariant c.lay_pattern.ensures

pub returns : goal.returns
returns c = let pre = c.requires in held_all pre.0.laid pre.1 (search rules) c.loop-i.invariant
