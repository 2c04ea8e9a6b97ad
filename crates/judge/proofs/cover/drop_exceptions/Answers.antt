-- `judge::cover::drop_exceptions` meets its contract: the flags are put off by the patterns of the blocks from `left` on. Assumes nothing.
use mathlib.Core.Path.{refl}
use Rattle.blocks.proofs.KindLaws.{bad-lists}
use Rattle.terms.proofs.AnswerLaws.{says-no}
use Rattle.judge.proofs.Covering.Hats.{dropped-more, dropped-all, dropped-lower, no-exceptions}
use borrow.Author.Rules.{rules}
use Rattle.judge.proofs.cover.drop_exceptions.Goals as goal

pub returns-then-not-some_marked : goal.returns-then-not-some_marked
returns-then-not-some_marked c =
    let pre = c.requires in no-exceptions pre.laid c.args.tables.now.sized (says-no c.some_marked.result c.some_marked.ensures (c.if-not-some_marked.true)) (search rules)

pub returns-then-kind_at-from : goal.returns-then-kind_at-from
returns-then-kind_at-from c =
    let pre = c.requires in dropped-lower pre.laid (bad-lists refl) (search rules) c.kind_at.ensures (rw c.from.ensures at c.if-kind_at-from.true)
    (dropped-more (search rules) (search rules) c.loop-i.invariant c.drop_exception.ensures)

pub loop-i-preserved : goal.loop-i-preserved
loop-i-preserved c = dropped-more (search rules) (search rules) c.loop-i.invariant c.drop_exception.ensures

pub returns : goal.returns
returns c = let pre = c.requires in dropped-all pre.laid (bad-lists refl) (search rules) c.loop-i.invariant
