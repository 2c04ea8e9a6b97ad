-- `judge::cover::drop_exception` meets its contract. Assumes nothing.
use mathlib.Core.Path.{refl}
use native.Mathlib.Omega.{arith}
use Rattle.blocks.proofs.KindLaws.{bad-lists}
use Rattle.terms.proofs.SizeLaws.{sizes-part}
use Rattle.terms.proofs.AnswerLaws.{says-yes, says-no}
use Rattle.judge.proofs.Covering.Hats.{searching-at, exception-dropped, exception-beside}
use borrow.Author.Rules.{rules}
use mathlib.Core.Path.{sym, ◌∙◌}
use Rattle.judge.proofs.Stages.Tables.{term-sizes, marks-behind}
use Rattle.judge.proofs.Covering.Hats.{exception-laying, exception-unmarked}
use Rattle.judge.proofs.cover.drop_exception.Goals as goal

pub marks_around-around-requires : goal.marks_around-around-requires
marks_around-around-requires c =
    let pre = c.requires in let part = c.term_at-p.ensures in let s = searching-at pre.0 (bad-lists refl) in let bad = says-yes c.is_kind.result c.is_kind.ensures c.if-is_kind.true in
    exception-laying pre.0 part (rw c.row.ensures (term-sizes c.args.tables.now.sized s pre.1 bad part.part)) c.args.term.now.sized (marks-behind c.args.tables.now.sized pre.1 bad part.part c.last_mark_of-last.ensures)

pub returns-else-last-ne0 : goal.returns-else-last-ne0
returns-else-last-ne0 c =
    let pre = c.requires in exception-unmarked (search rules) c.args.tables.now.sized pre.1 (says-yes c.is_kind.result c.is_kind.ensures c.if-is_kind.true) (sym c.last_mark_of-last.ensures ∙ c.if-last-ne0.false)

pub shares_among-requires : goal.shares_among-requires
shares_among-requires c =
    let pre = c.requires in let part = sizes-part c.args.h c.args.term.now.sized in (searching-at pre.0 (bad-lists refl), search rules, omega arith, omega (arith, pre.1))

pub returns-then-shares_among : goal.returns-then-shares_among
returns-then-shares_among c =
    exception-dropped (says-yes c.is_kind.result c.is_kind.ensures c.if-is_kind.true) c.term_at-p.ensures c.marks_around-around.ensures
    (says-yes c.shares_among.result c.shares_among.ensures c.if-shares_among.true) c.clear.ensures

pub returns-else-some_both : goal.returns-else-some_both
returns-else-some_both c =
    exception-beside (search rules) c.term_at-p.ensures c.marks_around-around.ensures (says-no c.some_both.result c.some_both.ensures c.if-some_both.false)
