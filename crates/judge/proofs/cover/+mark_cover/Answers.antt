-- `judge::cover::mark_cover` meets its contract; the measure is the length of the pattern. Assumes nothing.
use mathlib.Core.Path.{sym, ◌∙◌}
use Rattle.terms.proofs.TagLaws.{one_tag, one-child}
use Rattle.terms.proofs.EntryLaws.{begins-tag}
use Rattle.terms.proofs.AnswerLaws.{says-yes, says-no}
use Rattle.judge.proofs.Covering.Marks.{pair-laid, left-pattern, left-begins, left-laying, right-laying, pair-raised}
use Rattle.judge.proofs.Covering.Marks.{wrapped-laid, content-laying, wrapped-raised, mark-raised, no-mark}
use borrow.Author.Rules.{rules}
use Rattle.judge.proofs.cover.+mark_cover.Goals as goal

pub mark_cover-requires : goal.mark_cover-requires
mark_cover-requires t c =
    let l = c.requires in let w = pair-laid l c.if-tag-eq-PAIR.true in
    (search rules, left-laying l w)

pub term_size-past-requires : goal.term_size-past-requires
term_size-past-requires t c =
    let l = c.requires in let w = pair-laid l c.if-tag-eq-PAIR.true in
    left-pattern l w

pub term_size-requires : goal.term_size-requires
term_size-requires t c =
    let l = c.requires in let w = pair-laid l c.if-tag-eq-PAIR.true in
    left-begins l w

pub mark_cover-requires-then-tag-eq-PAIR : goal.mark_cover-requires-then-tag-eq-PAIR
mark_cover-requires-then-tag-eq-PAIR t c =
    let l = c.requires in let w = pair-laid l c.if-tag-eq-PAIR.true in
    (search rules, right-laying l w c.term_size-past.ensures.0 c.term_size.ensures.0)

pub children-requires : goal.children-requires
children-requires t c = begins-tag c.requires.pattern

pub mark_cover-requires-then-children-eq1 : goal.mark_cover-requires-then-children-eq1
mark_cover-requires-then-children-eq1 t c =
    let l = c.requires in let w = wrapped-laid l (one_tag _ (sym c.children.ensures.0 ∙ c.if-children-eq1.true)) in
    (search rules, content-laying l w)

pub returns-then-tag-eq-PAIR : goal.returns-then-tag-eq-PAIR
returns-then-tag-eq-PAIR t c =
    let l = c.requires in let w = pair-laid l c.if-tag-eq-PAIR.true in
    pair-raised l w c.term_size-past.ensures.0 c.term_size.ensures.0 c.mark_cover.ensures c.mark_cover-then-tag-eq-PAIR.ensures

pub returns-then-children-eq1 : goal.returns-then-children-eq1
returns-then-children-eq1 t c =
    let l = c.requires in let w = wrapped-laid l (one_tag _ (sym c.children.ensures.0 ∙ c.if-children-eq1.true)) in
    wrapped-raised l w c.mark_cover-then-children-eq1.ensures

pub returns-then-is_marked : goal.returns-then-is_marked
returns-then-is_marked t c =
    let l = c.requires in mark-raised l (says-yes c.is_marked.result c.is_marked.ensures c.if-is_marked.true) c.term_size-then-is_marked.ensures.0 c.paint.ensures

pub returns-else-is_marked : goal.returns-else-is_marked
returns-else-is_marked t c =
    let l = c.requires in no-mark l c.if-tag-eq-PAIR.false (λ w. c.if-children-eq1.false (c.children.ensures.0 ∙ sym (one-child w))) (says-no c.is_marked.result c.is_marked.ensures c.if-is_marked.false) (search rules)
