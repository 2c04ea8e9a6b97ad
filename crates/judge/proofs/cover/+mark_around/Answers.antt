-- `judge::cover::mark_around` meets its contract; the measure is what is left of the pattern's entries. Assumes nothing.
use mathlib.Core.Path.{sym, ◌∙◌}
use Rattle.terms.proofs.SizeLaws.{size-at}
use Rattle.judge.proofs.Covering.Around.{pattern-room, pattern-tag, term-tag, marks-told, mark-found, mark-laid, around-differ, no-mark-found, none-behind, none-laid}
use Rattle.judge.proofs.Covering.Around.{left-around, right-around, pair-marked, pair-laid-around, content-around, wrapped-marked, wrapped-laid-around, found_as, raised-to}
use Rattle.terms.proofs.TagLaws.{one_tag, one-child}
use Rattle.terms.proofs.AnswerLaws.{says-yes, says-no}
use borrow.Author.Rules.{rules}
use Rattle.judge.proofs.cover.+mark_around.Goals as goal

pub returns-then-last-i : goal.returns-then-last-i
returns-then-last-i t c =
    let pre = c.requires in let none = none-behind pre c.if-last-i.true in record { marked = none; flags = none-laid pre none (search rules) }

pub returns-then-is_marked : goal.returns-then-is_marked
returns-then-is_marked t c =
    let l = c.requires in record { marked = mark-found l (says-yes c.is_marked.result c.is_marked.ensures c.if-is_marked.true); flags = mark-laid l (says-yes c.is_marked.result c.is_marked.ensures c.if-is_marked.true) c.end_of.ensures.0 c.paint.ensures }

pub is_alike-requires : goal.is_alike-requires
is_alike-requires t c = let l = c.requires in (pattern-tag l, term-tag l)

pub bounds-y-i : goal.bounds-y-i
bounds-y-i t c = let l = c.requires in l.pattern_sizes.inside _ (pattern-room l)

pub has_mark-hidden-requires : goal.has_mark-hidden-requires
has_mark-hidden-requires t c =
    let l = c.requires in ((size-at _ l.pattern_sizes l.pattern c.wide.ensures.0).1, l.pattern_short)

pub returns-then-not-is_alike : goal.returns-then-not-is_alike
returns-then-not-is_alike t c =
    let pre = c.requires in let l = pre in let found = marks-told l c.wide.ensures.0 c.has_mark-hidden.result c.has_mark-hidden.ensures in record { marked = found_as l c.raise.ensures.0 found; flags = raised-to c.raise.ensures.1 (around-differ l (says-no c.is_marked.result c.is_marked.ensures c.if-is_marked.false) (says-no c.is_alike.result c.is_alike.ensures (c.if-not-is_alike.true)) (search rules) c.has_mark-hidden.result found) }

pub mark_around-left-requires : goal.mark_around-left-requires
mark_around-left-requires t c =
    let pre = c.requires in let inside = pre.pattern_inside in (search rules, left-around pre c.if-tag-eq-PAIR.true (says-yes c.is_alike.result c.is_alike.ensures (c.if-not-is_alike.false)))

pub bounds-y-i-then-tag-eq-PAIR : goal.bounds-y-i-then-tag-eq-PAIR
bounds-y-i-then-tag-eq-PAIR t c =
    let l = c.requires in l.pattern_sizes.inside _ (pattern-room (left-around l c.if-tag-eq-PAIR.true (says-yes c.is_alike.result c.is_alike.ensures (c.if-not-is_alike.false))))

pub mark_around-right-requires : goal.mark_around-right-requires
mark_around-right-requires t c =
    let pre = c.requires in let inside = pre.pattern_inside in
    (search rules, right-around pre c.if-tag-eq-PAIR.true (says-yes c.is_alike.result c.is_alike.ensures (c.if-not-is_alike.false)) c.wide-then-tag-eq-PAIR.ensures.0 c.wide-then-tag-eq-PAIR-2.ensures.0)

pub returns-then-tag-eq-PAIR : goal.returns-then-tag-eq-PAIR
returns-then-tag-eq-PAIR t c =
    let l = c.requires in let past = c.wide-then-tag-eq-PAIR.ensures.0 in let right = c.wide-then-tag-eq-PAIR-2.ensures.0 in let found = pair-marked l c.if-tag-eq-PAIR.true (says-yes c.is_alike.result c.is_alike.ensures (c.if-not-is_alike.false)) past right c.mark_around-left.result c.mark_around-right.result c.mark_around-left.ensures.marked c.mark_around-right.ensures.marked in record { marked = found_as l c.raise-then-tag-eq-PAIR.ensures.0 found; flags = raised-to c.raise-then-tag-eq-PAIR.ensures.1 (pair-laid-around l c.if-tag-eq-PAIR.true (says-yes c.is_alike.result c.is_alike.ensures (c.if-not-is_alike.false)) past right c.mark_around-left.ensures.flags c.mark_around-right.ensures.flags _ found) }

pub children-requires : goal.children-requires
children-requires t c = pattern-tag c.requires

pub mark_around-inner-requires : goal.mark_around-inner-requires
mark_around-inner-requires t c =
    let pre = c.requires in let inside = pre.pattern_inside in (search rules, content-around pre (one_tag _ (sym c.children.ensures.0 ∙ c.if-children-eq1.true)) (says-yes c.is_alike.result c.is_alike.ensures (c.if-not-is_alike.false)))

pub returns-then-children-eq1 : goal.returns-then-children-eq1
returns-then-children-eq1 t c =
    let l = c.requires in let found = wrapped-marked l (one_tag _ (sym c.children.ensures.0 ∙ c.if-children-eq1.true)) (says-yes c.is_alike.result c.is_alike.ensures (c.if-not-is_alike.false)) c.mark_around-inner.result c.mark_around-inner.ensures.marked in record { marked = found_as l c.raise-then-children-eq1.ensures.0 found; flags = raised-to c.raise-then-children-eq1.ensures.1 (wrapped-laid-around l (one_tag _ (sym c.children.ensures.0 ∙ c.if-children-eq1.true)) (says-yes c.is_alike.result c.is_alike.ensures (c.if-not-is_alike.false)) c.mark_around-inner.ensures.flags c.mark_around-inner.result found) }

pub returns : goal.returns
returns t c =
    let pre = c.requires in let none = no-mark-found pre (says-no c.is_marked.result c.is_marked.ensures c.if-is_marked.false) c.if-tag-eq-PAIR.false (λ w. c.if-children-eq1.false (c.children.ensures.0 ∙ sym (one-child w))) in record { marked = none; flags = none-laid pre none (search rules) }
