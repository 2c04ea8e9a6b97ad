-- `terms::ending::ends` and `children_end` meet their contracts; the measure is twice the number of classes not met, one
-- more for the children. Assumes nothing.
use mathlib.Core.Path.{sym, ◌∙◌}
use Rattle.terms.proofs.TagLaws.{has-child, has-content, no-pair, no-wrapper}
use borrow.Author.Tests.{ne_eqb}
use Rattle.terms.proofs.TermGraphLaws.{two_terms}
use Rattle.terms.proofs.NodeLaws.{symbol-inside, own-tag}
use Rattle.terms.proofs.EndingLaws.{fewer-unmet, yes-at-once, yes-kept, past-ends, class-ends, open-sound, open-below, closed}
use Rattle.terms.proofs.EndingLaws.{below-kept, second_below, child-below, no-children-end, content-ends, halves-walked, symbol-there}
use native.Mathlib.Omega.{arith}
use borrow.Author.Rules.{rules}
use Rattle.terms.proofs.ending.+children_end_ends.Goals as goal

pub children_end-tag_at-tag-requires : goal.children_end-tag_at-tag-requires
children_end-tag_at-tag-requires t c = symbol-inside (two_terms c.args.g.now.terms) c.requires.1

pub children_end-children-requires : goal.children_end-children-requires
children_end-children-requires t c =
    let two = two_terms c.args.g.now.terms in rw c.tag_at-tag.ensures (own-tag two (symbol-inside two c.requires.1))

pub children_end-first_child-requires : goal.children_end-first_child-requires
children_end-first_child-requires t c = has-child c.tag_at-tag.ensures c.children.ensures.0 c.if-children-eq0.false

pub children_end-ends-requires : goal.children_end-ends-requires
children_end-ends-requires t c =
    let has = has-child c.tag_at-tag.ensures c.children.ensures.0 c.if-children-eq0.false in (
      omega (arith, c.decreases),
      (c.requires.0, c.first_child.ensures.1, c.requires.2, child-below has c.first_child.ensures.0 c.requires.3),
    )

pub children_end-ends-requires-else-tag-ne-PAIR : goal.children_end-ends-requires-else-tag-ne-PAIR
children_end-ends-requires-else-tag-ne-PAIR t c =
    let two = sym c.tag_at-tag.ensures ∙ c.if-tag-ne-PAIR.false in
    let kept = (c.ends.ensures.ends c.if-ends.true).1 in (
      omega (arith, c.decreases, kept.fewer),
      (
        c.requires.0,
        c.second_child.ensures.1,
        kept.sound,
        below-kept kept (second_below two c.second_child.ensures.0 c.requires.3),
      ),
    )

pub children_end-returns-then-children-eq0 : goal.children_end-returns-then-children-eq0
children_end-returns-then-children-eq0 t c =
    let tag = c.tag_at-tag.ensures in let count = c.children.ensures.0 in let none = c.if-children-eq0.true in
    yes-at-once c.requires.2 (no-children-end (no-pair tag count none) (no-wrapper tag count none))

pub children_end-returns-then-tag-ne-PAIR : goal.children_end-returns-then-tag-ne-PAIR
children_end-returns-then-tag-ne-PAIR t c =
    let other = c.if-tag-ne-PAIR.true in let ended = c.ends.ensures.ends c.if-ends.true in
    let one = has-content c.tag_at-tag.ensures c.children.ensures.0 c.if-children-eq0.false other in
    rw (ne_eqb c.tag_at-tag.result 2 other) (yes-kept ended.1 (content-ends one c.first_child.ensures.0 ended.0))

pub children_end-returns-else-tag-ne-PAIR : goal.children_end-returns-else-tag-ne-PAIR
children_end-returns-else-tag-ne-PAIR t c =
    halves-walked (sym c.tag_at-tag.ensures ∙ c.if-tag-ne-PAIR.false) c.first_child.ensures.0 c.second_child.ensures.0
    (c.ends.ensures.ends c.if-ends.true) c.ends-else-tag-ne-PAIR.ensures

pub ends-returns-then-a-ge-VARIABLE_NODES : goal.ends-returns-then-a-ge-VARIABLE_NODES
ends-returns-then-a-ge-VARIABLE_NODES t c =
    yes-at-once c.requires.2 (past-ends _ _ _ c.args.i c.find-a.ensures.0 c.if-a-ge-VARIABLE_NODES.true)

pub ends-children_end-requires : goal.ends-children_end-requires
ends-children_end-requires t c =
    let low = c.if-a-ge-VARIABLE_NODES.false in let named = c.find-a.ensures.0 in let fall = fewer-unmet c.args.marks.now c.find-a.result (search rules) c.in-Unmet.is in (
      omega (arith, c.decreases),
      (
        c.requires.0,
        symbol-there c.args.i c.requires.0 c.requires.1 named low,
        open-sound (search rules) c.requires.2,
        open-below (search rules) named c.requires.3,
      ),
    )

pub ends-returns-in-Ended : goal.ends-returns-in-Ended
ends-returns-in-Ended t c =
    yes-at-once c.requires.2 (class-ends c.args.i c.find-a.ensures.0 (c.requires.2.ends c.find-a.result c.if-a-ge-VARIABLE_NODES.false c.in-Ended.is))

pub ends-returns-then-children_end : goal.ends-returns-then-children_end
ends-returns-then-children_end t c =
    closed (search rules) (search rules) c.in-Unmet.is c.args.i c.find-a.ensures.0 (c.children_end.ensures.ends c.if-children_end.true)
