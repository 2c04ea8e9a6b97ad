-- `terms::entry::term_size` meets its contract; the measure is the length. Assumes nothing.
use Rattle.terms.proofs.EntryLaws.{begins-tag, begins, pair-first, wrapped-first, leaf_first, right-begins, pair-walked, wrapped-walked}
use mathlib.Core.Path.{sym, ◌∙◌}
use Rattle.terms.proofs.TagLaws.{one_tag, one-child}
use borrow.Author.Rules.{rules}
use Rattle.terms.proofs.entry.+term_size.Goals as goal

pub term_size-right-requires : goal.term_size-right-requires
term_size-right-requires t c = (search rules, begins (pair-first c.requires c.if-tag-eq-PAIR.true).below)

pub term_size-requires : goal.term_size-requires
term_size-requires t c =
    (search rules, begins (right-begins (pair-first c.requires c.if-tag-eq-PAIR.true) c.term_size-right.ensures.0))

pub children-requires : goal.children-requires
children-requires t c = begins-tag c.requires

pub term_size-requires-then-children-eq1 : goal.term_size-requires-then-children-eq1
term_size-requires-then-children-eq1 t c =
    let one = one_tag _ (sym c.children.ensures.0 ∙ c.if-children-eq1.true) in
    (search rules, begins (wrapped-first c.requires one.wrapping one.is).below)

pub returns-then-tag-eq-PAIR : goal.returns-then-tag-eq-PAIR
returns-then-tag-eq-PAIR t c =
    pair-walked c.requires c.if-tag-eq-PAIR.true c.term_size-right.ensures.0 c.term_size.ensures.0

pub returns-then-children-eq1 : goal.returns-then-children-eq1
returns-then-children-eq1 t c =
    wrapped-walked c.requires (one_tag _ (sym c.children.ensures.0 ∙ c.if-children-eq1.true)) c.term_size-then-children-eq1.ensures.0

pub returns-else-children-eq1 : goal.returns-else-children-eq1
returns-else-children-eq1 t c =
    (leaf_first c.requires c.if-tag-eq-PAIR.false (λ w. c.if-children-eq1.false (c.children.ensures.0 ∙ sym (one-child w))), search rules)
