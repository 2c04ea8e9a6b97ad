-- `terms::matching::same_front` meets its contract; the measure is the length. Assumes nothing.
use Rattle.terms.proofs.EntryLaws.{begins-tag}
use Rattle.terms.proofs.FrontLaws.{front-begins, none-compared}
use Rattle.terms.proofs.SameLaws.{same-below, same_step, same-clash, said, denied}
use borrow.Author.Rules.{rules}
use borrow.Author.Tests.{eq-eqb}
use Rattle.terms.proofs.matching.+same_front.Goals as goal

pub same_entry-requires : goal.same_entry-requires
same_entry-requires t c =
    let fronts = c.requires in (front-begins fronts.0 c.if-need-eq0.false, front-begins fronts.1 c.if-need-eq0.false)

pub children-requires : goal.children-requires
children-requires t c = begins-tag (front-begins c.requires.0 c.if-need-eq0.false)

pub same_front-requires : goal.same_front-requires
same_front-requires t c =
    (search rules, same-below c.requires c.if-need-eq0.false (said c.if-same_entry.true c.same_entry.ensures) c.children.ensures.0)

pub returns-then-need-eq0 : goal.returns-then-need-eq0
returns-then-need-eq0 t c = rw (eq-eqb _ _ c.if-need-eq0.true) (none-compared _ _ _ c.if-need-eq0.true)

pub returns-then-same_entry : goal.returns-then-same_entry
returns-then-same_entry t c =
    same_step c.requires c.if-need-eq0.false (said c.if-same_entry.true c.same_entry.ensures) c.children.ensures.0 c.same_front.result
    c.same_front.ensures

pub returns-else-same_entry : goal.returns-else-same_entry
returns-else-same_entry t c =
    rw c.if-same_entry.false (same-clash c.requires c.if-need-eq0.false (denied c.if-same_entry.false c.same_entry.ensures))
