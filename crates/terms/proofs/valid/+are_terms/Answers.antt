-- `terms::valid::are_terms` meets its contract; the measure is the number of entries left. Assumes nothing.
use borrow.Author.Rules.{rules}
use borrow.Author.Tests.{eq-eqb}
use Rattle.terms.proofs.CountLaws.{none-left-terms, none-needed-terms, next-terms}
use Rattle.terms.proofs.valid.+are_terms.Goals as goal

pub returns-then-count-at : goal.returns-then-count-at
returns-then-count-at t c = let a = c.args in none-left-terms a.tags.now a.at a.count a.need c.if-count-at.true

pub returns-then-need-ne0 : goal.returns-then-need-ne0
returns-then-need-ne0 t c =
    let a = c.args in next-terms a.tags.now a.at a.count (search rules) c.if-count-at.false a.need c.if-need-ne0.true c.children.ensures.0
    c.are_terms.ensures

pub returns-else-need-ne0 : goal.returns-else-need-ne0
returns-else-need-ne0 t c =
    let a = c.args in rw (eq-eqb _ _ c.if-need-ne0.false) (none-needed-terms a.tags.now a.at a.count (search rules) c.if-count-at.false c.if-need-ne0.false)
