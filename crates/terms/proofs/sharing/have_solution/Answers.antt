-- `terms::sharing::have_solution` meets its contract. Assumes nothing.
use Rattle.terms.proofs.AnswerLaws.{says-yes, says-no}
use Rattle.terms.proofs.NameLaws.{alone-linked, names-alone}
use Rattle.terms.proofs.TermGraphLaws.{two_terms}
use Rattle.terms.proofs.ShareLaws.{clash-answer, lost-answer, ending-answer}
use borrow.Author.Rules.{rules}
use Rattle.terms.proofs.sharing.have_solution.Goals as goal

pub unite_noted-requires : goal.unite_noted-requires
unite_noted-requires c = (c.requires.noted, alone-linked _ _ c.alone-c.result (search rules) c.alone-c.ensures)

pub keep_nonces-requires : goal.keep_nonces-requires
keep_nonces-requires c = c.unite_noted.ensures.0

pub returns-then-not-unite_noted : goal.returns-then-not-unite_noted
returns-then-not-unite_noted c =
    λ atoms told.
    clash-answer atoms (two_terms c.args.g.now.terms) c.requires (names-alone c.alone-c.result (search rules) c.alone-c.ensures) c.unite_noted.ensures.1 c.if-not-unite_noted.true

pub returns-then-keep_nonces : goal.returns-then-keep_nonces
returns-then-keep_nonces c =
    λ atoms told.
    ending-answer atoms (two_terms c.args.g.now.terms) c.requires (names-alone c.alone-c.result (search rules) c.alone-c.ensures) c.unite_noted.ensures.1 c.if-not-unite_noted.false
    (says-yes c.keep_nonces.result (c.keep_nonces.ensures atoms told) c.if-keep_nonces.true) c.is_finite.result c.is_finite.ensures.0 c.is_finite.ensures.1

pub returns-else-keep_nonces : goal.returns-else-keep_nonces
returns-else-keep_nonces c =
    λ atoms told. rw c.if-keep_nonces.false (
    lost-answer atoms (two_terms c.args.g.now.terms) c.requires (names-alone c.alone-c.result (search rules) c.alone-c.ensures) c.unite_noted.ensures.1 c.if-not-unite_noted.false
    (says-no c.keep_nonces.result (c.keep_nonces.ensures atoms told) c.if-keep_nonces.false)
    )
