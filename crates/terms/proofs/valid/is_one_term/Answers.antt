-- `terms::valid::is_one_term` meets its contract. Assumes nothing.
use Rattle.terms.proofs.CountLaws.{count-one, some-tags}
use Rattle.terms.specs.Reading.{one_term?}
use Rattle.terms.proofs.AnswerLaws.{says-answer}
use borrow.Author.Rules.{rules}
use Rattle.terms.proofs.valid.is_one_term.Goals as goal

pub are_terms-requires : goal.are_terms-requires
are_terms-requires c = (search rules, search rules, some-tags c.tags-tags.result c.requires.0 c.tags-tags.ensures)

pub returns : goal.returns
returns c =
    says-answer _ (count-one c.requires.0 (λ i. search rules) c.tags-tags.ensures c.are_terms.ensures)
    (one_term? c.args.e.now)
