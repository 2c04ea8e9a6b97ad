-- `terms::valid::is_encryption` meets its contract. Assumes nothing.
use Rattle.terms.proofs.OneTermLaws.{says-encryption}
use Rattle.terms.specs.OneTerm.{encryption?}
use Rattle.terms.specs.Entry.{term_of}
use Rattle.terms.proofs.AnswerLaws.{says-answer}
use Rattle.terms.proofs.valid.is_encryption.Goals as goal

pub returns : goal.returns
returns c = says-answer _ (says-encryption c.requires) (encryption? (term_of c.args.e.now))
