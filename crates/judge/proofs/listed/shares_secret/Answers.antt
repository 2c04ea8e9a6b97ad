-- `judge::listed::shares_secret` meets its contract. Assumes nothing.
use mathlib.Core.Path.{refl}
use Rattle.terms.specs.Instance.{Share}
use Rattle.terms.specs.Entry.{term_of}
use Rattle.judge.specs.Listed.{atoms_in, shares_listed?}
use Rattle.judge.proofs.Stages.Listing.{met-answer}
use borrow.Author.Rules.{rules}
use Rattle.judge.proofs.listed.shares_secret.Goals as goal

pub returns : goal.returns
returns c =
    met-answer c.requires (λ kind p. Share (atoms_in c.args.tables.now.file.now) p (term_of c.args.e.now)) refl (λ i r w. search rules) c.some_on.ensures (shares_listed? _ _ _)
