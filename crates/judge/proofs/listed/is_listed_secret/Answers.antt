-- `judge::listed::is_listed_secret` meets its contract. Assumes nothing.
use mathlib.Core.Path.{◌≡◌, refl}
use Rattle.terms.specs.Entry.{term_of}
use Rattle.judge.specs.Listed.{is_secret?}
use Rattle.judge.proofs.Stages.Listing.{met-answer}
use borrow.Author.Rules.{rules}
use Rattle.judge.proofs.listed.is_listed_secret.Goals as goal

pub returns : goal.returns
returns c =
    met-answer c.requires (λ kind p. p ≡ term_of c.args.e.now) refl (λ i r w. search rules) c.some_on.ensures (is_secret? _ _)
