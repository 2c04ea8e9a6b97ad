-- `judge::listed::is_listed_match` meets its contract. Assumes nothing.
use Rattle.terms.specs.Instance.{Matches}
use Rattle.terms.specs.Entry.{term_of}
use Rattle.judge.specs.Listed.{atoms_in, Everywhere, matches_everywhere?}
use Rattle.judge.proofs.Stages.Listing.{met-answer}
use borrow.Author.Rules.{rules}
use Rattle.judge.proofs.listed.is_listed_match.Goals as goal

pub returns : goal.returns
returns c =
    met-answer c.requires (λ kind p. Everywhere kind p × Matches (atoms_in c.args.tables.now.file.now) p (term_of c.args.e.now)) (search rules)
    (λ i r w. search rules) c.some_back.ensures (matches_everywhere? _ _ _)
