-- `judge::listed::shares_unmarked` meets its contract. Assumes nothing.
use Rattle.terms.specs.Instance.{Share}
use Rattle.terms.specs.Entry.{term_of}
use Rattle.judge.specs.Listed.{atoms_in, Everywhere, shares_everywhere?}
use Rattle.judge.proofs.Stages.Listing.{met-answer}
use borrow.Author.Rules.{rules}
use Rattle.judge.proofs.listed.shares_unmarked.Goals as goal

pub returns : goal.returns
returns c =
    met-answer c.requires.0 (λ kind p. Everywhere kind p × Share (atoms_in c.args.tables.now.file.now) p (term_of c.args.e.now)) (search rules)
    (λ i r w. search rules) c.some_back.ensures (shares_everywhere? _ _ _)
