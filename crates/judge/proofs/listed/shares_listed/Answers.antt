-- `judge::listed::shares_listed` meets its contract. Assumes nothing.
use Rattle.terms.specs.Instance.{Share}
use Rattle.terms.specs.Entry.{term_of}
use Rattle.judge.specs.Listed.{atoms_in, shares_listed?}
use Rattle.judge.proofs.Stages.Listing.{all_among}
use borrow.Author.Rules.{rules}
use Rattle.judge.proofs.listed.shares_listed.Goals as goal

pub returns : goal.returns
returns c =
    all_among c.requires.0 (λ p. Share (atoms_in c.args.tables.now.file.now) p (term_of c.args.e.now)) (search rules) c.shares_among.result c.shares_among.ensures (shares_listed? _ _ _)
