-- `judge::listed::shares_among` meets its contract. Assumes nothing.
use Rattle.terms.specs.Instance.{Share}
use Rattle.terms.specs.Entry.{term_of}
use Rattle.judge.specs.Listed.{atoms_in}
use Rattle.judge.proofs.Stages.Listing.{some-met}
use borrow.Author.Rules.{rules}
use Rattle.judge.proofs.listed.shares_among.Goals as goal

pub returns : goal.returns
returns c =
    some-met (λ kind p. Share (atoms_in c.args.tables.now.file.now) p (term_of c.args.e.now)) (λ i r w. search rules) c.some_back.ensures
