-- `judge::listed::shares_at` meets its contract. Assumes nothing.
use mathlib.Core.Path.{refl}
use borrow.Author.Rules.{rules}
use Rattle.terms.specs.Instance.{Share}
use Rattle.terms.specs.Entry.{term_of}
use Rattle.terms.specs.Decide.{share?}
use Rattle.judge.specs.Listed.{atoms_in}
use Rattle.judge.proofs.Stages.Nonces.{nonces-read}
use Rattle.judge.proofs.Stages.Listing.{block-answer}
use Rattle.judge.proofs.Stages.Tables.{term-sizes}
use Rattle.judge.proofs.listed.shares_at.Goals as goal

pub shares-requires : goal.shares-requires
shares-requires c = let sizes = term-sizes c.args.tables.now.sized c.requires.0.1 c.requires.0.0 refl c.term_at.ensures.part in search rules

pub returns : goal.returns
returns c =
    let atoms = atoms_in c.args.tables.now.file.now in
    block-answer (λ p. Share atoms p (term_of c.args.e.now)) c.term_at.ensures c.shares.result (share? atoms _ _) (c.shares.ensures atoms (nonces-read c.args.tables.now.sized c.nonces.ensures))
