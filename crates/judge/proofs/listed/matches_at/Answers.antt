-- `judge::listed::matches_at` meets its contract. Assumes nothing.
use borrow.Author.Tests.{ne_eqb}
use Rattle.terms.specs.Term.{Term, Variable}
use Rattle.terms.specs.Instance.{Matches}
use Rattle.terms.specs.Entry.{term_of}
use Rattle.terms.specs.Decide.{match?}
use Rattle.judge.specs.Listed.{atoms_in}
use Rattle.judge.proofs.Stages.Nonces.{nonces-read}
use Rattle.judge.proofs.Stages.Listing.{block-answer, counted-answer}
use Rattle.judge.proofs.Stages.Tables.{unmarked-counts, marked-counts-not}
use Rattle.judge.proofs.listed.matches_at.Goals as goal

pub returns-then-last_mark_of-eq0 : goal.returns-then-last_mark_of-eq0
returns-then-last_mark_of-eq0 c =
    let pre = c.requires in let atoms = atoms_in c.args.tables.now.file.now in let P = (λ (p : Term Variable). Matches atoms p (term_of c.args.e.now)) in
    counted-answer c.args.tables.now.file.now c.args.i P (unmarked-counts c.args.tables.now.sized pre.0 pre.1.lists c.last_mark_of.ensures c.if-last_mark_of-eq0.true) c.matches.result
    (block-answer P c.term_at.ensures c.matches.result (match? atoms _ _) (c.matches.ensures atoms (nonces-read c.args.tables.now.sized c.nonces.ensures)))

pub returns-else-last_mark_of-eq0 : goal.returns-else-last_mark_of-eq0
returns-else-last_mark_of-eq0 c =
    let off = c.if-last_mark_of-eq0.false in rw (ne_eqb _ _ off) (λ h. marked-counts-not c.args.tables.now.sized c.requires.0 c.requires.1.lists c.last_mark_of.ensures off h.0)
