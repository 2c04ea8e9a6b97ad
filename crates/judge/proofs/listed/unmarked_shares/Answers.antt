-- `judge::listed::unmarked_shares` meets its contract. Assumes nothing.
use borrow.Author.Tests.{ne_eqb}
use Rattle.blocks.proofs.KindLaws.{bad-lists}
use Rattle.terms.specs.Decisions.{says_same}
use Rattle.terms.specs.Term.{Term, Variable}
use Rattle.terms.specs.Instance.{Share}
use Rattle.terms.specs.Entry.{term_of}
use Rattle.judge.specs.Listed.{atoms_in}
use Rattle.judge.proofs.Stages.Listing.{one-among, counted-answer}
use Rattle.judge.proofs.Stages.Tables.{unmarked-counts, marked-counts-not}
use Rattle.judge.proofs.listed.unmarked_shares.Goals as goal

pub returns-then-last_mark_of-eq0 : goal.returns-then-last_mark_of-eq0
returns-then-last_mark_of-eq0 c =
    let pre = c.requires in let b = c.shares_among.result in let P = (λ (p : Term Variable). Share (atoms_in c.args.tables.now.file.now) p (term_of c.args.e.now)) in
    let one = one-among P in
    counted-answer c.args.tables.now.file.now c.args.i P (unmarked-counts c.args.tables.now.sized pre.1 (bad-lists pre.2) c.last_mark_of.ensures c.if-last_mark_of-eq0.true) b
    (says_same b (λ w. (one.0 w).holds) (λ h. one.1 (record { has_kind = pre.2; holds = h })) c.shares_among.ensures)

pub returns-else-last_mark_of-eq0 : goal.returns-else-last_mark_of-eq0
returns-else-last_mark_of-eq0 c =
    let off = c.if-last_mark_of-eq0.false in rw (ne_eqb _ _ off) (λ h. marked-counts-not c.args.tables.now.sized c.requires.1 (bad-lists c.requires.2) c.last_mark_of.ensures off h.0)
