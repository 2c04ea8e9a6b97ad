-- `judge::cover::lay_pattern` meets its contract. Assumes nothing.
use mathlib.Core.Path.{sym, ◌∙◌}
use Rattle.terms.proofs.AnswerLaws.{says-yes, yes_of, no_of}
use Rattle.terms.specs.Decide.{match?}
use Rattle.terms.proofs.InstanceLaws.{becomes}
use Rattle.judge.specs.Listed.{atoms_in}
use Rattle.judge.proofs.Stages.Nonces.{nonces-read}
use Rattle.judge.specs.CoverEntries.{sub_at, Lays}
use Rattle.judge.proofs.Covering.Hats.{pattern-laying, pattern-raised, no-match-raised}
use borrow.Author.Rules.{rules}
use Rattle.judge.proofs.cover.lay_pattern.Goals as goal

pub mark_cover-requires : goal.mark_cover-requires
mark_cover-requires c =
    let pre = c.requires in let told = nonces-read c.args.tables.now.sized c.nonces.ensures in
    pattern-laying pre.0 c.term_at-p.ensures
    (becomes (yes_of (match? (atoms_in c.args.tables.now.file.now) _ _) (sym (c.matches.ensures _ told) ∙ c.if-matches.true)))

pub returns-then-matches : goal.returns-then-matches
returns-then-matches c =
    let args = c.args in let atoms = atoms_in args.tables.now.file.now in
    let match = yes_of (match? atoms _ _) (sym (c.matches.ensures atoms (nonces-read c.args.tables.now.sized c.nonces.ensures)) ∙ c.if-matches.true) in
    pattern-raised (Lays atoms (sub_at args.e.now args.h) args.h) (says-yes c.is_kind.result c.is_kind.ensures c.if-is_kind.true) c.term_at-p.ensures
    (λ n. (λ m. (match, m), λ w. w.1)) c.mark_cover.ensures

pub returns-else-matches : goal.returns-else-matches
returns-else-matches c =
    let atoms = atoms_in c.args.tables.now.file.now in
    no-match-raised c.term_at-p.ensures (search rules)
    (no_of (match? atoms _ _) (sym (c.matches.ensures atoms (nonces-read c.args.tables.now.sized c.nonces.ensures)) ∙ c.if-matches.false))
