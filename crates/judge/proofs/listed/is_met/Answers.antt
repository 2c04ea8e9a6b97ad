-- `judge::listed::is_met` meets its contract. Assumes nothing.
use mathlib.Core.Path.{ap, ◌∙◌}
use Rattle.judge.specs.File.{certificate_of}
use Rattle.judge.specs.Verdict.{kind_asked}
use Rattle.judge.proofs.Stages.Numbers.{unknown-at, closed_at, kept_at, good-root}
use borrow.Author.Rules.{rules}
use Rattle.judge.proofs.listed.is_met.Goals as goal

pub is_kept-requires : goal.is_kept-requires
is_kept-requires c =
    let kind = c.requires.2 ∙ ap kind_asked c.in-Kept.is in
    (search rules, good-root c.term_at-in-Kept.ensures (c.requires.0.goods c.args.i c.requires.1 kind))

pub returns-in-NotKnown : goal.returns-in-NotKnown
returns-in-NotKnown c =
    let given = c.in-NotKnown.is in let kind = c.requires.2 ∙ ap kind_asked given in
    rw given (unknown-at c.term_at.ensures (certificate_of c.args.file.now) c.is_known.result (c.requires.0.secrets c.args.i c.requires.1 kind) c.is_known.ensures)

pub returns-in-Closed : goal.returns-in-Closed
returns-in-Closed c =
    let given = c.in-Closed.is in let kind = c.requires.2 ∙ ap kind_asked given in
    rw given (closed_at c.term_at-in-Closed.ensures (certificate_of c.args.file.now) c.is_closed.result (c.requires.0.secrets c.args.i c.requires.1 kind) c.is_closed.ensures)

pub returns-in-Kept : goal.returns-in-Kept
returns-in-Kept c =
    rw c.in-Kept.is (kept_at c.term_at-in-Kept.ensures (certificate_of c.args.file.now) c.is_kept.result c.is_kept.ensures)
