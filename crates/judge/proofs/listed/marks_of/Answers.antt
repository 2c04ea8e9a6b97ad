-- `judge::listed::marks_of` meets its contract. Assumes nothing.
use mathlib.Core.Path.{◌≡◌}
use Rattle.terms.proofs.AnswerLaws.{says-yes}
use Rattle.judge.specs.Listed.{up_to}
use Rattle.judge.proofs.Covering.Around.{bad-noted}
use borrow.Author.Rules.{rules}
use Rattle.judge.proofs.listed.marks_of.Goals as goal

pub returns-then-is_kind : goal.returns-then-is_kind
returns-then-is_kind c =
    let same : c.map_or.result ≡ up_to c.last_mark.result = search rules in
    rw same (bad-noted (says-yes c.is_kind.result c.is_kind.ensures c.if-is_kind.true) c.term_at.ensures c.last_mark.ensures.0)
