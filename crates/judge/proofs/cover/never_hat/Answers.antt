-- `judge::cover::never_hat` meets its contract. Assumes nothing.
use mathlib.Core.Path.{sym, ◌∙◌}
use Rattle.terms.proofs.AnswerLaws.{yes_of, answer-says}
use Rattle.judge.specs.Listed.{matches_everywhere?, shares_listed?}
use Rattle.judge.proofs.Covering.Opens.{by-bad}
use Rattle.judge.proofs.cover.never_hat.Goals as goal

pub returns-else-not-shares_listed : goal.returns-else-not-shares_listed
returns-else-not-shares_listed c =
    by-bad (yes_of (shares_listed? _ _ _) (sym c.shares_listed.ensures ∙ c.if-not-shares_listed.false)) c.is_listed_match.result
    (answer-says c.is_listed_match.result (matches_everywhere? _ _ _) c.is_listed_match.ensures)
