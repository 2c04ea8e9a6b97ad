-- `judge::cover::close_under` meets its contract. Assumes nothing.
use Rattle.terms.proofs.AnswerLaws.{says-yes, says-no}
use Rattle.judge.proofs.Covering.Hats.{standing-end}
use Rattle.judge.proofs.Covering.Opens.{closed_none, closed-below}
use borrow.Author.Rules.{rules}
use Rattle.judge.proofs.cover.close_under.Goals as goal

pub narrow-requires : goal.narrow-requires
narrow-requires c = standing-end c.requires.0 c.requires.3

pub returns-then-not-never_hat_at-clause-flags : goal.returns-then-not-never_hat_at-clause-flags
returns-then-not-never_hat_at-clause-flags c =
    let pre = c.requires in closed-below pre.2 (says-no c.never_hat_at.result c.never_hat_at.ensures.answer (c.if-not-never_hat_at.true)) pre.3 c.excepted_places-kept.ensures c.narrow.ensures

pub returns-else-not-never_hat_at-clause-flags : goal.returns-else-not-never_hat_at-clause-flags
returns-else-not-never_hat_at-clause-flags c =
    closed_none (search rules) (λ tag. says-yes c.never_hat_at.result c.never_hat_at.ensures.answer (c.if-not-never_hat_at.false))
