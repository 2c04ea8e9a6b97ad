-- `judge::cover::take_hat` meets its contract. Assumes nothing.
use Rattle.terms.proofs.AnswerLaws.{says-yes, says-no}
use Rattle.judge.proofs.Covering.Hats.{hat-taken, hat-shares}
use borrow.Author.Rules.{rules}
use Rattle.judge.proofs.cover.take_hat.Goals as goal

pub returns-then-not-shares_bad-clause-flags : goal.returns-then-not-shares_bad-clause-flags
returns-then-not-shares_bad-clause-flags c =
    hat-taken c.marked_places-hats.ensures c.drop_exceptions.ensures (says-no c.shares_bad.result c.shares_bad.ensures.answer (c.if-not-shares_bad.true)) c.clear.ensures

pub returns-else-not-shares_bad-clause-flags : goal.returns-else-not-shares_bad-clause-flags
returns-else-not-shares_bad-clause-flags c =
    hat-shares (search rules) (says-yes c.shares_bad.result c.shares_bad.ensures.answer (c.if-not-shares_bad.false))
