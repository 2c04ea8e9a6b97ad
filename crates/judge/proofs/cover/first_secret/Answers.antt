-- `judge::cover::first_secret` meets its contract: no flagged entry before entry k is a secret. Assumes nothing.
use mathlib.Core.Path.{refl}
use Rattle.terms.specs.First.{fails}
use Rattle.terms.proofs.AnswerLaws.{says-yes}
use Rattle.judge.proofs.cover.first_secret.Goals as goal

pub returns-then-secret_at : goal.returns-then-secret_at
returns-then-secret_at c =
    fails refl c.loop-k-test.true (λ off. off (says-yes c.secret_at.result c.secret_at.ensures c.if-secret_at.true)) c.loop-k.invariant
