-- `judge::cover::is_risky` meets its contract. Assumes nothing.
use mathlib.Core.Bool.{false}
use native.Mathlib.Omega.{arith}
use Rattle.judge.specs.Listed.{shares_listed?}
use Rattle.terms.proofs.AnswerLaws.{answer-says, says-yes, says-no}
use Rattle.judge.proofs.Covering.Covers.{risky-variable, risky-secret}
use Rattle.judge.proofs.Stages.Roots.{no-root-shares}
use Rattle.judge.proofs.cover.is_risky.Goals as goal

pub returns-then-is_variable : goal.returns-then-is_variable
returns-then-is_variable c =
    let yes = c.if-is_variable.true in rw yes (risky-variable _ c.requires.term (says-yes c.is_variable.result c.is_variable.ensures yes))

pub returns-then-may_be_secret : goal.returns-then-may_be_secret
returns-then-may_be_secret c =
    risky-secret _ c.requires.term (omega (arith, says-no c.is_variable.result c.is_variable.ensures c.if-is_variable.false)) c.shares_secret.result
    (answer-says c.shares_secret.result (shares_listed? _ _ _) c.shares_secret.ensures)

pub returns-else-may_be_secret : goal.returns-else-may_be_secret
returns-else-may_be_secret c =
    let pre = c.requires in let none = c.if-may_be_secret.false in
    rw none (risky-secret _ pre.term (omega (arith, says-no c.is_variable.result c.is_variable.ensures c.if-is_variable.false)) false
    (no-root-shares pre.laid c.args.tables.now.rooted pre.term (c.may_be_secret.ensures.0 none)))
