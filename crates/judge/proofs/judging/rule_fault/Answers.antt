-- `judge::judging::rule_fault` meets its contract: what is left of 15 answers as the whole does, what is held and what is left
-- of 12 too, and what is remembered is about the rule before. Assumes nothing.
use mathlib.Core.Path.{sym, ap, ◌∙◌}
use Rattle.judge.specs.Judgement.{judged_of}
use Rattle.judge.specs.Verdict.{rule_fault}
use Rattle.judge.proofs.Stages.FormLaws.{none_of, passed, tried, goes-on, first_step, first_end}
use Rattle.judge.proofs.Stages.JudgingLaws.{refused, hold-both, held_next, held-end, held-told, held-nothing, secret-start, uncovered-start}
use Rattle.judge.proofs.Covering.Repeats.{nothing-before}
use borrow.Author.Rules.{rules}
use Rattle.judge.proofs.judging.rule_fault.Goals as goal

pub loop-i-init : goal.loop-i-init
loop-i-init c = (secret-start _ _, uncovered-start _ _, nothing-before (search rules), nothing-before (search rules))

pub returns-in_err-held : goal.returns-in_err-held
unfolding rule_fault
returns-in_err-held c =
    let left = sym (first_step _ _ _ c.loop-i-test.true) ∙ c.loop-i.invariant.0 in
    passed c.from_residual.ensures.1 (tried _ _ (tried _ _ (refused _ _ _ c.in_err-held.ensures.answer) ∙ ap judged_of left))

pub loop-i-preserved : goal.loop-i-preserved
loop-i-preserved c =
    let inv = c.loop-i.invariant in let told = hold-both _ _ _ c.in_ok-held.ensures.answer in let fine = none_of _ told.0 in (
      rw fine at (sym (first_step _ _ _ c.loop-i-test.true) ∙ inv.0),
      held_next _ _ _ c.loop-i-test.true _ told.1 inv.1,
      c.rule_at.ensures.premise,
      c.rule_at.ensures.conclusion,
    )

pub returns-in-Some : goal.returns-in-Some
unfolding rule_fault
returns-in-Some c =
    let inv = c.loop-i.invariant in let done = c.loop-i-test.false in
    goes-on _ _ (sym (first_end _ _ _ done) ∙ inv.0) (held-told _ (sym c.in-Some.is ∙ held-end _ _ _ done _ inv.1))

pub returns-in-None : goal.returns-in-None
unfolding rule_fault
returns-in-None c =
    let inv = c.loop-i.invariant in let done = c.loop-i-test.false in
    goes-on _ _ (sym (first_end _ _ _ done) ∙ inv.0) (held-nothing _ (sym c.in-None.is ∙ held-end _ _ _ done _ inv.1))
