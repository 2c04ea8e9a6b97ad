-- `judge::judging::rule_at` meets its contract. Assumes nothing.
use mathlib.Core.Path.{refl}
use Rattle.judge.proofs.Stages.FormLaws.{not-kind}
use native.Mathlib.Omega.{arith}
use Rattle.std.proofs.lemmas.Grind.{common_steps}
use Rattle.judge.specs.Verdict.{on_kind}
use Rattle.judge.specs.Judgement.{next_of, held_or}
use Rattle.judge.proofs.Stages.JudgingLaws.{next-found, place-small, secret-small, rule-at}
use Rattle.judge.proofs.Covering.Repeats.{other-next, other-kind}
use Rattle.judge.proofs.judging.rule_at.Goals as goal

pub returns-then-not-is_kind-clause-answer : goal.returns-then-not-is_kind-clause-answer
unfolding next_of held_or on_kind
returns-then-not-is_kind-clause-answer c = grind (arith, common_steps)

pub returns-then-not-is_kind-clause-premise : goal.returns-then-not-is_kind-clause-premise
returns-then-not-is_kind-clause-premise c =
    other-next _ _ c.requires.2 (other-kind c.block-block.ensures.part refl (not-kind c.is_kind.ensures c.if-not-is_kind.true))

pub returns-then-not-is_kind-clause-conclusion : goal.returns-then-not-is_kind-clause-conclusion
returns-then-not-is_kind-clause-conclusion c =
    other-next _ _ c.requires.3 (other-kind c.block-block.ensures.part refl (not-kind c.is_kind.ensures c.if-not-is_kind.true))

pub overflow_cast-result-in-Some-PremiseAt : goal.overflow_cast-result-in-Some-PremiseAt
overflow_cast-result-in-Some-PremiseAt c =
    let pre = c.requires in let at = c.in-Some-PremiseAt.field-0-is in
    let rule = rule-at pre.0.laid pre.1 c.block-block.ensures.part refl (c.is_kind.ensures.0 c.if-not-is_kind.false) in
    let small = secret-small _ _ rule (rw at at c.in-Some-PremiseAt.ensures.answer) in grind (arith, small)

pub overflow_add-result : goal.overflow_add-result
overflow_add-result c =
    let pre = c.requires in let at = c.in-Some-ConclusionAt.field-0-is in
    let rule = rule-at pre.0.laid pre.1 c.block-block.ensures.part refl (c.is_kind.ensures.0 c.if-not-is_kind.false) in
    let small = place-small _ _ rule (rw at at c.in-Some-ConclusionAt.ensures.answer) in grind (arith, small)

pub overflow_cast-result-in-Some-ConclusionAt-2 : goal.overflow_cast-result-in-Some-ConclusionAt-2
overflow_cast-result-in-Some-ConclusionAt-2 c =
    let pre = c.requires in let at = c.in-Some-ConclusionAt.field-0-is in
    let rule = rule-at pre.0.laid pre.1 c.block-block.ensures.part refl (c.is_kind.ensures.0 c.if-not-is_kind.false) in
    let small = place-small _ _ rule (rw at at c.in-Some-ConclusionAt.ensures.answer) in grind (arith, small)

pub returns-in-Some-PremiseAt-clause-answer : goal.returns-in-Some-PremiseAt-clause-answer
returns-in-Some-PremiseAt-clause-answer c =
    let at = c.in-Some-PremiseAt.field-0-is in
    let told = next-found c.requires.0.heads _ c.block-block.ensures.part refl (c.is_kind.ensures.0 c.if-not-is_kind.false)
    _ _ c.is_none-asked.ensures (rw at at c.in-Some-PremiseAt.ensures.answer) in cc told

pub returns-in-Some-ConclusionAt-clause-answer : goal.returns-in-Some-ConclusionAt-clause-answer
returns-in-Some-ConclusionAt-clause-answer c =
    let at = c.in-Some-ConclusionAt.field-0-is in
    let told = next-found c.requires.0.heads _ c.block-block.ensures.part refl (c.is_kind.ensures.0 c.if-not-is_kind.false)
    _ _ c.is_none-asked.ensures (rw at at c.in-Some-ConclusionAt.ensures.answer) in cc told

pub returns-in-None-clause-answer : goal.returns-in-None-clause-answer
returns-in-None-clause-answer c =
    next-found c.requires.0.heads _ c.block-block.ensures.part refl (c.is_kind.ensures.0 c.if-not-is_kind.false)
    _ _ c.is_none-asked.ensures c.in-None.ensures.answer
