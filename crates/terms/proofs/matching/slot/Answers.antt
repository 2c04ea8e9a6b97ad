-- `terms::matching::slot` meets its contract. Assumes nothing.
use Rattle.terms.proofs.AnswerLaws.{says-yes, says-no}
use native.Mathlib.Omega.{arith}
use Rattle.terms.proofs.SlotLaws.{slot-first}
use Rattle.terms.proofs.matching.slot.Goals as goal

pub returns-then-is_variable : goal.returns-then-is_variable
returns-then-is_variable c =
    omega (arith, c.first_slot.ensures.0, (slot-first c.requires).some-slot (says-yes c.is_variable.result c.is_variable.ensures c.if-is_variable.true))

pub returns-else-is_variable : goal.returns-else-is_variable
returns-else-is_variable c =
    let off = says-no c.is_variable.result c.is_variable.ensures c.if-is_variable.false in (slot-first c.requires).no_slot (omega (arith, off))
