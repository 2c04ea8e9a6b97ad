-- `judge::listed::root_slot` meets its contract. Assumes nothing.
use native.Mathlib.Omega.{arith}
use Rattle.terms.proofs.AnswerLaws.{says-yes, says-no}
use Rattle.terms.proofs.EntryLaws.{from-length}
use Rattle.judge.proofs.Stages.Roots.{slot-pair, slot-wrapper, slot-atom, slot-variable, pair-room}
use borrow.Author.Rules.{rules}
use Rattle.judge.proofs.listed.root_slot.Goals as goal

pub value-requires : goal.value-requires
value-requires c = omega (arith, pair-room c.requires c.in-2.is, from-length 4 c.args.e.now)

pub returns-in-2 : goal.returns-in-2
returns-in-2 c = (slot-pair c.args.e.now c.in-2.is c.value.ensures.0, omega arith)

pub returns-in-1 : goal.returns-in-1
returns-in-1 c = (slot-atom c.args.e.now c.in-1.is c.value-in-1.ensures.0, omega arith)

pub returns-in_default : goal.returns-in_default
returns-in_default c =
    (slot-variable c.args.e.now c.requires (says-yes c.is_variable.result c.is_variable.ensures c.if-is_variable.true) c.value-in_default.ensures.0, omega arith)

pub returns-in_default-2 : goal.returns-in_default-2
returns-in_default-2 c =
    (slot-wrapper c.args.e.now (says-no c.is_variable.result c.is_variable.ensures c.if-is_variable.false) (search rules) (search rules) c.value-in_default-2.ensures.0, omega arith)
