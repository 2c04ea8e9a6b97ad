-- `terms::matching::match_front` meets its contract; the measure is the length. Assumes nothing.
use native.Mathlib.Omega.{arith}
use Rattle.terms.proofs.AnswerLaws.{says-yes, says-no}
use Rattle.terms.proofs.EntryLaws.{begins-tag}
use Rattle.terms.proofs.FrontLaws.{front-begins}
use Rattle.terms.proofs.SameLaws.{said, denied}
use Rattle.terms.proofs.MatchLaws.{made_none, pattern-begins, subject-begins, comparable, variable-ready, variable-step, variable-last, variable-clash}
use Rattle.terms.proofs.MatchLaws.{variable-nonces, variable-refused}
use Rattle.terms.proofs.MatchLaws.{symbol-ready, symbol-step, symbol-clash}
use borrow.Author.Rules.{rules}
use Rattle.terms.proofs.matching.+match_front.Goals as goal
use Rattle.terms.proofs.matching.+match_front.Goals.{then-not-may_take-via-then-not-may_take, then-not-may_take-via-else-not-may_take+then-not-bindable}

pub returns-then-need-eq0 : goal.returns-then-need-eq0
returns-then-need-eq0 t c = λ atoms told held. made_none c.if-need-eq0.true held

pub slot-x-requires : goal.slot-x-requires
slot-x-requires t c = pattern-begins c.requires c.if-need-eq0.false

pub may_take-requires : goal.may_take-requires
may_take-requires t c =
    let ready = c.requires in let inside = ready.inside in (subject-begins ready c.if-need-eq0.false, omega arith, ready.small)

pub returns-then-not-may_take : goal.returns-then-not-may_take
returns-then-not-may_take t c = λ atoms told held. elim c.then-not-may_take.branch [
  | then-not-may_take-via-then-not-may_take w ↦ variable-refused c.requires c.if-need-eq0.false c.slot-x.ensures c.if-x-lt-SLOTS.true (search rules) atoms
      (says-no c.may_take.result (c.may_take.ensures atoms told) w.if-not-may_take.true)
  | then-not-may_take-via-else-not-may_take+then-not-bindable w ↦ variable-clash c.requires c.if-need-eq0.false c.slot-x.ensures c.if-x-lt-SLOTS.true (search rules) atoms
      (denied w.if-not-bindable.true w.bindable.ensures)
]

pub bindable-requires : goal.bindable-requires
bindable-requires t c =
    comparable c.requires c.if-need-eq0.false c.slot-x.ensures c.if-x-lt-SLOTS.true (search rules)

pub returns-then-need-eq1 : goal.returns-then-need-eq1
returns-then-need-eq1 t c =
    λ atoms told held. let free = said c.if-not-bindable.false c.bindable.ensures in
    variable-last c.requires c.if-need-eq0.false c.slot-x.ensures c.if-x-lt-SLOTS.true (search rules) atoms c.if-need-eq1.true held
    (says-yes c.may_take.result (c.may_take.ensures atoms told) (c.if-not-may_take.false)) free

pub term_size-requires : goal.term_size-requires
term_size-requires t c = subject-begins c.requires c.if-need-eq0.false

pub match_front-requires : goal.match_front-requires
match_front-requires t c = (
  search rules,
  variable-ready c.requires c.if-need-eq0.false c.slot-x.ensures c.if-x-lt-SLOTS.true (search rules) c.term_size.ensures.0 c.bind.ensures,
)

pub same_entry-requires : goal.same_entry-requires
same_entry-requires t c =
    let ready = c.requires in (front-begins ready.pattern c.if-need-eq0.false, front-begins ready.subject c.if-need-eq0.false)

pub children-requires : goal.children-requires
children-requires t c = begins-tag (pattern-begins c.requires c.if-need-eq0.false)

pub match_front-requires-then-same_entry : goal.match_front-requires-then-same_entry
match_front-requires-then-same_entry t c = (
  search rules,
  symbol-ready c.requires c.if-need-eq0.false c.slot-x.ensures c.if-x-lt-SLOTS.false (said c.if-same_entry.true c.same_entry.ensures) c.children.ensures.0,
)

pub returns-else-need-eq1 : goal.returns-else-need-eq1
returns-else-need-eq1 t c =
    λ atoms told held. let may = says-yes c.may_take.result (c.may_take.ensures atoms told) (c.if-not-may_take.false) in
    variable-step c.requires c.if-need-eq0.false c.slot-x.ensures c.if-x-lt-SLOTS.true (search rules) atoms c.term_size.ensures.0 c.bind.ensures
    (said c.if-not-bindable.false c.bindable.ensures) c.match_front.result
    (c.match_front.ensures atoms told
    (variable-nonces c.requires c.if-need-eq0.false c.slot-x.ensures c.if-x-lt-SLOTS.true (search rules) atoms held may c.bind.ensures))

pub returns-then-same_entry : goal.returns-then-same_entry
returns-then-same_entry t c =
    λ atoms told held. symbol-step c.requires c.if-need-eq0.false c.slot-x.ensures c.if-x-lt-SLOTS.false atoms (said c.if-same_entry.true c.same_entry.ensures)
    c.children.ensures.0 c.match_front-then-same_entry.result (c.match_front-then-same_entry.ensures atoms told held)

pub returns-else-same_entry : goal.returns-else-same_entry
returns-else-same_entry t c =
    λ atoms told held. rw c.if-same_entry.false (symbol-clash c.requires c.if-need-eq0.false c.slot-x.ensures c.if-x-lt-SLOTS.false atoms (denied c.if-same_entry.false c.same_entry.ensures))
