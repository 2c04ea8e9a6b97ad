-- `terms::matching::is_nonce_term` meets its contract. Assumes nothing.
use native.Mathlib.Omega.{arith}
use mathlib.Core.Path.{◌≡◌}
use mathlib.Core.List.{List}
use Prim.Native.Nat.{ℕ, ◌<◌, ◌≤◌}
use native.Mathlib.Decide.{dec_lt}
use lib.Dec.{leb}
use borrow.Author.Tests.{ne_eqb}
use Rattle.terms.specs.declared.atom.Atom.{Atom}
use Rattle.terms.specs.Term.{range_of}
use Rattle.terms.specs.Instance.{NonceTerm}
use Rattle.terms.specs.Entry.{term_of, Begins}
use Rattle.terms.specs.Decisions.{says_same}
use Rattle.terms.specs.Slot.{slot_count, any_slots, slot_of}
use Rattle.terms.proofs.AnswerLaws.{says-le}
use Rattle.terms.proofs.NonceLaws.{nonce-variable, free-variable, nonce-first, other-first}
use Rattle.terms.proofs.matching.is_nonce_term.Goals as goal

-- A nonce variable has a high slot.
far : (atoms : List Atom) {e : List ℕ} → Begins e → {x : ℕ} → x ≡ slot_of (term_of e) → x < slot_count → NonceTerm atoms range_of (term_of e) → any_slots ≤ x
far atoms b {x} slot low is = elim (dec_lt x any_slots) [ yes near ↦ absurd (free-variable atoms b slot low near is) | no off ↦ omega arith ]

pub returns-then-x-lt-SLOTS : goal.returns-then-x-lt-SLOTS
returns-then-x-lt-SLOTS c =
    λ atoms told. says_same (leb any_slots c.slot-x.result) (λ far. nonce-variable atoms c.requires c.slot-x.ensures c.if-x-lt-SLOTS.true far)
    (λ is. far atoms c.requires c.slot-x.ensures c.if-x-lt-SLOTS.true is) (says-le any_slots c.slot-x.result)

pub returns-then-e-eq-ATOM : goal.returns-then-e-eq-ATOM
returns-then-e-eq-ATOM c =
    λ atoms told. nonce-first atoms c.requires c.if-e-eq-ATOM.true c.value.ensures.0 c.is_nonce.result (c.is_nonce.ensures atoms told)

pub returns-else-e-eq-ATOM : goal.returns-else-e-eq-ATOM
returns-else-e-eq-ATOM c =
    λ atoms told. rw (ne_eqb _ _ c.if-e-eq-ATOM.false) (other-first atoms c.requires c.slot-x.ensures c.if-x-lt-SLOTS.false c.if-e-eq-ATOM.false)
