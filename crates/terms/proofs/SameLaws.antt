-- Laws of sameness on entries: two terms are the same if their entries are, one after the other.
use mathlib.Core.Path.{◌≡◌, refl, sym, ◌∙◌}
use mathlib.Core.Bool.{Bool, true, false}
use mathlib.Core.List.{List}
use mathlib.Core.Logic.{◌↔◌}
use Prim.Native.Nat.{ℕ, ◌+◌, ◌*◌, ◌-◌}
use native.Mathlib.Omega.{arith}
use lib.Dec.{eqb}
use borrow.Author.Tests.{eqb-true, eqb-false}
use Rattle.terms.specs.Term.{Term, variable, Variable, replace}
use Rattle.terms.specs.Tag.{children_of}
use Rattle.terms.specs.Entry.{term_of, Begins, tag_at, value_at, from}
use Rattle.terms.specs.Decisions.{Says, says_same}
use Rattle.terms.specs.Occurs.{replace-none}
use Rattle.terms.specs.Decide.{answer, variable?, term?}
use Rattle.terms.specs.Front.{front_of, Front, Takes, SameFirst, Word, Alike}
use Rattle.terms.proofs.AnswerLaws.{says-answer}
use Rattle.terms.proofs.EntryLaws.{zero-byte}
use Rattle.terms.proofs.FrontLaws.{opened, next-term, next-symbol, other-symbol, alike-term, none-compared, front-few}

-- One term against one.
pub one-term : {e f : List ℕ} → Begins e → Begins f → (by : Variable → Term Variable) → Takes by 1 e f ↔ (replace by (term_of e) ≡ term_of f)
one-term b d by =
    let n = next-term 1 (front-few b (omega arith)) (front-few d (omega arith)) (omega arith) by in
    (λ h. (n.0 h).0, λ h. n.1 (h, none-compared by _ _ refl))

-- One term against one, with replacements on both sides.
pub alike-none : (by by' : Variable → Term Variable) (e f : List ℕ) {need : ℕ} → need ≡ 0 → Alike by by' need e f
unfolding front_of
alike-none by by' e f is = record { same = rw is refl }

pub alike-one : {e f : List ℕ} → Begins e → Begins f → (by by' : Variable → Term Variable)
    → Alike by by' 1 e f ↔ (replace by (term_of e) ≡ replace by' (term_of f))
alike-one b d by by' =
    let n = alike-term 1 (front-few b (omega arith)) (front-few d (omega arith)) (omega arith) by by' in
    (λ h. (n.0 h).0, λ h. n.1 (h, alike-none by by' _ _ refl))

-- Each variable replaced by itself: the terms are the same.
pub same-term : {e f : List ℕ} → Begins e → Begins f → Takes variable 1 e f ↔ (term_of e ≡ term_of f)
same-term {e} b d =
    let n = one-term b d variable in
    (λ h. sym (replace-none (term_of e)) ∙ n.0 h, λ h. n.1 (replace-none (term_of e) ∙ h))

-- The answer of the walk is that of the decision.
pub same_answer : {e f : List ℕ} → Begins e → Begins f → (b : Bool) → Says b (Takes variable 1 e f) → b ≡ answer (term? variable? (term_of e) (term_of f))
same_answer b d r says = let m = same-term b d in says-answer r (says_same r m.0 m.1 says) (term? variable? _ _)

-- Entries of terms are the same if they are the same number: their second bytes are zero.
pub same_word : {e f : List ℕ} → Begins e → Begins f → (a b : ℕ) → Word e a → Word f b → Says (eqb a b) (SameFirst e f)
same_word {e} {f} b d m n p q = go (eqb m n) refl
  where
    left : m ≡ tag_at e + 65536 * value_at e
    left = omega (arith, p.is, zero-byte b.reads)

    right : n ≡ tag_at f + 65536 * value_at f
    right = omega (arith, q.is, zero-byte d.reads)

    go : (c : Bool) → eqb m n ≡ c → Says c (SameFirst e f)
    go true h = let is = eqb-true m n h in record { tag = omega (arith, p.low, q.low, left, right); value = omega (arith, p.low, q.low, left, right) }
    go false h = λ is. let tag = is.tag in let value = is.value in eqb-false m n h (omega (arith, left, right))

-- What an answer says.
pub said : {P : Type 0} {b : Bool} → b ≡ true → Says b P → P
said {P} {b} is h = rw is at h

pub denied : {P : Type 0} {b : Bool} → b ≡ false → Says b P → ¬ P
denied {P} {b} is h = rw is at h

-- The steps of the walk that tells whether terms are the same; k is the number of the first entry's children.
module _ {need : ℕ} {e f : List ℕ} (ready : Front need e × Front need f) (some_left : ¬ (need ≡ 0)) where
  pub same-below : SameFirst e f → {k : ℕ} → k ≡ children_of (tag_at e) → Front (need - 1 + k) (from 4 e) × Front (need - 1 + k) (from 4 f)
  same-below first-same is = (
    rw is (opened need ready.0 some_left).below,
    rw (is, first-same.tag) (opened need ready.1 some_left).below,
  )

  pub same_step : SameFirst e f → {k : ℕ} → k ≡ children_of (tag_at e) → (b : Bool) → Says b (Takes variable (need - 1 + k) (from 4 e) (from 4 f))
      → Says b (Takes variable need e f)
  same_step first-same {k} is b says =
      let step = next-symbol need ready.0 ready.1 some_left variable (λ x h. refl) first-same in
      says_same b step.1 step.0 (rw is at says)

  pub same-clash : ¬ SameFirst e f → ¬ Takes variable need e f
  same-clash = other-symbol need ready.0 ready.1 some_left variable (λ x h. refl)
