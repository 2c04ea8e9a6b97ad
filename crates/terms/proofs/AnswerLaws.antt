-- Laws of answers: what the answer of a decision says, and what the answers of tests say.
use mathlib.Core.Path.{◌≡◌, refl, sym}
use mathlib.Core.Bool.{Bool, true, false, true≢false, false≢true}
use Prim.Native.Nat.{ℕ, ◌<◌, ◌≤◌}
use native.Mathlib.Omega.{arith}
use lib.Dec.{eqb, ltb, leb}
use borrow.Author.Tests.{eqb-true, eqb-false, ltb-true, ltb-false, leb-true, leb-false}
use Rattle.terms.specs.Decisions.{Says}
use Rattle.terms.specs.Decide.{answer}

-- What holds is answered by yes, what does not by no.
pub answer-yes : {P : Type 0} (d : Dec P) → P → answer d ≡ true
answer-yes (yes p) h = refl
answer-yes (no n) h = absurd (n h)

pub answer-no : {P : Type 0} (d : Dec P) → ¬ P → answer d ≡ false
answer-no (yes p) h = absurd (h p)
answer-no (no n) h = refl

-- What is answered by yes holds, what is answered by no does not.
pub yes_of : {P : Type 0} (d : Dec P) → answer d ≡ true → P
yes_of (yes p) e = p
yes_of (no n) e = absurd (false≢true e)

pub no_of : {P : Type 0} (d : Dec P) → answer d ≡ false → ¬ P
no_of (yes p) e = absurd (true≢false e)
no_of (no n) e = n

-- An answer that says truly is the answer of any decision.
pub says-answer : {P : Type 0} (b : Bool) → Says b P → (d : Dec P) → b ≡ answer d
says-answer true p d = sym (answer-yes d p)
says-answer false n d = sym (answer-no d n)

-- What an answer says.
pub answer-says : {P : Type 0} (b : Bool) (d : Dec P) → b ≡ answer d → Says b P
answer-says true d is = yes_of d (sym is)
answer-says false d is = no_of d (sym is)

-- Decisions of claims that follow from each other have the same answer.
pub answer-same : {P Q : Type 0} (d : Dec P) (e : Dec Q) → (P → Q) → (Q → P) → answer d ≡ answer e
answer-same (yes p) e f g = sym (answer-yes e (f p))
answer-same (no n) e f g = sym (answer-no e (λ q. n (g q)))

-- An answer that is yes just where the claim holds says so.
pub says_iff : {P : Type 0} (b : Bool) → (b ≡ true → P) → (P → b ≡ true) → Says b P
says_iff true yes' back = yes' refl
says_iff false yes' back = λ p. let z : ◌≡◌ {A = Bool} false true = back p in absurd (false≢true z)

-- What the test of two numbers says.
pub says_eq : (a b : ℕ) → Says (eqb a b) (a ≡ b)
says_eq a b = go (eqb a b) refl
  where
    go : (t : Bool) → eqb a b ≡ t → Says t (a ≡ b)
    go true e = eqb-true a b e
    go false e = eqb-false a b e

pub says-lt : (a b : ℕ) → Says (ltb a b) (a < b)
says-lt a b = go (ltb a b) refl
  where
    go : (t : Bool) → ltb a b ≡ t → Says t (a < b)
    go true e = ltb-true a b e
    go false e = λ h. omega (arith, ltb-false a b e)

pub says-le : (a b : ℕ) → Says (leb a b) (a ≤ b)
says-le a b = go (leb a b) refl
  where
    go : (t : Bool) → leb a b ≡ t → Says t (a ≤ b)
    go true e = leb-true a b e
    go false e = λ h. omega (arith, leb-false a b e)

-- What a true answer says, and a false one.
pub says-yes : {P : Type 0} (b : Bool) → Says b P → b ≡ true → P
says-yes true p e = p
says-yes false n e = let z : ◌≡◌ {A = ℕ} 0 1 = cc in absurd (omega arith)

pub says-no : {P : Type 0} (b : Bool) → Says b P → b ≡ false → ¬ P
says-no true p e = let z : ◌≡◌ {A = ℕ} 0 1 = cc in absurd (omega arith)
says-no false n e = n
