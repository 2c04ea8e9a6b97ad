-- Laws of the first number of which a claim does not hold: `first_not` finds it, and nothing else is it.
use mathlib.Core.Path.{◌≡◌, refl}
use mathlib.Core.Logic.{◌↔◌}
use Prim.Native.Nat.{ℕ, zero, suc, ◌+◌, ◌<◌, ◌≤◌}
use Rattle.std.specs.Option.{MatchOption}
use native.Mathlib.Omega.{arith}
use native.Mathlib.Decide.{dec_lt, ℕ_discrete}
use Rattle.terms.specs.First.{Found, FirstNot, fails, holds, first_from, first_not}
use Rattle.std.specs.Prelude.{Some, None}

-- What `find` tells, over a range from 0 on.
pub first-found : {P : ℕ → Type 0} (count : ℕ) {f : Found}
    → MatchOption f ((k : ℕ) → 0 ≤ k → k < count → P k) (λ n. (0 ≤ n) × (n < count) × ¬ P n × ((k : ℕ) → 0 ≤ k → k < n → P k)) → FirstNot P count f
first-found count {f = None} h = holds refl (λ k l. h k (omega arith) l)
first-found count {f = Some n} h = fails refl h.1 h.2 (λ k l. h.3 k (omega arith) l)

-- A claim that holds of the same numbers has the same first.
pub first-along : {P Q : ℕ → Type 0} {count : ℕ} → ((k : ℕ) → k < count → P k ↔ Q k) → {f : Found} → FirstNot P count f → FirstNot Q count f
first-along same (fails {n} e l off all) = fails e l (λ q. off ((same n l).1 q)) (λ k h. (same k (omega arith)).0 (all k h))
first-along same (holds e all) = holds e (λ k h. (same k h).0 (all k h))

module _ {P : ℕ → Type 0} (P? : (n : ℕ) → Dec (P n)) where
  -- What is found has the meaning.
  from_is : (i left : ℕ) → ((k : ℕ) → k < i → P k) → FirstNot P (i + left) (first_from P? i left)
  unfolding first_from
  from_is i zero all = holds refl (λ k h. all k (omega arith))
  from_is i (suc left) all = go (P? i) (λ p. from_is (suc i) left (more p))
    where
      more : P i → (k : ℕ) → k < suc i → P k
      more p k h = elim (ℕ_discrete k i) [ yes q ↦ rw q p | no n ↦ all k (omega arith) ]

      go : (d : Dec (P i)) → (P i → FirstNot P (suc i + left) (first_from P? (suc i) left))
          → FirstNot P (i + suc left) (elim d [ yes p ↦ first_from P? (suc i) left | no n ↦ Some i ])
      go (yes p) rest = let same : suc i + left ≡ i + suc left = omega arith in rw same at (rest p)
      go (no n) rest = fails refl (omega arith) n all

  pub first-is : (count : ℕ) → FirstNot P count (first_not P? count)
  unfolding first_not
  first-is count = let same : 0 + count ≡ count = omega arith in rw same at (from_is 0 count (λ k h. absurd (omega arith)))

  -- Nothing else has it.
  pub first-only : {count : ℕ} {f : Found} → FirstNot P count f → f ≡ first_not P? count
  first-only {count} {f} w = go w (first-is count)
    where
      same : (n m : ℕ) → ¬ P n → ¬ P m → ((k : ℕ) → k < n → P k) → ((k : ℕ) → k < m → P k) → n ≡ m
      same n m off off' all all' = elim (dec_lt n m) [
        | yes l ↦ absurd (off (all' n l))
        | no ge ↦ elim (dec_lt m n) [ yes l ↦ absurd (off' (all m l)) | no le ↦ omega arith ]
      ]

      go : {g h : Found} → FirstNot P count g → FirstNot P count h → g ≡ h
      go (fails {n} e l off all) (fails {n = m} e' l' off' all') = let q : n ≡ m = same n m off off' all all' in cc
      go (fails {n} e l off all) (holds e' all') = absurd (off (all' n l))
      go (holds e all) (fails {n} e' l off all') = absurd (off (all n l))
      go (holds e all) (holds e' all') = cc

  -- Nothing found: it holds of all.
  pub first_none : {count : ℕ} → first_not P? count ≡ None → (k : ℕ) → k < count → P k
  first_none {count} nothing = go (first-is count)
    where
      go : FirstNot P count (first_not P? count) → (k : ℕ) → k < count → P k
      go (fails e l off all) = let z : ◌≡◌ {A = ℕ} 0 1 = cc in absurd (omega arith)
      go (holds e all) = all
