-- Laws of what is said of each entry.
use mathlib.Core.Path.{◌≡◌}
use mathlib.Core.List.{List, [], ◌∷◌}
use Prim.Native.Nat.{ℕ, zero, suc, ◌*◌, ◌/◌, ◌%◌, ◌<◌}
use native.Mathlib.Omega.{arith}
use lib.ListN.{length, take, drop}
use lib.Seq.{take-nil, drop-nil}
use Rattle.terms.specs.Each.{Each, none_left, one_more, EntryIs}

module _ {P : ℕ → ℕ → ℕ → Type 0} where
  -- Of each entry, if of the entry of each number.
  pub each_of : (e : List ℕ) → length e % 4 ≡ 0 → ((n : ℕ) → n < length e / 4 → EntryIs P e n) → Each P e
  each_of [] m all = none_left
  each_of (a ∷ []) m all = absurd (omega arith)
  each_of (a ∷ b ∷ []) m all = absurd (omega arith)
  each_of (a ∷ b ∷ c ∷ []) m all = absurd (omega arith)
  each_of (a ∷ b ∷ c ∷ d ∷ e) m all = one_more (all 0 (omega arith)) (each_of e (omega arith) (λ n h. later n (all (suc n) (omega arith))))
    where
      later : (n : ℕ) → EntryIs P (a ∷ b ∷ c ∷ d ∷ e) (suc n) → EntryIs P e n
      later n p = let far : 4 * suc n ≡ suc (suc (suc (suc (4 * n)))) = omega arith in rw far at p

  -- Of each entry after the first n, and of the first n.
  pub each-drop : {e : List ℕ} (n : ℕ) → Each P e → Each P (drop (4 * n) e)
  each-drop zero r = r
  each-drop (suc n) none_left = rw (drop-nil (4 * suc n)) none_left
  each-drop (suc n) (one_more p r) = let far : 4 * suc n ≡ suc (suc (suc (suc (4 * n)))) = omega arith in rw far (each-drop n r)

  pub each_take : {e : List ℕ} (n : ℕ) → Each P e → Each P (take (4 * n) e)
  each_take zero r = none_left
  each_take (suc n) none_left = rw (take-nil (4 * suc n)) none_left
  each_take (suc n) (one_more p r) = let far : 4 * suc n ≡ suc (suc (suc (suc (4 * n)))) = omega arith in rw far (one_more p (each_take n r))

  -- What follows of each entry.
  pub each_map : {Q : ℕ → ℕ → ℕ → Type 0} → ((t z v : ℕ) → P t z v → Q t z v) → {e : List ℕ} → Each P e → Each Q e
  each_map f none_left = none_left
  each_map f (one_more p r) = one_more (f _ _ _ p) (each_map f r)
