-- Tests joined by `&&`, taken apart, and a test computed below a bound. Assumes nothing.
use mathlib.Core.Path.{◌≡◌, refl, ap, ◌∙◌}
use mathlib.Core.Bool.{Bool, true, false, ◌&&◌}
use mathlib.Core.Logic.{⊎_elim}
use Prim.Native.Nat.{ℕ, zero, suc, ◌<◌}
use native.Mathlib.Nat.{le_of_suc-le-suc, not-suc-le-zero, eq-or-lt_of_le}

pub both_left : (s t : Bool) → s && t ≡ true → s ≡ true
both_left true t h = refl
both_left false t h = h

pub both_right : (s t : Bool) → s && t ≡ true → t ≡ true
both_right true t h = h
both_right false true h = refl
both_right false false h = h

pub both : {s t : Bool} → s ≡ true → t ≡ true → s && t ≡ true
both {s} {t} p q = ap (λ (x : Bool). x && t) p ∙ q

-- The test f holds of every number below n: antt computes it.
abbrev pub all_below : (ℕ → Bool) → ℕ → Bool
all_below f zero = true
all_below f (suc n) = f n && all_below f n

pub below : (f : ℕ → Bool) (n : ℕ) → all_below f n ≡ true → (k : ℕ) → k < n → f k ≡ true
below f zero h k l = absurd (not-suc-le-zero l)
below f (suc n) h k l =
    ⊎_elim (λ (e : k ≡ n). rw e (both_left (f n) (all_below f n) h)) (below f n (both_right (f n) (all_below f n) h) k)
    (eq-or-lt_of_le (le_of_suc-le-suc l))
