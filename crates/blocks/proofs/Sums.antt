-- Laws of the two sums of specs/Check.antt: one byte more, and one byte changed. Assumes nothing.
use mathlib.Core.Path.{◌≡◌}
use mathlib.Core.List.{List, [], ◌∷◌}
use Prim.Native.Nat.{ℕ, zero, suc, ◌+◌, ◌*◌, ◌<◌}
use native.Mathlib.Nat.{le_of_suc-le-suc, not-suc-le-zero, add-zero, add-suc, suc-add}
use native.Mathlib.Omega.{arith}
use lib.ListN.{length, get_or, take, set}
use Rattle.blocks.specs.Check.{total, weighted, weight_of}

pub total-more : (l : List ℕ) (i : ℕ) → i < length l → total (take (suc i) l) ≡ total (take i l) + get_or l i 0
unfolding total
total-more [] i h = absurd (not-suc-le-zero h)
total-more (x ∷ l) zero h = omega arith
total-more (x ∷ l) (suc i) h = omega (arith, total-more l i (le_of_suc-le-suc h))

pub weighted-more : (k : ℕ) (l : List ℕ) (i : ℕ) → i < length l
    → weighted k (take (suc i) l) ≡ weighted k (take i l) + weight_of (k + i) * get_or l i 0
unfolding weighted
weighted-more k [] i h = absurd (not-suc-le-zero h)
weighted-more k (x ∷ l) zero h = rw (add-zero k) (omega arith)
weighted-more k (x ∷ l) (suc i) h =
    rw (add-suc k i) (omega (arith, rw (suc-add k i) at (weighted-more (suc k) l i (le_of_suc-le-suc h))))

pub total-set : (l : List ℕ) (i v : ℕ) → i < length l → total (set l i v) + get_or l i 0 ≡ total l + v
unfolding total
total-set [] i v h = absurd (not-suc-le-zero h)
total-set (x ∷ l) zero v h = omega arith
total-set (x ∷ l) (suc i) v h = omega (arith, total-set l i v (le_of_suc-le-suc h))

pub weighted-set : (k : ℕ) (l : List ℕ) (i v : ℕ) → i < length l
    → weighted k (set l i v) + weight_of (k + i) * get_or l i 0 ≡ weighted k l + weight_of (k + i) * v
unfolding weighted
weighted-set k [] i v h = absurd (not-suc-le-zero h)
weighted-set k (x ∷ l) zero v h = rw (add-zero k) (omega arith)
weighted-set k (x ∷ l) (suc i) v h =
    rw (add-suc k i) (omega (arith, rw (suc-add k i) at (weighted-set (suc k) l i v (le_of_suc-le-suc h))))
