-- Laws of specs/Columns.antt: the bytes of a block added up by columns give the sums of specs/Check.antt, and a column's two
-- plain sums its weighted one. Assumes nothing.
use mathlib.Core.Path.{◌≡◌, refl, sym, ap, ◌∙◌}
use mathlib.Core.List.{List}
use Prim.Native.Nat.{ℕ, zero, suc, ◌+◌, ◌-◌, ◌*◌, ◌%◌, ◌≤◌}
use native.Mathlib.Nat.{add-zero, zero-add, add-suc, mul-zero, mul-suc, add-mul, mul-add}
use native.Mathlib.Numerals.{add-one}
use native.Mathlib.Omega.{arith}
use lib.ListN.{length, get_or, take}
use Rattle.blocks.specs.Limits.{block_size}
use Rattle.blocks.specs.Block.{byte_at}
use Rattle.blocks.specs.Check.{total, weighted, weight_of, check_a, check_b}
use Rattle.blocks.specs.Columns.{sum_of, place_of, cell, column_sum, column_below, column_weighted}
use Rattle.blocks.proofs.Sums.{total-more, weighted-more}

-- ---- sums over the numbers below a bound

sum-none : (n : ℕ) → sum_of (λ i. 0) n ≡ 0
unfolding sum_of
sum-none zero = refl
sum-none (suc n) = omega (arith, sum-none n)

-- One sum after the other.
pub sum-split : (f : ℕ → ℕ) (m n : ℕ) → sum_of f (m + n) ≡ sum_of f m + sum_of (λ i. f (m + i)) n
unfolding sum_of
sum-split f m zero = rw (add-zero m) (omega arith)
sum-split f m (suc n) = rw (add-suc m n) (omega (arith, sum-split f m n))

-- Two sums side by side.
sum-add : (f g : ℕ → ℕ) (n : ℕ) → sum_of (λ i. f i + g i) n ≡ sum_of f n + sum_of g n
unfolding sum_of
sum-add f g zero = refl
sum-add f g (suc n) = omega (arith, sum-add f g n)

-- What stands in n rows of w is added up row by row or column by column.
sum_rows : (w : ℕ) (f : ℕ → ℕ) (n : ℕ) → sum_of f (w * n) ≡ sum_of (λ k. sum_of (λ row. f (w * row + k)) n) w
unfolding sum_of
sum_rows w f zero = rw (mul-zero w) (sym (sum-none w))
sum_rows w f (suc n) =
    let row : ℕ → ℕ = λ k. f (w * n + k) in
    let above : ℕ → ℕ = λ k. sum_of (λ r. f (w * r + k)) n in
    let split : sum_of f (w * n + w) ≡ sum_of f (w * n) + sum_of row w = sum-split f (w * n) w in
    let both : sum_of (λ k. above k + row k) w ≡ sum_of above w + sum_of row w = sum-add above row w in
    rw (mul-suc w n) (omega (arith, split, both, sum_rows w f n))

-- ---- the columns of a block

-- Bytes 0 to 507 are the header's four and the 24 columns'.
by-columns : (f : ℕ → ℕ) → sum_of f 508 ≡ sum_of f 4 + sum_of (λ k. sum_of (λ row. f (place_of k row)) 21) 24
by-columns f = sum-split f 4 504 ∙ ap (λ (n : ℕ). sum_of f 4 + n) (sum_rows 24 (λ i. f (4 + i)) 21)

total-sum : (l : List ℕ) (n : ℕ) → n ≤ length l → total (take n l) ≡ sum_of (λ i. get_or l i 0) n
unfolding sum_of total
total-sum l zero h = refl
total-sum l (suc n) h = omega (arith, total-more l n h, total-sum l n (omega arith))

weighted-sum : (l : List ℕ) (n : ℕ) → n ≤ length l → weighted 0 (take n l) ≡ sum_of (λ i. weight_of i * get_or l i 0) n
unfolding sum_of weighted
weighted-sum l zero h = refl
weighted-sum l (suc n) h = omega (arith, rw (zero-add n) at (weighted-more 0 l n h), weighted-sum l n (omega arith))

-- The header and the columns give A and B: the check bytes are those of before (02, No. 6).
pub columns-a : (b : List ℕ) → length b ≡ block_size
    → (sum_of (λ i. byte_at b i) 4 + sum_of (column_sum b) 24) % 65521 ≡ check_a b
unfolding column_sum check_a
columns-a b size = ap (λ (n : ℕ). n % 65521) (sym (total-sum b 508 (omega arith) ∙ by-columns (λ i. byte_at b i)))

pub columns-b : (b : List ℕ) → length b ≡ block_size
    → (sum_of (λ i. weight_of i * byte_at b i) 4 + sum_of (column_weighted b) 24) % 65521 ≡ check_b b
unfolding column_weighted check_b
columns-b b size = ap (λ (n : ℕ). n % 65521) (sym (weighted-sum b 508 (omega arith) ∙ by-columns (λ i. weight_of i * byte_at b i)))

-- ---- the weights of a column

-- A row more, w being the weight of its byte.
row_step : (below sum x w : ℕ) {s : ℕ} → s ≡ 24 * below + (24 + w) * sum → s + w * x ≡ 24 * (below + sum) + w * (sum + x)
row_step below sum x w h = omega (arith, add-mul 24 w sum, mul-add w sum x)

-- After n rows, where 24 - k is the weight of the column's last byte.
column-rows : (c : ℕ → ℕ) (k : ℕ) → k ≤ 24 → (n : ℕ) → n ≤ 21
    → sum_of (λ row. weight_of (place_of k row) * c row) n ≡ 24 * sum_of (sum_of c) n + (24 * (21 - n) + (24 - k)) * sum_of c n
unfolding sum_of
column-rows c k few zero h = omega (arith, mul-zero (24 * 21 + (24 - k)))
column-rows c k few (suc n) h =
    let w : ℕ = 24 * (21 - suc n) + (24 - k) in
    let here : weight_of (place_of k n) ≡ w = omega arith in
    let above : 24 * (21 - n) + (24 - k) ≡ 24 + w = omega arith in
    rw here (row_step (sum_of (sum_of c) n) (sum_of c n) (c n) w (rw above at (column-rows c k few n (omega arith))))

-- A byte weighs 24 for each row below its own, and 24 less its column.
pub column-weights : (b : List ℕ) (k : ℕ) → k ≤ 24 → column_weighted b k ≡ 24 * column_below b k + (24 - k) * column_sum b k
unfolding column_weighted column_below column_sum
column-weights b k few = rw (zero-add (24 - k)) at (column-rows (cell b k) k few 21 (omega arith))

-- ---- a turn of the code's loops

-- A sum goes on by one.
pub sum_step : (f : ℕ → ℕ) (n : ℕ) {s x : ℕ} → s ≡ sum_of f n → x ≡ f n → s + x ≡ sum_of f (n + 1)
unfolding sum_of
sum_step f n p q = rw (add-one n) (omega arith)
