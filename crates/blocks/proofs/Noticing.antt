-- What the check notices: just one changed byte, or two unequal bytes exchanged, among the first 508. Assumes nothing.
use mathlib.Core.Path.{◌≡◌, refl, sym, ap, ◌∙◌}
use mathlib.Core.Bool.{Bool, true, false, cond}
use mathlib.Core.List.{List}
use Prim.Native.Nat.{ℕ, ◌+◌, ◌-◌, ◌*◌, ◌%◌, ◌≤◌, ◌<◌}
use native.Mathlib.Nat.{mul-mod_right, mul-add, add-mul, mul-le-mul, mul-pos, one-mul, zero-add}
use native.Mathlib.Decide.{dec_lt}
use native.Mathlib.Omega.{arith}
use lib.Dec.{eqb}
use lib.ListN.{length, take, set, length-set}
use lib.Seq.{length-take-le, get_or-take, take-set-lt, get_or-set_other, set_comm}
use borrow.Author.Tests.{eq-eqb, eqb-true}
use Rattle.blocks.specs.Block.{byte_at, word_at}
use Rattle.blocks.specs.Check.{total, weighted, weight_of, check_a, check_b, SameCheck, CheckRight, check_right, exchanged}
use Rattle.blocks.proofs.Tests.{below}
use Rattle.blocks.proofs.Sums.{total-set, weighted-set}
use Rattle.blocks.proofs.Sealing.{check-right}

-- A divisor of 65,521 is 1: antt computes this test at every distance below 508.
distance : ℕ → Bool
distance d = cond (eqb (65521 % d) 0) (eqb d 1) true

-- 65,521 is no product of a distance below 508 and a difference below 256.
no-product : (d e : ℕ) → d < 508 → e < 256 → d * e ≡ 65521 → ⊥
unfolding distance
no-product d e hd he h =
    let divides : 65521 % d ≡ 0 = rw h at (mul-mod_right d e) in
    let one : eqb d 1 ≡ true = rw (eq-eqb _ _ divides) at (below distance 508 refl d hd) in
    let same : d ≡ 1 = eqb-true d 1 one in
    let whole : e ≡ 65521 = rw (same, one-mul) at h in
    omega arith

-- Two sums that differ by such a product differ modulo 65,521.
apart : (w v d e : ℕ) → 0 < d → d < 508 → 0 < e → e < 256 → v ≡ w + d * e → v % 65521 ≡ w % 65521 → ⊥
apart w v d e dp hd ep he sum same =
    let few : d ≤ 507 = omega arith in
    let small : e ≤ 255 = omega arith in
    let most : d * e ≤ 507 * 255 = mul-le-mul few small in
    let some : 0 < d * e = mul-pos dp ep in
    let no : d * e ≡ 65521 → ⊥ = no-product d e hd he in
    omega arith

-- The two sums after one changed byte.
module _ (b : List ℕ) (size : length b ≡ 512) where
  before-check : {i : ℕ} → i < 508 → i < length (take 508 b)
  before-check {i} h = rw (length-take-le 508 b (omega arith)) h

  a-of-set : (i v : ℕ) → i < 508 → total (take 508 (set b i v)) + byte_at b i ≡ total (take 508 b) + v
  a-of-set i v h = rw (take-set-lt 508 b i v h, ← get_or-take 508 b i 0 h) (total-set (take 508 b) i v (before-check h))

  b-of-set : (i v : ℕ) → i < 508
      → weighted 0 (take 508 (set b i v)) + weight_of i * byte_at b i ≡ weighted 0 (take 508 b) + weight_of i * v
  b-of-set i v h =
      rw (take-set-lt 508 b i v h, ← get_or-take 508 b i 0 h)
      (rw (zero-add i) at (weighted-set 0 (take 508 b) i v (before-check h)))

-- Just one changed byte among the first 508 always gives another check.
pub change-noticed : (b : List ℕ) (i v : ℕ) → length b ≡ 512 → i < 508 → byte_at b i < 256 → v < 256
    → (v ≡ byte_at b i → ⊥) → SameCheck (set b i v) b → ⊥
unfolding check_a
change-noticed b i v size h x y other same = omega (arith, a-of-set b size i v h, same.same_a)

-- The sums before and after an exchange, where the weights are w and w + d.
exchange-sum : (s s1 s2 w d x y : ℕ) → s1 + (w + d) * x ≡ s + (w + d) * y → s2 + w * y ≡ s1 + w * x → s2 + d * x ≡ s + d * y
exchange-sum s s1 s2 w d x y p q = omega (arith, add-mul w d x, add-mul w d y)

-- So the two sums differ modulo 65,521.
exchange-apart : (s v d x y : ℕ) → v + d * x ≡ s + d * y → 0 < d → d < 508 → x < 256 → y < 256 → (x ≡ y → ⊥)
    → v % 65521 ≡ s % 65521 → ⊥
exchange-apart s v d x y sum dp hd hx hy other same = go (dec_lt x y)
  where
    go : Dec (x < y) → ⊥
    go (yes less) =
        let whole : x + (y - x) ≡ y = omega arith in
        let split : d * y ≡ d * x + d * (y - x) = rw whole at (mul-add d x (y - x)) in
        apart s v d (y - x) dp hd (omega arith) (omega arith) (omega arith) same
    go (no more) =
        let whole : y + (x - y) ≡ x = omega arith in
        let split : d * x ≡ d * y + d * (x - y) = rw whole at (mul-add d y (x - y)) in
        apart v s d (x - y) dp hd (omega arith) (omega arith) (omega arith) (sym same)

-- The same of a block, where i is the lower place.
exchange-above : (b : List ℕ) (i j : ℕ) → length b ≡ 512 → i < j → j < 508 → byte_at b i < 256 → byte_at b j < 256
    → (byte_at b i ≡ byte_at b j → ⊥) → check_b (exchanged b i j) ≡ check_b b → ⊥
unfolding check_b
exchange-above b i j size l h hx hy other same =
    let x = byte_at b i in
    let y = byte_at b j in
    let once = set b i y in
    let weights : weight_of i ≡ weight_of j + (j - i) = omega arith in
    let before : i < 508 = omega arith in
    let still : byte_at once j ≡ y = get_or-set_other b i j y 0 (omega arith) in
    let first = rw weights at (b-of-set b size i y before) in
    let second = rw still at (b-of-set once (length-set b i y ∙ size) j x h) in
    exchange-apart (weighted 0 (take 508 b)) (weighted 0 (take 508 (exchanged b i j))) (j - i) x y
    (exchange-sum _ _ _ (weight_of j) (j - i) x y first second) (omega arith) (omega arith) hx hy other same

-- Two unequal bytes exchanged among the first 508 always give another check.
pub exchange-noticed : (b : List ℕ) (i j : ℕ) → length b ≡ 512 → i < 508 → j < 508 → byte_at b i < 256 → byte_at b j < 256
    → (byte_at b i ≡ byte_at b j → ⊥) → SameCheck (exchanged b i j) b → ⊥
exchange-noticed b i j size hi hj hx hy other same = go (dec_lt i j) (dec_lt j i)
  where
    go : Dec (i < j) → Dec (j < i) → ⊥
    go (yes l) d = exchange-above b i j size l hj hx hy other same.same_b
    go (no g) (yes l) =
        exchange-above b j i size l hi hy hx (λ e. other (sym e))
        (ap check_b (set_comm b j i (byte_at b i) (byte_at b j) (omega arith)) ∙ same.same_b)
    go (no g) (no k) =
        let equal : i ≡ j = omega arith in
        other (ap (byte_at b) equal)

-- ---- so the test refuses the damaged block

refused : (b c : List ℕ) → CheckRight b → word_at c 508 ≡ word_at b 508 → word_at c 510 ≡ word_at b 510
    → (SameCheck c b → ⊥) → check_right c ≡ false
refused b c right p q other = go (check_right c) refl
  where
    go : (t : Bool) → check_right c ≡ t → check_right c ≡ false
    go false e = e
    go true e =
        let claim = check-right c e in
        let a : check_a c ≡ check_a b = sym claim.holds_a ∙ p ∙ right.holds_a in
        let b' : check_b c ≡ check_b b = sym claim.holds_b ∙ q ∙ right.holds_b in
        absurd (other (record { same_a = a; same_b = b' }))

-- A word of the check is as it was after a store before it.
word_kept : (b : List ℕ) (i v k : ℕ) → i < 508 → 508 ≤ k → word_at (set b i v) k ≡ word_at b k
word_kept b i v k h l = rw (get_or-set_other b i k v 0 (omega arith), get_or-set_other b i (k + 1) v 0 (omega arith))

-- A block whose check is right has a wrong one after one changed byte.
pub change-refused : (b : List ℕ) (i v : ℕ) → CheckRight b → i < 508 → byte_at b i < 256 → v < 256
    → (v ≡ byte_at b i → ⊥) → check_right (set b i v) ≡ false
change-refused b i v right h x y other =
    refused b (set b i v) right (word_kept b i v 508 h (omega arith)) (word_kept b i v 510 h (omega arith))
    (change-noticed b i v right.size h x y other)

-- And so after two unequal bytes are exchanged.
pub exchange-refused : (b : List ℕ) (i j : ℕ) → CheckRight b → i < 508 → j < 508 → byte_at b i < 256 → byte_at b j < 256
    → (byte_at b i ≡ byte_at b j → ⊥) → check_right (exchanged b i j) ≡ false
exchange-refused b i j right hi hj hx hy other =
    refused b (exchanged b i j) right (kept 508 (omega arith)) (kept 510 (omega arith))
    (exchange-noticed b i j right.size hi hj hx hy other)
  where
    kept : (k : ℕ) → 508 ≤ k → word_at (exchanged b i j) k ≡ word_at b k
    kept k l = word_kept (set b i (byte_at b j)) j (byte_at b i) k hj l ∙ word_kept b i (byte_at b j) k hi l
