-- The check of a block: its test, and what sealing writes. Assumes nothing.
use mathlib.Core.Path.{◌≡◌, refl, sym, ap, ◌∙◌, subst}
use mathlib.Core.Bool.{Bool, true, ◌&&◌}
use mathlib.Core.List.{List, [], ◌++◌, append-nil, append_assoc}
use Prim.Native.Nat.{ℕ, ◌+◌, ◌≤◌}
use native.Mathlib.Decide.{ℕ_discrete}
use native.Mathlib.Omega.{arith}
use lib.Dec.{eqb}
use lib.ListN.{length, get_or, take, drop, length-append, drop_of_length-le}
use lib.Seq.{length-take-le, take_at, get_or-append-add, drop-drop}
use borrow.Author.Tests.{eq-eqb, ne_eqb, eqb-true}
use borrow.Rule.Slice.PartMut.{put_mid}
use Rattle.std.proofs.lemmas.Slice.{take-put_mid, drop-put_mid}
use Rattle.blocks.specs.Limits.{block_size}
use Rattle.blocks.specs.Block.{byte_at, word_at}
use Rattle.blocks.specs.Check.{check_a, check_b, CheckRight, check_right, bytes_of, sealed, after_sealing}
use Rattle.blocks.proofs.Tests.{both_left, both_right, both}

-- ---- the test is true just where the check is right

pub check-right : (b : List ℕ) → check_right b ≡ true → CheckRight b
unfolding check_right
check-right b h = go (eqb (length b) block_size) (eqb (word_at b 508) (check_a b)) (eqb (word_at b 510) (check_b b)) refl refl refl h
  where
    go : (s t u : Bool) → eqb (length b) block_size ≡ s → eqb (word_at b 508) (check_a b) ≡ t → eqb (word_at b 510) (check_b b) ≡ u
        → s && (t && u) ≡ true → CheckRight b
    go s t u p q r e =
        record {
          size = eqb-true _ _ (p ∙ both_left s (t && u) e);
          holds_a = eqb-true _ _ (q ∙ both_left t u (both_right s (t && u) e));
          holds_b = eqb-true _ _ (r ∙ both_right t u (both_right s (t && u) e));
        }

pub right-check : (b : List ℕ) → CheckRight b → check_right b ≡ true
unfolding check_right
right-check b h = both (eq-eqb _ _ h.size) (both (eq-eqb _ _ h.holds_a) (eq-eqb _ _ h.holds_b))

-- ---- sealing

sealed-as : (b : List ℕ) → sealed b ≡ take 508 b ++ (bytes_of (check_a b) ++ bytes_of (check_b b))
unfolding sealed
sealed-as b = refl

module _ (b : List ℕ) (size : length b ≡ block_size) where
  head-length : length (take 508 b) ≡ 508
  head-length = length-take-le 508 b (omega arith)

  -- The bytes before the check are as they were.
  pub sealed-head : take 508 (sealed b) ≡ take 508 b
  unfolding sealed
  sealed-head = take_at (take 508 b) _ 508 head-length

  sealed-a : check_a (sealed b) ≡ check_a b
  unfolding check_a
  sealed-a = rw sealed-head

  sealed-b : check_b (sealed b) ≡ check_b b
  unfolding check_b
  sealed-b = rw sealed-head

  -- The bytes after them are the check.
  tail-byte : (k : ℕ) → byte_at (sealed b) (508 + k) ≡ get_or (bytes_of (check_a b) ++ bytes_of (check_b b)) k 0
  unfolding sealed
  tail-byte k =
      let tail : List ℕ = bytes_of (check_a b) ++ bytes_of (check_b b) in
      subst (λ (n : ℕ). get_or (take 508 b ++ tail) (n + k) 0 ≡ get_or tail k 0) head-length (get_or-append-add (take 508 b) tail k 0)

  pub sealed-length : length (sealed b) ≡ block_size
  unfolding sealed
  sealed-length = rw (length-append, head-length)

  -- The two words of the code are written behind the bytes that stay.
  stores : (x y : List ℕ) → length x ≡ 2 → length y ≡ 2 → put_mid 510 2 (put_mid 508 2 b x) y ≡ take 508 b ++ (x ++ y)
  stores x y hx hy =
      let few : length b ≤ 512 = omega arith in
      let half : List ℕ = put_mid 508 2 b x in
      let front : take 510 half ≡ take 508 b ++ x = take-put_mid 508 2 b x 510 (omega arith) (omega arith) in
      let rest : drop 2 (drop 510 half) ≡ [] =
      drop-drop 2 510 half ∙ drop-put_mid 508 2 b x 512 (omega arith) (omega arith) hx ∙ drop_of_length-le b few in
      ap (λ (l : List ℕ). l ++ (y ++ drop 2 (drop 510 half))) front ∙ append_assoc (take 508 b) x (y ++ drop 2 (drop 510 half))
      ∙ ap (λ (l : List ℕ). take 508 b ++ (x ++ (y ++ l))) rest ∙ rw append-nil refl

  -- They make a sealed block, if they are the two sums.
  pub words-put : {x y : List ℕ} → x ≡ bytes_of (check_a b) → y ≡ bytes_of (check_b b)
      → put_mid 510 2 (put_mid 508 2 b x) y ≡ after_sealing b
  unfolding after_sealing sealed
  words-put {x} {y} e f = rw (eq-eqb (length b) block_size size, e, f) (stores (bytes_of (check_a b)) (bytes_of (check_b b)) refl refl)

  -- A sealed block carries exactly the check that `check_right` compares.
  pub sealed-right : check_right (sealed b) ≡ true
  unfolding check_a check_b
  sealed-right =
      let a : word_at (sealed b) 508 ≡ check_a (sealed b) = omega (arith, tail-byte 0, tail-byte 1, sealed-a) in
      let b' : word_at (sealed b) 510 ≡ check_b (sealed b) = omega (arith, tail-byte 2, tail-byte 3, sealed-b) in
      right-check (sealed b) (record { size = sealed-length; holds_a = a; holds_b = b' })

  -- Sealed again it stays as it is.
  pub sealed-again : sealed (sealed b) ≡ sealed b
  sealed-again = sealed-as (sealed b) ∙ rw (sealed-head, sealed-a, sealed-b) (sym (sealed-as b))

-- Whatever is handed in: sealing twice leaves what sealing once leaves.
pub sealing-twice : (b : List ℕ) → after_sealing (after_sealing b) ≡ after_sealing b
unfolding after_sealing
sealing-twice b = go (ℕ_discrete (length b) block_size)
  where
    go : Dec (length b ≡ block_size) → after_sealing (after_sealing b) ≡ after_sealing b
    go (yes size) = rw (eq-eqb _ _ size, eq-eqb _ _ (sealed-length b size)) (sealed-again b size)
    go (no other) = rw (ne_eqb _ _ other, ne_eqb _ _ other) refl
