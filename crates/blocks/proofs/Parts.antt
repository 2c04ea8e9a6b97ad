-- Laws of specs/Block.antt: the parts of a file and of a block. Assumes nothing.
use mathlib.Core.Path.{◌≡◌, sym}
use mathlib.Core.List.{List, [], ◌∷◌, ◌++◌}
use Prim.Native.Nat.{ℕ, zero, suc, ◌+◌, ◌-◌, ◌*◌, ◌≤◌}
use native.Mathlib.Nat.{sub-zero, zero-sub, suc-sub-suc}
use native.Mathlib.Omega.{arith}
use lib.ListN.{length, take, drop, length-drop}
use lib.Seq.{take-nil, take-take, drop-drop, take-add, length-take-le}
use Rattle.blocks.specs.Limits.{block_size, most_entries}
use Rattle.blocks.specs.Block.{HasBlock, block_at, entries_of, first_entries, second_entries, first_count, second_count, Fitting}

-- What is left of the first m elements after n are dropped.
drop-take : (n m : ℕ) (l : List ℕ) → drop n (take m l) ≡ take (m - n) (drop n l)
drop-take zero m l = rw sub-zero
drop-take (suc n) zero l = rw zero-sub
drop-take (suc n) (suc m) [] = sym (take-nil (suc m - suc n))
drop-take (suc n) (suc m) (x ∷ l) = rw suc-sub-suc (drop-take n m l)

pub block-length : (file : List ℕ) (i : ℕ) → HasBlock file i → length (block_at file i) ≡ block_size
unfolding block_at
block-length file i h = length-take-le block_size (drop (block_size * i) file) (simp length-drop (omega arith))

-- A block of the file's first m bytes.
pub block-before : (file : List ℕ) (i m : ℕ) → block_size * i + block_size ≤ m → block_at (take m file) i ≡ block_at file i
unfolding block_at
block-before file i m h = rw drop-take (take-take block_size (m - block_size * i) (drop (block_size * i) file) (omega arith))

-- The part that the code takes is the block.
pub block-part : (file : List ℕ) (i : ℕ) → take (block_size * i + block_size - block_size * i) (drop (block_size * i) file) ≡ block_at file i
unfolding block_at
block-part file i =
    let count : block_size * i + block_size - block_size * i ≡ block_size = omega arith in
    rw count

-- The first entries of a block of 512 bytes.
pub first-long : (b : List ℕ) → length b ≡ block_size → first_count b ≤ most_entries → length (first_entries b) ≡ 4 * first_count b
unfolding first_entries entries_of
first-long b size room =
    let all : length (take 504 (drop 4 b)) ≡ 504 = length-take-le 504 (drop 4 b) (simp length-drop (omega arith)) in
    length-take-le (4 * first_count b) (take 504 (drop 4 b)) (omega arith)

module _ (b : List ℕ) (fits : Fitting b) where
  pub first-entries : first_entries b ≡ take (4 * first_count b) (drop 4 b)
  unfolding first_entries entries_of
  first-entries =
      let h : 4 * first_count b ≤ 504 = omega arith in
      take-take (4 * first_count b) 504 (drop 4 b) h

  pub second-entries : second_entries b ≡ take (4 * second_count b) (drop (4 + 4 * first_count b) b)
  unfolding second_entries entries_of
  second-entries =
      let h : 4 * second_count b ≤ 504 - 4 * first_count b = omega arith in
      rw (drop-take, drop-drop) (take-take (4 * second_count b) (504 - 4 * first_count b) (drop (4 + 4 * first_count b) b) h)

  -- The parts that the code takes, n and m being the counts.
  pub first_part : (n : ℕ) → n ≡ first_count b → take (4 + 4 * n - 4) (drop 4 b) ≡ first_entries b
  first_part n e =
      let count : 4 + 4 * n - 4 ≡ 4 * first_count b = omega arith in
      rw (count, first-entries)

  pub second-part : (n m : ℕ) → n ≡ first_count b → m ≡ second_count b
      → take (4 + 4 * n + 4 * m - (4 + 4 * n)) (drop (4 + 4 * n) b) ≡ second_entries b
  second-part n m e f =
      let count : 4 + 4 * n + 4 * m - (4 + 4 * n) ≡ 4 * m = omega arith in
      rw (count, e, f, second-entries)

  pub first-length : length (first_entries b) ≡ 4 * first_count b
  first-length = let room = fits.room in first-long b fits.size (omega arith)

  pub second-length : length (second_entries b) ≡ 4 * second_count b
  second-length =
      rw second-entries
      (length-take-le (4 * second_count b) (drop (4 + 4 * first_count b) b) (simp length-drop (omega arith)))

-- The entries in use are the first ones, and then the second ones.
pub entries-used : (b : List ℕ) → take (4 * first_count b + 4 * second_count b) (entries_of b) ≡ first_entries b ++ second_entries b
unfolding first_entries second_entries
entries-used b = take-add (4 * first_count b) (4 * second_count b) (entries_of b)
