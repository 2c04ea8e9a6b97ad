-- Number 5: "a count, byte 3 or an unused entry wrong" (document 01, "Blocks of 512 bytes" and "Verdicts").
use Rattle.std.specs.Prelude.{◌≡◌, Bool, ◌&&◌, cond, List, ℕ, ◌+◌, ◌*◌, ◌≤◌, ◌<◌, length, take, drop, eqb, leb}
use Rattle.std.specs.List.{list_all}
use Rattle.blocks.specs.Kinds.{atoms_kind, secret_kind, bad_kind, rule_kind, ListsTerm}
use Rattle.blocks.specs.Limits.{block_size, most_entries, most_term_entries}
use Rattle.blocks.specs.Block.{byte_at, kind_of, first_count, second_count}

-- The counts that a kind allows. A kind that is none of these allows none: number 3 comes before number 5, so that the
-- order of checks never asks.
pub data CountsRight (kind first second : ℕ) : Type 0 where
  -- "Atoms: first count 1 to 126." "The second count is zero but in kind 5."
  atoms : kind ≡ atoms_kind → 1 ≤ first → first ≤ most_entries → second ≡ 0 → CountsRight kind first second
  -- "Kinds 2 to 4: first count 1 to 63."
  term : ListsTerm kind → 1 ≤ first → first ≤ most_term_entries → second ≡ 0 → CountsRight kind first second
  -- "Kind 5: premise 0 to 63 entries, then conclusion 1 to 63."
  rule : kind ≡ rule_kind → first ≤ most_term_entries → 1 ≤ second → second ≤ most_term_entries → CountsRight kind first second

-- The byte at which the unused entries begin.
abbrev pub unused_from : List ℕ → ℕ
unused_from b = 4 + 4 * (first_count b + second_count b)

-- The layout of a block is right: 512 bytes, counts that its kind allows, "byte 3 zero", and of the entries in bytes 4
-- to 507 "unused ones are zero".
pub record LayoutRight (b : List ℕ) : Type 0 where
  pub size : length b ≡ block_size
  pub counts : CountsRight (kind_of b) (first_count b) (second_count b)
  pub byte3 : byte_at b 3 ≡ 0
  pub unused : (i : ℕ) → unused_from b ≤ i → i < 508 → byte_at b i ≡ 0

-- ---- the same as a test: `layout-right` and `right-layout` of proofs/Layouts.antt say that it is the same

-- A number from low to high.
abbrev pub within : ℕ → ℕ → ℕ → Bool
within low high x = leb low x && leb x high

-- The counts are those that the kind allows.
unfoldable pub counts_right : ℕ → ℕ → ℕ → Bool
counts_right kind first second =
    cond (eqb kind atoms_kind) (within 1 most_entries first && eqb second 0)
    (cond (eqb kind rule_kind) (within 0 most_term_entries first && within 1 most_term_entries second)
    (within secret_kind bad_kind kind && (within 1 most_term_entries first && eqb second 0)))

-- Every byte is zero.
unfoldable pub all_zero : List ℕ → Bool
all_zero = list_all (λ x. eqb x 0)

-- The bytes from byte i up to byte 507 are all zero.
unfoldable pub zero_from : List ℕ → ℕ → Bool
zero_from b i = all_zero (drop i (take 508 b))

-- The layout is right.
unfoldable pub layout_right : List ℕ → Bool
layout_right b =
    eqb (length b) block_size
    && (counts_right (kind_of b) (first_count b) (second_count b)
    && (eqb (byte_at b 3) 0 && zero_from b (unused_from b)))
