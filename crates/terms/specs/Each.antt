-- What is said of each entry of a block, by its tag, its second byte and its value.
use Rattle.std.specs.Prelude.{List, [], ◌∷◌, ℕ, ◌+◌, ◌*◌, get_or, drop}
use Rattle.terms.specs.Entry.{tag_at, value_at}

-- The bytes are whole entries, and P holds of each.
pub data Each (P : ℕ → ℕ → ℕ → Type 0) : List ℕ → Type 0 where
  none_left : Each P []
  one_more : {tag zero_byte low high : ℕ} {rest : List ℕ} → P tag zero_byte (low + 256 * high) → Each P rest
      → Each P (tag ∷ zero_byte ∷ low ∷ high ∷ rest)

-- P holds of entry n: of its tag, its second byte and its value.
abbrev pub EntryIs : (ℕ → ℕ → ℕ → Type 0) → List ℕ → ℕ → Type 0
EntryIs P e n = P (tag_at (drop (4 * n) e)) (get_or (drop (4 * n) e) 1 0) (value_at (drop (4 * n) e))
