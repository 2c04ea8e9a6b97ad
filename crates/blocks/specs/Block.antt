-- A block and its parts (document 01, "Blocks of 512 bytes"). Offsets count from 0.
use Rattle.std.specs.Prelude.{◌≡◌, Bool, List, ℕ, ◌+◌, ◌*◌, ◌≤◌, length, get_or, take, drop, leb}
use Rattle.blocks.specs.Limits.{block_size, most_entries}

-- The file has block i if 512·i + 512 is at most its length.
abbrev pub HasBlock : List ℕ → ℕ → Type 0
HasBlock file i = block_size * i + block_size ≤ length file

-- The same, as a test.
abbrev pub has_block : List ℕ → ℕ → Bool
has_block file i = leb (block_size * i + block_size) (length file)

-- "The checker takes each block as a part of the file": block i is the 512 bytes from 512·i on.
unfoldable pub block_at : List ℕ → ℕ → List ℕ
block_at file i = take block_size (drop (block_size * i) file)

-- Byte i. (Past the end, where no contract asks, it is 0.)
abbrev pub byte_at : List ℕ → ℕ → ℕ
byte_at b i = get_or b i 0

-- "Two-byte numbers are little-endian."
abbrev pub word_at : List ℕ → ℕ → ℕ
word_at b i = byte_at b i + 256 * byte_at b (i + 1)

-- "Byte 0 is the kind, bytes 1 and 2 the first and second count."
abbrev pub kind_of : List ℕ → ℕ
kind_of b = byte_at b 0

abbrev pub first_count : List ℕ → ℕ
first_count b = byte_at b 1

abbrev pub second_count : List ℕ → ℕ
second_count b = byte_at b 2

-- "Bytes 4 to 507 are 126 entries of four bytes."
unfoldable pub entries_of : List ℕ → List ℕ
entries_of b = take 504 (drop 4 b)

-- The entries that the first count counts: the atoms, the one term of kinds 2 to 4, or a rule's premise.
unfoldable pub first_entries : List ℕ → List ℕ
first_entries b = take (4 * first_count b) (entries_of b)

-- "The entries of the conclusion are what follows the premise's."
unfoldable pub second_entries : List ℕ → List ℕ
second_entries b = take (4 * second_count b) (drop (4 * first_count b) (entries_of b))

-- Where a part stands: so many bytes behind the start of what it is a part of. (A place is a piece of memory and an offset.)
abbrev pub behind : ℕ → ℕ × ℕ → ℕ × ℕ
behind n start = (start.0, n + start.1)

-- A block of 512 bytes whose two counts have room among its 126 entries. Number 5 gives it.
pub record Fitting (b : List ℕ) : Type 0 where
  pub size : length b ≡ block_size
  pub room : first_count b + second_count b ≤ most_entries
