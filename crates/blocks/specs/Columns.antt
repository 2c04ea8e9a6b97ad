-- How the code adds up a block without a table of weights (02, No. 6). Document 01 knows no rows and columns: what A and B
-- are says Check.antt, and proofs/ColumnLaws.antt that the columns' sums are those sums.
use Rattle.std.specs.Prelude.{◌≡◌, List, ℕ, zero, suc, ◌+◌, ◌*◌, ◌<◌, get_or}
use Rattle.blocks.specs.Block.{byte_at}
use Rattle.blocks.specs.Check.{weight_of}

-- The sum of f over the numbers below n.
unfoldable pub sum_of : (ℕ → ℕ) → ℕ → ℕ
sum_of f zero = 0
sum_of f (suc n) = sum_of f n + f n

-- The first n numbers of a list are those of f.
abbrev pub FirstOf : ℕ → (ℕ → ℕ) → List ℕ → Type 0
FirstOf n f l = (i : ℕ) → i < n → get_or l i 0 ≡ f i

-- Bytes 4 to 507 stand in 21 rows of 24 bytes: the number of the byte of column k in a row.
abbrev pub place_of : ℕ → ℕ → ℕ
place_of k row = 4 + (24 * row + k)

-- That byte.
abbrev pub cell : List ℕ → ℕ → ℕ → ℕ
cell b k row = byte_at b (place_of k row)

-- The sum of a column.
unfoldable pub column_sum : List ℕ → ℕ → ℕ
column_sum b k = sum_of (cell b k) 21

-- The sum of a column in which a byte counts once for each row below it: at each row, the sum of the rows above.
unfoldable pub column_below : List ℕ → ℕ → ℕ
column_below b k = sum_of (sum_of (cell b k)) 21

-- The sum of a column in which each byte has its weight.
unfoldable pub column_weighted : List ℕ → ℕ → ℕ
column_weighted b k = sum_of (λ row. weight_of (place_of k row) * cell b k row) 21
