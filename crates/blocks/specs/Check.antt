-- The check of a block, and sealing (document 01, "Blocks of 512 bytes" and "Verdicts").
use Rattle.std.specs.Prelude.{◌≡◌, Bool, ◌&&◌, cond, List, [], ◌∷◌, ◌++◌, ℕ, suc, ◌+◌, ◌-◌, ◌*◌, ◌/◌, ◌%◌, length, take, set, eqb, Result, Ok, Err}
use Rattle.blocks.specs.Limits.{block_size}
use Rattle.blocks.specs.declared.Unwritten.{Unwritten}
use Rattle.blocks.specs.declared.Unwritten.TheVariants.{WrongLength, ShortBuffer}
use Rattle.blocks.specs.Block.{byte_at, word_at}

-- The sum of the bytes.
unfoldable pub total : List ℕ → ℕ
total [] = 0
total (x ∷ xs) = x + total xs

-- The weight of byte i: "the weights 508 down to 1".
abbrev pub weight_of : ℕ → ℕ
weight_of i = 508 - i

-- The sum of (508 − i) × byte i, where the first byte of the list is byte i.
unfoldable pub weighted : ℕ → List ℕ → ℕ
weighted i [] = 0
weighted i (x ∷ xs) = weight_of i * x + weighted (suc i) xs

-- "A, the sum of bytes 0 to 507 modulo 65,521."
unfoldable pub check_a : List ℕ → ℕ
check_a b = total (take 508 b) % 65521

-- "B, the sum of (508 − i) × byte i modulo 65,521."
unfoldable pub check_b : List ℕ → ℕ
check_b b = weighted 0 (take 508 b) % 65521

-- Two lists have the same check: both A and B are equal.
pub record SameCheck (b c : List ℕ) : Type 0 where
  pub same_a : check_a b ≡ check_a c
  pub same_b : check_b b ≡ check_b c

-- The check of a block is right: it has 512 bytes, "bytes 508-509 hold A" and "bytes 510-511 hold B", the remainders
-- themselves, so that 65,521 to 65,535 is never right.
pub record CheckRight (b : List ℕ) : Type 0 where
  pub size : length b ≡ block_size
  pub holds_a : word_at b 508 ≡ check_a b
  pub holds_b : word_at b 510 ≡ check_b b

-- The same, as a test. (`check-right` and `right-check` of proofs/Sealing.antt say that it is the same.)
unfoldable pub check_right : List ℕ → Bool
check_right b = eqb (length b) block_size && (eqb (word_at b 508) (check_a b) && eqb (word_at b 510) (check_b b))

-- The two bytes of a number below 65,536, little-endian.
abbrev pub bytes_of : ℕ → List ℕ
bytes_of n = n % 256 ∷ n / 256 % 256 ∷ []

-- A sealed block: "sealing writes these four bytes only".
unfoldable pub sealed : List ℕ → List ℕ
sealed b = take 508 b ++ (bytes_of (check_a b) ++ bytes_of (check_b b))

-- Two bytes exchanged.
abbrev pub exchanged : List ℕ → ℕ → ℕ → List ℕ
exchanged b i j = set (set b i (byte_at b j)) j (byte_at b i)

-- Document 01's number of an answer, 0 where the call succeeded, and the count of bytes written.
pub record Values : Type 0 where
  pub number : ℕ
  pub written : ℕ

-- "A sealing or printing call that succeeds answers so, with the count of bytes written"; 13 is "sealing other than 512
-- bytes", 14 "line buffer shorter than the line".
abbrev pub values_of : Result ℕ Unwritten → Values
values_of (Ok n) = record { number = 0; written = n }
values_of (Err WrongLength) = record { number = 13; written = 0 }
values_of (Err ShortBuffer) = record { number = 14; written = 0 }

-- What sealing answers: 4 bytes written, or number 13.
unfoldable pub sealing : List ℕ → Result ℕ Unwritten
sealing b = cond (eqb (length b) block_size) (Ok 4) (Err WrongLength)

-- Its number and count: 0 and 4, or 13 and 0.
unfoldable pub sealing_values : List ℕ → Values
sealing_values b = cond (eqb (length b) block_size) (record { number = 0; written = 4 }) (record { number = 13; written = 0 })

-- What sealing leaves of the bytes: the sealed block, or, for other than 512 bytes, "bytes unaltered".
unfoldable pub after_sealing : List ℕ → List ℕ
after_sealing b = cond (eqb (length b) block_size) (sealed b) b
