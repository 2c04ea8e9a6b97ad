-- The answers of the judging layer as plain numbers and bytes.
use Rattle.std.specs.Prelude.{cond, List, [], ◌∷◌, ℕ, zero, suc, ◌+◌, ◌*◌, ◌%◌, eqb, leb, length, Result}
use Rattle.blocks.specs.declared.Unwritten.{Unwritten}
use Rattle.blocks.specs.Check.{values_of}
use Rattle.judge.specs.declared.verdict.Fault.TheVariants.{Length, Missing, Uncovered, Loader}
use Rattle.judge.specs.declared.verdict.Counts.{Counts}
use Rattle.judge.specs.declared.verdict.Verdict.{Verdict}
use Rattle.judge.specs.declared.verdict.Verdict.TheVariants.{Accepted, Refused}
use Rattle.judge.specs.declared.checking.LoaderCounts.{LoaderCounts}
use Rattle.judge.specs.declared.checking.Tally.{Tally}
use Rattle.judge.specs.Answer.{packed_of, part_of}
use Rattle.judge.specs.Checked.{loader_count, pair_of, checked_of}
use Rattle.judge.specs.Line.{pasted}

-- A writing call's number × 65,536, and the count of bytes that it wrote.
unfoldable pub packed_writing : Result ℕ Unwritten → ℕ
packed_writing w = (values_of w).number * 65536 + (values_of w).written % 65536

-- A tally as numbers: accepted and refused of loader 0, of loader 1, and so on.
abbrev pub tally_numbers : ℕ
tally_numbers = 16

unfoldable pub pairs_of : List ℕ → List LoaderCounts
pairs_of [] = []
pairs_of (a ∷ []) = []
pairs_of (a ∷ r ∷ l) = record { accepted = a; refused = r } ∷ pairs_of l

unfoldable pub tally_from : List ℕ → Tally
tally_from counts = record { loaders = pairs_of counts }

-- And back, for k loaders from loader n on.
unfoldable pub numbers_from : Tally → ℕ → ℕ → List ℕ
numbers_from t n zero = []
numbers_from t n (suc k) = (pair_of n t).accepted ∷ (pair_of n t).refused ∷ numbers_from t (n + 1) k

unfoldable pub numbers_of : Tally → List ℕ
numbers_of t = numbers_from t 0 loader_count

-- A check for this loader with the tally of these numbers: its packed verdict; 4,294,967,295 where they are not sixteen.
unfoldable pub tallying : List ℕ → ℕ → List ℕ → ℕ
tallying file loader counts =
    cond (eqb (length counts) tally_numbers) (packed_of (checked_of file loader (tally_from counts)).verdict) 4_294_967_295

-- What is left of the numbers: the tally after it; other than sixteen are unaltered.
unfoldable pub after_tallying : List ℕ → ℕ → List ℕ → List ℕ
after_tallying file loader counts =
    cond (eqb (length counts) tally_numbers) (numbers_of (checked_of file loader (tally_from counts)).tally) counts

-- No block at all.
abbrev pub no_counts : Counts
no_counts = record { blocks = 0; secrets = 0; goods = 0; bads = 0; rules = 0 }

-- A verdict whose part is that of this number: 0 accepted, 1, 4 and 16 without a part, any other with that block's.
unfoldable pub verdict_from : ℕ → ℕ → ℕ → Verdict
verdict_from n b p =
    cond (eqb n 0) (Accepted no_counts)
    (cond (eqb n 1) (Refused Length)
    (cond (eqb n 4) (Refused (Missing b)) (cond (eqb n 16) (Refused Loader) (Refused (Uncovered b p)))))

-- The refused part copied to the buffer's start: its length, or 65,536 where the buffer is shorter.
unfoldable pub copying : List ℕ → Verdict → List ℕ → ℕ
copying file v buffer = cond (leb (length (part_of file v)) (length buffer)) (length (part_of file v) % 65536) 65536

-- What is left of the buffer: a shorter one is unaltered.
unfoldable pub after_copying : List ℕ → Verdict → List ℕ → List ℕ
after_copying file v buffer = cond (leb (length (part_of file v)) (length buffer)) (pasted buffer 0 (part_of file v)) buffer
