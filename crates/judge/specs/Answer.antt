-- What is made of a verdict: its number, block and place, the packed answer and the refused part (document 01, "Verdicts").
use Rattle.std.specs.Prelude.{Bool, cond, ◌||◌, List, [], ℕ, ◌+◌, ◌*◌, eqb}
use Rattle.blocks.specs.Limits.{block_size}
use Rattle.judge.specs.declared.verdict.Fault.{Fault}
use Rattle.judge.specs.declared.verdict.Fault.TheVariants.{Length, Check, Kind, Missing, Layout, AtomEntry}
use Rattle.judge.specs.declared.verdict.Fault.TheVariants.{TermEntry, NotOneTerm, KnownSecret, NotClosed, KeyNotKept, Uncovered, OpenSecret, Loader}
use Rattle.judge.specs.declared.verdict.Verdict.{Verdict}
use Rattle.judge.specs.declared.verdict.Verdict.TheVariants.{Accepted, Refused}
use Rattle.judge.specs.declared.answer.Row.{Row}
use Rattle.blocks.specs.Block.{has_block, block_at}

-- ---- the table of verdicts

-- The columns "Nr" and "Block, place", for each kind of fault. For number 4 the block is "number of blocks". Number 15 is
-- of 02, No. 4, number 16 of No. 5: "16, block 0, place 0".
abbrev pub row_of : Fault → Row
row_of Length = record { number = 1; block = 0; place = 0 }
row_of (Check b) = record { number = 2; block = b; place = 0 }
row_of (Kind b) = record { number = 3; block = b; place = 0 }
row_of (Missing n) = record { number = 4; block = n; place = 0 }
row_of (Layout b) = record { number = 5; block = b; place = 0 }
row_of (AtomEntry b p) = record { number = 6; block = b; place = p }
row_of (TermEntry b p) = record { number = 7; block = b; place = p }
row_of (NotOneTerm b p) = record { number = 8; block = b; place = p }
row_of (KnownSecret b) = record { number = 9; block = b; place = 0 }
row_of (NotClosed b) = record { number = 10; block = b; place = 0 }
row_of (KeyNotKept b) = record { number = 11; block = b; place = 0 }
row_of (Uncovered b p) = record { number = 12; block = b; place = p }
row_of (OpenSecret b p) = record { number = 15; block = b; place = p }
row_of Loader = record { number = 16; block = 0; place = 0 }

abbrev pub number_of : Fault → ℕ
number_of f = (row_of f).number

abbrev pub block_of : Fault → ℕ
block_of f = (row_of f).block

abbrev pub place_of : Fault → ℕ
place_of f = (row_of f).place

-- "number × 65,536 + block × 256 + place, 0 if accepted."
abbrev pub packed_of : Verdict → ℕ
packed_of (Accepted c) = 0
packed_of (Refused f) = number_of f * 65536 + block_of f * 256 + place_of f

-- ---- the refused part

-- Block i, or an empty part "for a block number the file lacks".
unfoldable pub block_or_none : List ℕ → ℕ → List ℕ
block_or_none file i = cond (has_block file i) (block_at file i) []

-- The numbers that leave an empty part, whatever block they name: number 1, by the table number 4, and 16 (02, No. 5).
unfoldable pub partless : ℕ → Bool
partless n = eqb n 1 || (eqb n 4 || eqb n 16)

-- "The caller gets back the refused block as a part of its own file; on acceptance, for number 1, or for a block number
-- the file lacks, an empty part."
unfoldable pub part_of : List ℕ → Verdict → List ℕ
part_of file (Accepted c) = []
part_of file (Refused f) = cond (partless (number_of f)) [] (block_or_none file (block_of f))

-- Where it stands in the file: at the start of its block; an empty part at the start of the file.
unfoldable pub block_start : List ℕ → ℕ → ℕ
block_start file i = cond (has_block file i) (block_size * i) 0

unfoldable pub part_start : List ℕ → Verdict → ℕ
part_start file (Accepted c) = 0
part_start file (Refused f) = cond (partless (number_of f)) 0 (block_start file (block_of f))
