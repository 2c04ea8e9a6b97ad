-- The verdict line (document 01, "Verdicts"): "`accepted` or `refused`, then decimal fields without leading zeros".
use Rattle.std.specs.Prelude.{◌≡◌, Bool, true, false, cond, List, [], ◌∷◌, ◌++◌, ℕ, zero, suc, ◌+◌, ◌-◌, ◌*◌, ◌/◌, ◌%◌, ◌≤◌, ◌<◌, length, get_or, take, drop, leb, ltb, Result, Ok, Err}
use Prim.Native.Char.{code}
use Prim.Native.String as text
use Prim.Native.String.{String}
use Rattle.blocks.specs.declared.Unwritten.{Unwritten}
use Rattle.blocks.specs.declared.Unwritten.TheVariants.{ShortBuffer}
use Rattle.blocks.specs.Check.{Values}
use Rattle.judge.specs.declared.verdict.Counts.{Counts}
use Rattle.judge.specs.declared.verdict.Verdict.{Verdict}
use Rattle.judge.specs.declared.verdict.Verdict.TheVariants.{Accepted, Refused}
use Rattle.judge.specs.Answer.{number_of, block_of, place_of}

-- The bytes of a text.
abbrev pub text_of : String → List ℕ
text_of text.[] = []
text_of (text.◌∷◌ c s) = code c ∷ text_of s

-- ---- decimal numbers

-- The digits of n in at most so many steps. A number below 10 is one digit, 48 being the byte of "0"; of any other the
-- last digit stands behind those of a tenth.
unfoldable pub digits_in : ℕ → ℕ → List ℕ
digits_in zero n = (48 + n) ∷ []
digits_in (suc steps) n = elim (ltb n 10) [ true ↦ (48 + n) ∷ [] | false ↦ digits_in steps (n / 10) ++ ((48 + n % 10) ∷ []) ]

-- A number in decimal. (n steps are enough.)
unfoldable pub digits_of : ℕ → List ℕ
unfolding digits_in
digits_of n = digits_in n n

-- What digits read as, behind those that read as v.
unfoldable pub read_from : ℕ → List ℕ → ℕ
read_from v [] = v
read_from v (d ∷ l) = read_from (v * 10 + (d - 48)) l

-- A text is n in decimal: bytes "0" to "9" that read as n, "without leading zeros". (`decimal` of proofs/Answering/Digits.antt
-- says it of `digits_of`.)
pub record Decimal (n : ℕ) (l : List ℕ) : Type 0 where
  pub digits : (i : ℕ) → i < length l → (48 ≤ get_or l i 0) × (get_or l i 0 ≤ 57)
  pub reads : read_from 0 l ≡ n
  pub some : 0 < length l
  pub first : 1 < length l → get_or l 0 0 ≡ 48 → ⊥

-- ---- the line

-- A fixed text and a number.
unfoldable pub field_of : List ℕ → ℕ → List ℕ
field_of name n = name ++ digits_of n

unfoldable pub newline : List ℕ
newline = text_of "\n"

-- Three fields and a newline, with which either line ends.
unfoldable pub three_fields : List ℕ → ℕ → List ℕ → ℕ → List ℕ → ℕ → List ℕ
three_fields first a second b third c = field_of first a ++ (field_of second b ++ (field_of third c ++ newline))

-- `accepted blocks=5 secrets=2 good=1 bad=0 rules=1` and a newline.
unfoldable pub accepted_line : Counts → List ℕ
accepted_line c =
    field_of (text_of "accepted blocks=") c.blocks
    ++ (field_of (text_of " secrets=") c.secrets
    ++ three_fields (text_of " good=") c.goods (text_of " bad=") c.bads (text_of " rules=") c.rules)

-- `refused 12 block=4 place=1` and a newline.
unfoldable pub refused_line : ℕ → ℕ → ℕ → List ℕ
refused_line number block place = three_fields (text_of "refused ") number (text_of " block=") block (text_of " place=") place

unfoldable pub line_of : Verdict → List ℕ
line_of (Accepted c) = accepted_line c
line_of (Refused f) = refused_line (number_of f) (block_of f) (place_of f)

-- ---- printing

-- The text written into a buffer from `at` on: the bytes before and after it are as they were.
unfoldable pub pasted : List ℕ → ℕ → List ℕ → List ℕ
pasted buffer at t = take at buffer ++ (t ++ drop (at + length t) buffer)

-- There is room for the text from `at` on.
pub record Room (buffer : List ℕ) (at : ℕ) (t : List ℕ) : Type 0 where
  pub fits : at + length t ≤ length buffer

-- The text was written from `at` on, and `next` is the place after it.
pub record Put (buffer : List ℕ) (at : ℕ) (t : List ℕ) (after : List ℕ) (next : ℕ) : Type 0 where
  pub bytes : after ≡ pasted buffer at t
  pub end : next ≡ at + length t

-- The buffer holds the line.
abbrev pub holds_line : Verdict → List ℕ → Bool
holds_line v buffer = leb (length (line_of v)) (length buffer)

-- "A sealing or printing call that succeeds answers so, with the count of bytes written: 4, or the line's length"; else
-- number 14, "line buffer shorter than the line".
unfoldable pub printing : Verdict → List ℕ → Result ℕ Unwritten
printing v buffer = cond (holds_line v buffer) (Ok (length (line_of v))) (Err ShortBuffer)

-- Its number and count: 0 and the length, or 14 and 0.
unfoldable pub printing_values : Verdict → List ℕ → Values
printing_values v buffer =
    cond (holds_line v buffer) (record { number = 0; written = length (line_of v) }) (record { number = 14; written = 0 })

-- What printing leaves: the line from the start on, "bytes of a line buffer after the newline are unaltered"; or, in a
-- shorter buffer, "bytes unaltered".
unfoldable pub after_printing : Verdict → List ℕ → List ℕ
after_printing v buffer = cond (holds_line v buffer) (line_of v ++ drop (length (line_of v)) buffer) buffer
