-- One check that counts: the loader that asks, its file's verdict, and the tally with it counted (document 01, "Verdicts";
-- 02, No. 5).
use Rattle.std.specs.Prelude.{◌≡◌, cond, List, [], ◌∷◌, ℕ, ◌+◌, ◌<◌, eqb, ltb, length, get_or, set}
use Rattle.judge.specs.declared.verdict.Fault.{Fault}
use Rattle.judge.specs.declared.verdict.Fault.TheVariants.{Loader}
use Rattle.judge.specs.declared.verdict.Verdict.{Verdict}
use Rattle.judge.specs.declared.verdict.Verdict.TheVariants.{Accepted, Refused}
use Rattle.judge.specs.declared.checking.LoaderCounts.{LoaderCounts}
use Rattle.judge.specs.declared.checking.Tally.{Tally}
use Rattle.judge.specs.declared.checking.Checked.{Checked}
use Rattle.judge.specs.Meaning.{RefusedWith}
use Rattle.judge.specs.Verdict.{verdict_of}
use Rattle.judge.specs.Values.{VerdictValues, judging_values}

-- ---- loaders

-- "Eight loaders share one checker process" (02, No. 5).
abbrev pub loader_count : ℕ
loader_count = 8

-- "A check that takes it names its loader, 0 to 7."
abbrev pub IsLoader : ℕ → Type 0
IsLoader n = n < loader_count

-- ---- the tally

-- The largest number of 32 bits.
abbrev pub full : ℕ
full = 4_294_967_295

-- "Raised by 1; a full count stays."
abbrev pub raised_of : ℕ → ℕ
raised_of n = cond (eqb n full) n (n + 1)

-- One loader's pair (accepted, refused), "with one of the two raised by 1".
abbrev pub counted_of : LoaderCounts → Verdict → LoaderCounts
counted_of c (Accepted k) = record { accepted = raised_of c.accepted; refused = c.refused }
counted_of c (Refused f) = record { accepted = c.accepted; refused = raised_of c.refused }

-- "The tally becomes eight pairs" (02, No. 5).
pub record EightPairs (t : Tally) : Type 0 where
  pub eight : length t.loaders ≡ loader_count

abbrev pub zero_pair : LoaderCounts
zero_pair = record { accepted = 0; refused = 0 }

-- The pair of loader n; zeros for a number without one.
unfoldable pub pair_of : ℕ → Tally → LoaderCounts
pair_of n t = get_or t.loaders n zero_pair

-- The verdict counted for loader n; the other pairs stay.
unfoldable pub tallied_of : Tally → ℕ → Verdict → Tally
unfolding pair_of
tallied_of t n v = record { loaders = set t.loaders n (counted_of (pair_of n t) v) }

-- ---- the check

-- "It refuses with 16 .. before all else and with every count unaltered, a loader number above 7"; "under a loader number 0
-- to 7 a verdict depends on its file only" (02, No. 5).
unfoldable pub checked_of : List ℕ → ℕ → Tally → Checked
checked_of file n t = cond (ltb n loader_count)
    (record { verdict = verdict_of file; tally = tallied_of t n (verdict_of file) })
    (record { verdict = Refused Loader; tally = t })

-- Its number and values: "16, block 0, place 0" if no loader has the number, else those of the file.
unfoldable pub checking_values : ℕ → List ℕ → VerdictValues
checking_values n file = cond (ltb n loader_count) (judging_values file) (record { number = 16; values = 0 ∷ 0 ∷ [] })

-- Why a check for number n is refused: "before all else" because no loader has it, whatever the file; else as the file is.
pub data RefusedFor (n : ℕ) (file : List ℕ) (fault : Fault) : Type 0 where
  no_loader : fault ≡ Loader → ¬ IsLoader n → RefusedFor n file fault
  file_refused : IsLoader n → RefusedWith file fault → RefusedFor n file fault
