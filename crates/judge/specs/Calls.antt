-- Many checks, one after the other, in a process that eight loaders share (02, No. 5).
use Rattle.std.specs.Prelude.{cond, List, [], ◌∷◌, ◌++◌, map, ℕ, ◌+◌, ◌≤◌, min, eqb}
use Rattle.judge.specs.declared.verdict.Verdict.{Verdict}
use Rattle.judge.specs.declared.verdict.Verdict.TheVariants.{Accepted, Refused}
use Rattle.judge.specs.declared.checking.LoaderCounts.{LoaderCounts}
use Rattle.judge.specs.declared.checking.Tally.{Tally}
use Rattle.judge.specs.declared.checking.Checked.{Checked}
use Rattle.judge.specs.Verdict.{verdict_of}
use Rattle.judge.specs.Checked.{full, checked_of}

-- A call: the loader number and the file. Any number may be named, any bytes handed in.
pub record Call : Type 0 where
  pub loader : ℕ
  pub file : List ℕ

-- What it is answered, with the tally that it gets.
abbrev pub answer_to : Tally → Call → Checked
answer_to t c = checked_of c.file c.loader t

-- What the process does next with the tally that it holds: a check gets it, and what that returns is held; or an older
-- tally is restored.
pub data Turn : Type 0 where
  asks : Call → Turn
  restores : Tally → Turn

-- "Where each check gets the tally that the last one returned": the tally that is held at the end.
unfoldable pub held : Tally → List Turn → Tally
held t [] = t
held t (asks c ∷ l) = held (answer_to t c).tally l
held t (restores u ∷ l) = held u l

-- The same where nothing is restored.
abbrev pub tally_after : Tally → List Call → Tally
tally_after t calls = held t (map asks calls)

-- "A restored older tally": after more calls the tally of the earlier ones is put back, and later ones follow.
abbrev pub restoring : Tally → List Call → List Call → List Call → List Turn
restoring t earlier between later = map asks (earlier ++ between) ++ (restores (tally_after t earlier) ∷ map asks later)

-- The calls in their order, each with its answer.
pub record Answered : Type 0 where
  pub call : Call
  pub answer : Checked

unfoldable pub answered : Tally → List Turn → List Answered
answered t [] = []
answered t (asks c ∷ l) = record { call = c; answer = answer_to t c } ∷ answered (answer_to t c).tally l
answered t (restores u ∷ l) = answered u l

-- "Its own calls": those that name loader n.
unfoldable pub own_calls : ℕ → List Call → List Call
own_calls n [] = []
own_calls n (c ∷ l) = cond (eqb c.loader n) (c ∷ own_calls n l) (own_calls n l)

-- A pair of counts of 32 bits each.
pub record ThirtyTwoBits (c : LoaderCounts) : Type 0 where
  pub accepted_fits : c.accepted ≤ full
  pub refused_fits : c.refused ≤ full

-- A count "raised by 1" k times; "a full count stays".
abbrev pub raised_by : ℕ → ℕ → ℕ
raised_by k n = min full (n + k)

-- A pair of which k files more were accepted, and m more refused.
abbrev pub raised_pair : LoaderCounts → ℕ → ℕ → LoaderCounts
raised_pair p k m = record { accepted = raised_by k p.accepted; refused = raised_by m p.refused }

-- 1 for an accepted file; 1 for a refused one.
abbrev pub if_accepted : Verdict → ℕ
if_accepted (Accepted k) = 1
if_accepted (Refused f) = 0

abbrev pub if_refused : Verdict → ℕ
if_refused (Accepted k) = 0
if_refused (Refused f) = 1

-- How many of these calls hand in a file that is accepted, and how many one that is refused.
unfoldable pub accepted_among : List Call → ℕ
accepted_among [] = 0
accepted_among (c ∷ l) = if_accepted (verdict_of c.file) + accepted_among l

unfoldable pub refused_among : List Call → ℕ
refused_among [] = 0
refused_among (c ∷ l) = if_refused (verdict_of c.file) + refused_among l
