-- Laws of specs/Answer.antt: the answers of the code, and what tells a verdict. Assumes nothing.
use mathlib.Core.Path.{◌≡◌, refl, sym, ap, ◌∙◌}
use mathlib.Core.List.{List, [], ◌∷◌}
use Prim.Native.Nat.{ℕ, ◌≤◌}
use mathlib.Core.Bool.{true, false}
use mathlib.Core.Logic.{◌⊎◌, inl, inr}
use native.Mathlib.Omega.{arith}
use borrow.Author.Tests.{ne_eqb}
use lib.ListN.{get_or}
use Rattle.judge.specs.declared.verdict.Fault.{Fault}
use Rattle.judge.specs.declared.verdict.Fault.TheVariants.{Length, Check, Kind, Missing, Layout, AtomEntry}
use Rattle.judge.specs.declared.verdict.Fault.TheVariants.{TermEntry, NotOneTerm, KnownSecret, NotClosed, KeyNotKept, Uncovered, OpenSecret, Loader}
use Rattle.judge.specs.declared.verdict.Verdict.{Verdict}
use Rattle.judge.specs.declared.verdict.Verdict.TheVariants.{Accepted, Refused}
use Rattle.judge.specs.Answer.{number_of, block_of, place_of, partless}
use Rattle.judge.specs.Values.{VerdictValues, verdict_values}

-- Every number is one of 1 to 16.
pub numbers : (f : Fault) → (1 ≤ number_of f) × (number_of f ≤ 16)
numbers Length = omega arith
numbers (Check b) = omega arith
numbers (Kind b) = omega arith
numbers (Missing n) = omega arith
numbers (Layout b) = omega arith
numbers (AtomEntry b p) = omega arith
numbers (TermEntry b p) = omega arith
numbers (NotOneTerm b p) = omega arith
numbers (KnownSecret b) = omega arith
numbers (NotClosed b) = omega arith
numbers (KeyNotKept b) = omega arith
numbers (Uncovered b p) = omega arith
numbers (OpenSecret b p) = omega arith
numbers Loader = omega arith

-- ---- a verdict is told by its number and values

-- The fault of a number, with this block and place; 13 and 14 are of none.
fault_by : ℕ → ℕ → ℕ → Fault
fault_by n b p = get_or
    (Length ∷ Length ∷ Check b ∷ Kind b ∷ Missing b ∷ Layout b ∷ AtomEntry b p ∷ TermEntry b p ∷ NotOneTerm b p
    ∷ KnownSecret b ∷ NotClosed b ∷ KeyNotKept b ∷ Uncovered b p ∷ Length ∷ Length ∷ OpenSecret b p ∷ Loader ∷ []) n Length

fault-by : (f : Fault) → fault_by (number_of f) (block_of f) (place_of f) ≡ f
unfolding fault_by
fault-by Length = refl
fault-by (Check b) = refl
fault-by (Kind b) = refl
fault-by (Missing n) = refl
fault-by (Layout b) = refl
fault-by (AtomEntry b p) = refl
fault-by (TermEntry b p) = refl
fault-by (NotOneTerm b p) = refl
fault-by (KnownSecret b) = refl
fault-by (NotClosed b) = refl
fault-by (KeyNotKept b) = refl
fault-by (Uncovered b p) = refl
fault-by (OpenSecret b p) = refl
fault-by Loader = refl

same-fault : (f g : Fault) → number_of f ≡ number_of g → block_of f ≡ block_of g → place_of f ≡ place_of g → f ≡ g
same-fault f g n b p = sym (fault-by f) ∙ rw (n, b, p) (fault-by g)

-- Two verdicts with the same number and values are the same.
pub same-values : (v w : Verdict) → verdict_values v ≡ verdict_values w → v ≡ w
same-values (Accepted c) (Accepted d) e =
    let l = ap (λ (x : VerdictValues). x.values) e in
    let at : (k : ℕ) → get_or (verdict_values (Accepted c)).values k 0 ≡ get_or (verdict_values (Accepted d)).values k 0 =
    λ k. ap (λ (m : List ℕ). get_or m k 0) l in
    rw (at 0, at 1, at 2, at 3, at 4) refl
same-values (Accepted c) (Refused f) e =
    let n = ap (λ (x : VerdictValues). x.number) e in absurd (omega (arith, numbers f))
same-values (Refused f) (Accepted c) e =
    let n = ap (λ (x : VerdictValues). x.number) e in absurd (omega (arith, numbers f))
same-values (Refused f) (Refused g) e =
    let l = ap (λ (x : VerdictValues). x.values) e in
    ap Refused (same-fault f g (ap (λ (x : VerdictValues). x.number) e) (ap (λ (m : List ℕ). get_or m 0 0) l) (ap (λ (m : List ℕ). get_or m 1 0) l))

-- ---- which numbers have no part

pub partless-yes : (n : ℕ) → (n ≡ 1) ⊎ ((n ≡ 4) ⊎ (n ≡ 16)) → true ≡ partless n
unfolding partless
partless-yes n (inl h) = rw h
partless-yes n (inr (inl h)) = rw h
partless-yes n (inr (inr h)) = rw h

pub partless-no : (n : ℕ) → ¬ ((n ≡ 1) ⊎ ((n ≡ 4) ⊎ (n ≡ 16))) → false ≡ partless n
unfolding partless
partless-no n h = rw (ne_eqb n 1 (λ e. h (inl e)), ne_eqb n 4 (λ e. h (inr (inl e))), ne_eqb n 16 (λ e. h (inr (inr e))))
