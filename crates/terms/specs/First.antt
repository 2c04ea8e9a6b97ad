-- The first number, in rising order, of which a claim does not hold.
use Rattle.std.specs.Prelude.{◌≡◌, ℕ, zero, suc, ◌<◌, Option, Some, None}

-- What is found: a number, or none.
abbrev pub Found : Type 0
Found = Option ℕ

-- What is found below count: n is one of which P does not hold, and P holds of all smaller ones; or P holds of all.
pub data FirstNot (P : ℕ → Type 0) (count : ℕ) (f : Found) : Type 0 where
  fails : {n : ℕ} → f ≡ Some n → n < count → ¬ P n → ((k : ℕ) → k < n → P k) → FirstNot P count f
  holds : f ≡ None → ((k : ℕ) → k < count → P k) → FirstNot P count f

module _ {P : ℕ → Type 0} (P? : (n : ℕ) → Dec (P n)) where
  -- From i on, with so many left.
  unfoldable pub first_from : ℕ → ℕ → Found
  first_from i zero = None
  first_from i (suc left) = elim (P? i) [ yes p ↦ first_from (suc i) left | no n ↦ Some i ]

  unfoldable pub first_not : ℕ → Found
  unfolding first_from
  first_not count = first_from 0 count
