-- What `share?` needs: equations between terms, solved variable by variable.
use mathlib.Core.HLevel.{Discrete}
use Rattle.std.specs.Prelude.{Bool, true, false, List, [], ◌∷◌, ◌++◌, length, ℕ, zero, suc}
use Rattle.std.proofs.Math.Decide.{ℕ_discrete}
use Rattle.terms.specs.Term.{Term, variable, atom, pair, replace, wrapped, Wrapping-discrete}
use Rattle.terms.specs.Occurs.{occurs?}

-- Equations between a variable and a term; or a clash, which nothing solves.
pub data Equations (Z : Type 0) : Type 0 where
  clash : Equations Z
  done : Equations Z
  more : Z → Term Z → Equations Z → Equations Z

-- One more equation; a clash stays a clash.
unfoldable pub put : {Z : Type 0} → Z → Term Z → Equations Z → Equations Z
put x t clash = clash
put x t done = more x t done
put x t (more y u e) = more x t (more y u e)

-- The equations that two terms be the same, in front of others: taken apart down to the variables.
unfoldable pub equate : {Z : Type 0} → Discrete Z → Term Z → Term Z → Equations Z → Equations Z
unfolding put
equate d (variable x) (variable y) e = elim (d x y) [ yes p ↦ e | no n ↦ put x (variable y) e ]
equate d (variable x) (atom a) e = put x (atom a) e
equate d (variable x) (pair t u) e = put x (pair t u) e
equate d (variable x) (wrapped w k t) e = put x (wrapped w k t) e
equate d (atom a) (variable y) e = put y (atom a) e
equate d (atom a) (atom b) e = elim (ℕ_discrete a b) [ yes p ↦ e | no n ↦ clash ]
equate d (atom a) (pair t u) e = clash
equate d (atom a) (wrapped w k t) e = clash
equate d (pair s r) (variable y) e = put y (pair s r) e
equate d (pair s r) (atom b) e = clash
equate d (pair s r) (pair t u) e = equate d s t (equate d r u e)
equate d (pair s r) (wrapped w k t) e = clash
equate d (wrapped w k s) (variable y) e = put y (wrapped w k s) e
equate d (wrapped w k s) (atom b) e = clash
equate d (wrapped w k s) (pair t u) e = clash
equate d (wrapped w k s) (wrapped w' l t) e = elim (Wrapping-discrete w w') [
  | yes q ↦ elim (ℕ_discrete k l) [ yes p ↦ equate d s t e | no n ↦ clash ]
  | no n ↦ clash
]

-- A single variable replaced.
unfoldable pub single : {Z : Type 0} → Discrete Z → Z → Term Z → Z → Term Z
single d x t y = elim (d x y) [ yes p ↦ t | no n ↦ variable y ]

-- The equations with a variable replaced.
unfoldable pub without : {Z : Type 0} → Discrete Z → Z → Term Z → Equations Z → Equations Z
without d x t clash = clash
without d x t done = done
without d x t (more y u e) = equate d (single d x t y) (replace (single d x t) u) (without d x t e)

-- Whether messages solve the equations, variable by variable; n counts the variables that are left.
unfoldable pub solve : {Z : Type 0} → Discrete Z → ℕ → Equations Z → Bool
solve d zero clash = false
solve d zero done = true
solve d zero (more x t e) = false
solve d (suc n) clash = false
solve d (suc n) done = true
solve d (suc n) (more x t e) = elim (occurs? d x t) [ yes o ↦ false | no o ↦ solve d n (without d x t e) ]

-- The variables of a term, each as often as it stands there.
unfoldable pub names : {Z : Type 0} → Term Z → List Z
names (variable x) = x ∷ []
names (atom a) = []
names (pair t u) = names t ++ names u
names (wrapped w k t) = names t

-- Whether messages for the variables make two terms the same.
unfoldable pub unify : {Z : Type 0} → Discrete Z → Term Z → Term Z → Bool
unfolding ℕ_discrete occurs? replace put equate single without solve names
unify d s t = solve d (length (names s ++ names t)) (equate d s t done)
