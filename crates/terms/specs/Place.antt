-- Places (document 01, "Messages, intruder, runs"): "A place is a subterm's spot. The key of an encryption is no place"
-- (the paper's non-critical position), nor is that of a signature, and "nothing below a hash is a place" (02, No. 7).
use Rattle.std.specs.Prelude.{ℕ, ◌≡◌, List, [], ◌∷◌, ◌++◌, map}
use Rattle.std.proofs.Math.Option.{Option, none, some}
use Rattle.terms.specs.Term.{Term, variable, atom, pair, wrapped, hashed}

-- From a term to a part of it: the halves of a pair, and what an encryption, a hash or a signature holds. There is no turn to
-- a key.
pub data Turn : Type 0 where
  left : Turn
  right : Turn
  inside : Turn
  deriving Discrete as Turn-discrete

-- A place, by the turns that lead to it from the root. (Turns may also lead below a hash: `IsPlace` says which lead to a place.)
abbrev pub Place : Type 0
Place = List Turn

-- The subterm to which the turns lead, if there is one.
unfoldable pub subterm_at : {X : Type 0} → Place → Term X → Option (Term X)
subterm_at [] t = some t
subterm_at (left ∷ p) (pair t u) = subterm_at p t
subterm_at (right ∷ p) (pair t u) = subterm_at p u
subterm_at (inside ∷ p) (wrapped w k t) = subterm_at p t
subterm_at (left ∷ p) (variable x) = none
subterm_at (left ∷ p) (atom a) = none
subterm_at (left ∷ p) (wrapped w k t) = none
subterm_at (right ∷ p) (variable x) = none
subterm_at (right ∷ p) (atom a) = none
subterm_at (right ∷ p) (wrapped w k t) = none
subterm_at (inside ∷ p) (variable x) = none
subterm_at (inside ∷ p) (atom a) = none
subterm_at (inside ∷ p) (pair t u) = none

-- Place q stands strictly above place p.
pub record StrictlyAbove (q p : Place) : Type 0 where
  pub turn : Turn
  pub rest : Place
  pub split : p ≡ q ++ (turn ∷ rest)

-- Place q stands at or above place p.
pub record AtOrAbove (q p : Place) : Type 0 where
  pub rest : Place
  pub split : p ≡ q ++ rest

-- A place of the term: "nothing below a hash is a place" (02, No. 7), so no hash stands strictly above it.
pub record IsPlace {X : Type 0} (t : Term X) (p : Place) : Type 0 where
  pub no_hash : (q : Place) → StrictlyAbove q p → (n : ℕ) (s : Term X) → subterm_at q t ≡ some (hashed n s) → ⊥

-- One of a term's subterms, with the turns that lead to it.
abbrev pub Spot : Type 0 → Type 0
Spot X = Place × Term X

abbrev pub down : {X : Type 0} → Turn → Spot X → Spot X
down a w = (a ∷ w.0, w.1)

-- All of them in the order of the entries: parents before children, left before right.
unfoldable pub spots : {X : Type 0} → Term X → List (Spot X)
spots (variable x) = ([], variable x) ∷ []
spots (atom a) = ([], atom a) ∷ []
spots (pair t u) = ([], pair t u) ∷ (map (down left) (spots t) ++ map (down right) (spots u))
spots (wrapped w k t) = ([], wrapped w k t) ∷ map (down inside) (spots t)
