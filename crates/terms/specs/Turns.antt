-- What the decisions below need of places: nothing stands above the root, and an induction over the turns that lead to a place.
use Rattle.std.specs.Prelude.{◌≡◌, [], ◌∷◌, ◌++◌, ℕ}
use Rattle.std.proofs.Common.{subst, arith}
use Rattle.std.proofs.Math.Option.{some, none-ne-some}
use Rattle.terms.specs.Term.{Term, variable, atom, pair, wrapped, Wrapping}
use Rattle.terms.specs.Place.{left, right, inside, Place, subterm_at, StrictlyAbove}

pub nothing-above-root : {q : Place} → StrictlyAbove q [] → ⊥
nothing-above-root {q} x = go q x.split
  where
    go : (q : Place) → [] ≡ q ++ (x.turn ∷ x.rest) → ⊥
    go [] e = let z : ◌≡◌ {A = ℕ} 0 1 = cc in omega arith
    go (a ∷ q) e = let z : ◌≡◌ {A = ℕ} 0 1 = cc in omega arith

-- To prove something of a place, a term and the subterm there: prove it at the root, and carry it up one turn.
pub by-turns : {X : Type 0} (P : Place → Term X → Term X → Type 0) →
    ((t : Term X) → P [] t t) →
    ((p : Place) (t u s : Term X) → P p t s → P (left ∷ p) (pair t u) s) →
    ((p : Place) (t u s : Term X) → P p u s → P (right ∷ p) (pair t u) s) →
    ((p : Place) (w : Wrapping) (k : ℕ) (t s : Term X) → P p t s → P (inside ∷ p) (wrapped w k t) s) →
    (p : Place) (t : Term X) {s : Term X} → subterm_at p t ≡ some s → P p t s
unfolding subterm_at
by-turns P root l r i [] t {s} e = let same : t ≡ s = cc in subst (P [] t) same (root t)
by-turns P root l r i (left ∷ p) (pair t u) {s} e = l p t u s (by-turns P root l r i p t e)
by-turns P root l r i (right ∷ p) (pair t u) {s} e = r p t u s (by-turns P root l r i p u e)
by-turns P root l r i (inside ∷ p) (wrapped w k t) {s} e = i p w k t s (by-turns P root l r i p t e)
by-turns P root l r i (left ∷ p) (variable x) {s} e = absurd (none-ne-some s e)
by-turns P root l r i (left ∷ p) (atom a) {s} e = absurd (none-ne-some s e)
by-turns P root l r i (left ∷ p) (wrapped w k t) {s} e = absurd (none-ne-some s e)
by-turns P root l r i (right ∷ p) (variable x) {s} e = absurd (none-ne-some s e)
by-turns P root l r i (right ∷ p) (atom a) {s} e = absurd (none-ne-some s e)
by-turns P root l r i (right ∷ p) (wrapped w k t) {s} e = absurd (none-ne-some s e)
by-turns P root l r i (inside ∷ p) (variable x) {s} e = absurd (none-ne-some s e)
by-turns P root l r i (inside ∷ p) (atom a) {s} e = absurd (none-ne-some s e)
by-turns P root l r i (inside ∷ p) (pair t u) {s} e = absurd (none-ne-some s e)
