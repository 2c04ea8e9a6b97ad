-- What `match?` needs: whether a pattern becomes a term, whatever its variables stand for, and the one replacement by which
-- it can.
use Rattle.std.specs.Prelude.{◌≡◌, ◌⊎◌}
use Rattle.std.proofs.Common.{◌∙◌, inl, inr, ⊎_elim}
use mathlib.Core.HLevel.{Discrete}
use Rattle.terms.specs.Term.{Term, variable, atom, pair, replace, wrapped}
use Rattle.terms.specs.Occurs.{Occurs, replace-on}

-- The term is the pattern with its variables replaced by terms, whatever they stand for.
pub record Becomes {X Y : Type 0} (pattern : Term X) (term : Term Y) : Type 0 where
  pub by : X → Term Y
  pub same : replace by pattern ≡ term

-- The part of the term against which the variable stands first in the pattern; `rest` if there is none.
unfoldable pub seek : {X Y : Type 0} → Discrete X → X → Term X → Term Y → Term Y → Term Y
seek d x (variable y) t rest = elim (d x y) [ yes e ↦ t | no n ↦ rest ]
seek d x (atom a) t rest = rest
seek d x (pair p q) (pair t u) rest = seek d x p t (seek d x q u rest)
seek d x (pair p q) (variable y) rest = rest
seek d x (pair p q) (atom a) rest = rest
seek d x (pair p q) (wrapped w k t) rest = rest
seek d x (wrapped w k p) (wrapped w' l t) rest = seek d x p t rest
seek d x (wrapped w k p) (variable y) rest = rest
seek d x (wrapped w k p) (atom a) rest = rest
seek d x (wrapped w k p) (pair t u) rest = rest

-- Where the term is the pattern replaced, that part is the variable's replacement.
seek_is : {X Y : Type 0} (d : Discrete X) (by : X → Term Y) (x : X) (p : Term X) (rest : Term Y) → Occurs x p ⊎ (rest ≡ by x)
    → seek d x p (replace by p) rest ≡ by x
unfolding Occurs replace seek
seek_is d by x (variable y) rest o = first (d x y)
  where
    first : (e : Dec (x ≡ y)) → elim e [ yes e ↦ by y | no n ↦ rest ] ≡ by x
    first (yes e) = cc
    first (no n) = ⊎_elim (λ e. absurd (n e)) (λ e. e) o
seek_is d by x (atom a) rest o = ⊎_elim (λ e. absurd e) (λ e. e) o
seek_is d by x (pair p q) rest o = seek_is d by x p _
    (⊎_elim (⊎_elim inl (λ i. inr (seek_is d by x q rest (inl i)))) (λ e. inr (seek_is d by x q rest (inr e))) o)
seek_is d by x (wrapped w k p) rest o = seek_is d by x p rest o

-- The replacement by the parts found; a variable that is not in the pattern gets atom 0.
unfoldable pub found : {X Y : Type 0} → Discrete X → Term X → Term Y → X → Term Y
unfolding seek
found d p t x = seek d x p t (atom 0)

-- If any replacement makes the term of the pattern, this one does.
pub found-is : {X Y : Type 0} (d : Discrete X) (p : Term X) (t : Term Y) → Becomes p t → replace (found d p t) p ≡ t
unfolding found
found-is d p t m = replace-on (found d p t) m.by p (λ x o. rw (← m.same) (seek_is d m.by x p (atom 0) (inl o))) ∙ m.same
