-- What the decisions below need: which variables stand in a term, and what a replacement does to them.
use Rattle.std.specs.Prelude.{◌≡◌, refl, ◌⊎◌, ℕ, suc, ◌+◌, ◌≤◌}
use Rattle.std.proofs.Common.{ap, ap₂, inl, inr, ⊎_elim, arith}
use mathlib.Core.HLevel.{Discrete}
use Rattle.terms.specs.Term.{Term, variable, atom, pair, replace, wrapped}

-- The variable stands somewhere in the term.
unfoldable pub Occurs : {X : Type 0} → X → Term X → Type 0
Occurs x (variable y) = x ≡ y
Occurs x (atom a) = ⊥
Occurs x (pair t u) = Occurs x t ⊎ Occurs x u
Occurs x (wrapped w k t) = Occurs x t

-- Decided, for variables that can be told apart.
unfoldable pub occurs? : {X : Type 0} → Discrete X → (x : X) (t : Term X) → Dec (Occurs x t)
unfolding Occurs
occurs? d x (variable y) = d x y
occurs? d x (atom a) = no (λ o. o)
occurs? d x (pair t u) = elim (occurs? d x t) [
  | yes o ↦ yes (inl o)
  | no n ↦ elim (occurs? d x u) [ yes o ↦ yes (inr o) | no m ↦ no (⊎_elim n m) ]
]
occurs? d x (wrapped w k t) = occurs? d x t

-- Only the values at the term's own variables matter.
pub replace-on : {X Y : Type 0} (f g : X → Term Y) (t : Term X) → ((x : X) → Occurs x t → f x ≡ g x)
    → replace f t ≡ replace g t
unfolding Occurs replace
replace-on f g (variable x) same = same x refl
replace-on f g (atom a) same = refl
replace-on f g (pair t u) same =
    ap₂ pair (replace-on f g t (λ x o. same x (inl o))) (replace-on f g u (λ x o. same x (inr o)))
replace-on f g (wrapped w k t) same = ap (wrapped w k) (replace-on f g t same)

-- One replacement after another is one replacement.
pub replace-twice : {X Y Z : Type 0} (f : Y → Term Z) (g : X → Term Y) (t : Term X)
    → replace f (replace g t) ≡ replace (λ x. replace f (g x)) t
unfolding replace
replace-twice f g (variable x) = refl
replace-twice f g (atom a) = refl
replace-twice f g (pair t u) = ap₂ pair (replace-twice f g t) (replace-twice f g u)
replace-twice f g (wrapped w k t) = ap (wrapped w k) (replace-twice f g t)

-- Each variable replaced by itself.
pub replace-none : {X : Type 0} (t : Term X) → replace variable t ≡ t
unfolding replace
replace-none (variable x) = refl
replace-none (atom a) = refl
replace-none (pair t u) = ap₂ pair (replace-none t) (replace-none u)
replace-none (wrapped w k t) = ap (wrapped w k) (replace-none t)

-- A variable of a replaced term comes from the replacement of some variable.
pub record Comes {X Y : Type 0} (f : X → Term Y) (t : Term X) (y : Y) : Type 0 where
  pub from : X
  pub there : Occurs from t
  pub here : Occurs y (f from)

-- Every one does.
pub comes : {X Y : Type 0} (f : X → Term Y) (t : Term X) (y : Y) → Occurs y (replace f t) → Comes f t y
unfolding Occurs replace
comes f (variable x) y o = record { from = x; there = refl; here = o }
comes f (atom a) y o = absurd o
comes f (pair t u) y o = ⊎_elim
    (λ l. (let c = comes f t y l in record { from = c.from; there = inl c.there; here = c.here }))
    (λ r. (let c = comes f u y r in record { from = c.from; there = inr c.there; here = c.here })) o
comes f (wrapped w k t) y o = let c = comes f t y o in record { from = c.from; there = c.there; here = c.here }

-- The term is the variable, and nothing else.
unfoldable pub Self : {X : Type 0} → X → Term X → Type 0
Self x (variable y) = x ≡ y
Self x (atom a) = ⊥
Self x (pair t u) = ⊥
Self x (wrapped w k t) = ⊥

-- How many symbols a term has.
weight : {X : Type 0} → Term X → ℕ
weight (variable x) = 1
weight (atom a) = 1
weight (pair t u) = suc (weight t + weight u)
weight (wrapped w k t) = suc (weight t)

-- A variable's replacement weighs no more than the replaced term.
weight-at : {X Y : Type 0} (f : X → Term Y) (x : X) (t : Term X) → Occurs x t → weight (f x) ≤ weight (replace f t)
unfolding Occurs replace weight
weight-at f x (variable y) o = let e = ap (λ z. weight (f z)) o in omega arith
weight-at f x (atom a) o = absurd o
weight-at f x (pair t u) o =
    ⊎_elim (λ l. (let h = weight-at f x t l in omega arith)) (λ r. (let h = weight-at f x u r in omega arith)) o
weight-at f x (wrapped w k t) o = let h = weight-at f x t o in omega arith

-- In a finite term a proper part is smaller than the whole.
pub no-cycle : {X Y : Type 0} (f : X → Term Y) (x : X) (t : Term X)
    → Occurs x t → ¬ Self x t → ¬ (f x ≡ replace f t)
unfolding Occurs Self replace weight
no-cycle f x (variable y) o proper e = proper o
no-cycle f x (atom a) o proper e = absurd o
no-cycle f x (pair t u) o proper e =
    let w = ap weight e in ⊎_elim (λ l. (let h = weight-at f x t l in omega arith)) (λ r. (let h = weight-at f x u r in omega arith)) o
no-cycle f x (wrapped wr k t) o proper e = let w = ap weight e in let h = weight-at f x t o in omega arith
