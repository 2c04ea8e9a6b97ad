-- Laws of places.
use mathlib.Core.Path.{◌≡◌, refl, ◌∙◌}
use mathlib.Core.Logic.{◌⊎◌, inl, inr}
use mathlib.Core.List.{[], ◌∷◌, ◌++◌, append_assoc, nil≢cons}
use mathlib.Core.Option.{Option, some, none-ne-some}
use Prim.Native.Nat.{ℕ}
use Rattle.terms.specs.Term.{Term, variable, atom, pair, replace, wrapped, Wrapping}
use Rattle.terms.specs.Place.{Turn, left, right, inside, Place, subterm_at, StrictlyAbove, AtOrAbove}
use Rattle.terms.specs.Turns.{by-turns}

-- What follows the same beginning is the same.
pub append-cancel : (q : Place) {r r' : Place} → q ++ r ≡ q ++ r' → r ≡ r'
append-cancel [] e = e
append-cancel (a ∷ q) {r} {r'} e = append-cancel q (let tails : q ++ r ≡ q ++ r' = cc in tails)

-- Two beginnings of one place: the second stands strictly above the first, or the first stands at or above the second.
pub beginnings : (q h r s : Place) → q ++ r ≡ h ++ s → StrictlyAbove h q ⊎ AtOrAbove q h
beginnings [] h r s e = inr (record { rest = h; split = refl })
beginnings (a ∷ q) [] r s e = inl (record { turn = a; rest = q; split = refl })
beginnings (a ∷ q) (b ∷ h) r s e =
    further (beginnings q h r s (let tails : q ++ r ≡ h ++ s = cc in tails))
  where
    same : a ≡ b
    same = cc

    further : StrictlyAbove h q ⊎ AtOrAbove q h → StrictlyAbove (b ∷ h) (a ∷ q) ⊎ AtOrAbove (a ∷ q) (b ∷ h)
    further (inl x) = inl (record { turn = x.turn; rest = x.rest; split = cc })
    further (inr x) = inr (record { rest = x.rest; split = cc })

-- Further down it still stands above.
pub strictly-above-below : {q p : Place} (r : Place) → StrictlyAbove q p → StrictlyAbove q (p ++ r)
strictly-above-below {q} {p} r x =
    record { turn = x.turn; rest = x.rest ++ r; split = cc (append_assoc q (x.turn ∷ x.rest) r) }

pub at-or-above-below : {q p : Place} (r : Place) → AtOrAbove q p → AtOrAbove q (p ++ r)
at-or-above-below {q} {p} r x = record { rest = x.rest ++ r; split = cc (append_assoc q x.rest r) }

-- The same place, seen from above.
pub strictly-above-under : (o : Place) {q p : Place} → StrictlyAbove q p → StrictlyAbove (o ++ q) (o ++ p)
strictly-above-under o {q} {p} x =
    record { turn = x.turn; rest = x.rest; split = cc (append_assoc o q (x.turn ∷ x.rest)) }

pub at-or-above-under : (o : Place) {q p : Place} → AtOrAbove q p → AtOrAbove (o ++ q) (o ++ p)
at-or-above-under o {q} {p} x = record { rest = x.rest; split = cc (append_assoc o q x.rest) }

-- And seen from below.
pub strictly-above-from : (o : Place) {q p : Place} → StrictlyAbove (o ++ q) (o ++ p) → StrictlyAbove q p
strictly-above-from o {q} {p} x =
    record { turn = x.turn; rest = x.rest; split = append-cancel o (cc (append_assoc o q (x.turn ∷ x.rest))) }

pub at-or-above-from : (o : Place) {q p : Place} → AtOrAbove (o ++ q) (o ++ p) → AtOrAbove q p
at-or-above-from o {q} {p} x = record { rest = x.rest; split = append-cancel o (cc (append_assoc o q x.rest)) }

-- What stands below a place stands below the subterm there.
pub subterm_at-append : {X : Type 0} (q r : Place) (t : Term X) {u : Term X} → subterm_at q t ≡ some u →
    subterm_at (q ++ r) t ≡ subterm_at r u
unfolding subterm_at
subterm_at-append {X} q r t e =
    by-turns (λ (q : Place) (t u : Term X). subterm_at (q ++ r) t ≡ subterm_at r u)
    (λ t. refl) (λ p t u s h. h) (λ p t u s h. h) (λ p w k t s h. h) q t e

-- The same place of an instance holds the subterm's instance.
pub subterm_at-replace : {X Y : Type 0} (by : X → Term Y) (p : Place) (t : Term X) {u : Term X} →
    subterm_at p t ≡ some u → subterm_at p (replace by t) ≡ some (replace by u)
unfolding subterm_at replace
subterm_at-replace {X} by p t e =
    by-turns (λ (p : Place) (t u : Term X). subterm_at p (replace by t) ≡ some (replace by u))
    (λ t. refl) (λ p t u s h. h) (λ p t u s h. h) (λ p w k t s h. h) p t e

-- On the way to a place: what is found first is a subterm, and the rest of the way leads on from it.
pub record OnTheWay {X : Type 0} (first : Option (Term X)) (r : Place) (s : Term X) : Type 0 where
  pub subterm : Term X
  pub stands : first ≡ some subterm
  pub onward : subterm_at r subterm ≡ some s

pub on-the-way : {X : Type 0} (q r : Place) (t : Term X) {s : Term X} → subterm_at (q ++ r) t ≡ some s →
    OnTheWay (subterm_at q t) r s
unfolding subterm_at
on-the-way [] r t e = record { subterm = t; stands = refl; onward = e }
on-the-way (left ∷ q) r (pair t u) e = on-the-way q r t e
on-the-way (right ∷ q) r (pair t u) e = on-the-way q r u e
on-the-way (inside ∷ q) r (wrapped w k t) e = on-the-way q r t e
on-the-way (left ∷ q) r (variable x) {s} e = absurd (none-ne-some s e)
on-the-way (left ∷ q) r (atom a) {s} e = absurd (none-ne-some s e)
on-the-way (left ∷ q) r (wrapped w k t) {s} e = absurd (none-ne-some s e)
on-the-way (right ∷ q) r (variable x) {s} e = absurd (none-ne-some s e)
on-the-way (right ∷ q) r (atom a) {s} e = absurd (none-ne-some s e)
on-the-way (right ∷ q) r (wrapped w k t) {s} e = absurd (none-ne-some s e)
on-the-way (inside ∷ q) r (variable x) {s} e = absurd (none-ne-some s e)
on-the-way (inside ∷ q) r (atom a) {s} e = absurd (none-ne-some s e)
on-the-way (inside ∷ q) r (pair t u) {s} e = absurd (none-ne-some s e)

-- A place of an instance is a place of the term, or it lies at or below a variable of the term.
pub data Edge {X : Type 0} (u : Term X) (rest : Place) : Type 0 where
  exact : rest ≡ [] → Edge u rest
  below : {x : X} → u ≡ variable x → Edge u rest

pub record Origin {X Y : Type 0} (by : X → Term Y) (t : Term X) (p : Place) (s : Term Y) : Type 0 where
  pub place : Place
  pub rest : Place
  pub split : p ≡ place ++ rest
  pub subterm : Term X
  pub stands : subterm_at place t ≡ some subterm
  pub found : subterm_at rest (replace by subterm) ≡ some s
  pub edge : Edge subterm rest

module _ {X Y : Type 0} (by : X → Term Y) where
  origin-root : (t : Term X) (rest : Place) {s : Term Y} → Edge t rest → subterm_at rest (replace by t) ≡ some s →
      Origin by t rest s
  unfolding subterm_at
  origin-root t rest edge e =
      record { place = []; rest = rest; split = refl; subterm = t; stands = refl; found = e; edge = edge }

  origin-turn : (a : Turn) {t u : Term X} {p : Place} {s : Term Y} →
      ((q : Place) → subterm_at (a ∷ q) t ≡ subterm_at q u) → Origin by u p s → Origin by t (a ∷ p) s
  origin-turn a turn o = record {
    place = a ∷ o.place;
    rest = o.rest;
    split = cc;
    subterm = o.subterm;
    stands = turn o.place ∙ o.stands;
    found = o.found;
    edge = o.edge;
  }

  pub origin : (t : Term X) (p : Place) {s : Term Y} → subterm_at p (replace by t) ≡ some s → Origin by t p s
  unfolding subterm_at replace
  origin (variable x) p e = origin-root (variable x) p (below refl) e
  origin (atom a) [] e = origin-root (atom a) [] (exact refl) e
  origin (pair t u) [] e = origin-root (pair t u) [] (exact refl) e
  origin (wrapped w k t) [] e = origin-root (wrapped w k t) [] (exact refl) e
  origin (pair t u) (left ∷ p) e = origin-turn left (λ q. refl) (origin t p e)
  origin (pair t u) (right ∷ p) e = origin-turn right (λ q. refl) (origin u p e)
  origin (wrapped w k t) (inside ∷ p) e = origin-turn inside (λ q. refl) (origin t p e)
  origin (atom a) (left ∷ p) {s} e = absurd (none-ne-some s e)
  origin (atom a) (right ∷ p) {s} e = absurd (none-ne-some s e)
  origin (atom a) (inside ∷ p) {s} e = absurd (none-ne-some s e)
  origin (pair t u) (inside ∷ p) {s} e = absurd (none-ne-some s e)
  origin (wrapped w k t) (left ∷ p) {s} e = absurd (none-ne-some s e)
  origin (wrapped w k t) (right ∷ p) {s} e = absurd (none-ne-some s e)

-- A term with a place below its root is a pair or has something around it.
pub data Composite {X : Type 0} (t : Term X) : Type 0 where
  is_pair : {u w : Term X} → t ≡ pair u w → Composite t
  is_wrapped : {w : Wrapping} {k : ℕ} {u : Term X} → t ≡ wrapped w k u → Composite t

pub composite : {X : Type 0} (a : Turn) (p : Place) (t : Term X) {s : Term X} → subterm_at (a ∷ p) t ≡ some s →
    Composite t
composite {X} a p t e =
    by-turns (λ (q : Place) (t s : Term X). q ≡ a ∷ p → Composite t)
    (λ t f. absurd (nil≢cons f)) (λ q t u s h f. is_pair refl) (λ q t u s h f. is_pair refl)
    (λ q w k t s h f. is_wrapped refl) (a ∷ p) t e refl
