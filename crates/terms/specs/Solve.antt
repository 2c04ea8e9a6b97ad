-- What `share?` needs: the solving of equations says truly whether messages solve them.
use Rattle.std.specs.Prelude.{◌≡◌, ◌↔◌, length}
use Rattle.std.proofs.Math.Path.{refl, sym, ap, fun_ext}
use Rattle.std.proofs.Common.{ap₂, ◌∙◌, subst, inl, inr, ⊎_elim, arith}
use mathlib.Core.HLevel.{Discrete}
use Rattle.std.proofs.Math.Bool.{false}
use mathlib.Core.List.Memᴰ
use mathlib.Core.List.{List, ◌∷◌, ◌++◌, Memᴰ}
use Prim.Native.Nat.{ℕ, zero, suc, ◌≤◌, ◌<◌}
use Rattle.std.proofs.Math.Decide.{ℕ_discrete}
use Rattle.terms.specs.Term.{Term, variable, atom, pair, Message, replace, wrapped, Wrapping-discrete}
use Rattle.terms.specs.Tag.{atom_tag, pair_tag, wrapping_tag, wrapping-tag}
use Rattle.terms.specs.Decisions.{Says, says_same}
use Rattle.terms.specs.Occurs.{Occurs, occurs?, replace-on, replace-twice, replace-none, comes, Self, no-cycle}
use Rattle.terms.specs.Unify.{Equations, clash, done, more, put, equate, single, without, solve, names, unify}

-- The messages for the variables solve the equations.
unfoldable pub Solves : {Z : Type 0} → (Z → Message) → Equations Z → Type 0
Solves by clash = ⊥
Solves by done = Unit {0}
Solves by (more x t e) = (by x ≡ replace by t) × Solves by e

-- Some messages for the variables solve the equations.
pub record Solvable {Z : Type 0} (e : Equations Z) : Type 0 where
  pub by : Z → Message
  pub solves : Solves by e

-- The form of a message: its root's tag as an entry.
unfoldable pub form : Message → ℕ
form (variable x) = 0
form (atom a) = atom_tag
form (pair m n) = pair_tag
form (wrapped w k m) = wrapping_tag w

-- Messages of different forms are never the same.
never : {m n : Message} {P : Type 0} → ¬ (form m ≡ form n) → ⊥ ↔ ((m ≡ n) × P)
never off = (λ h. absurd h, λ h. off (ap form h.0))

module _ {Z : Type 0} where
  -- What solves the equations with one more in front: it solves that one, and the others.
  put-solves : (by : Z → Message) (x : Z) (t : Term Z) (e : Equations Z) → Solves by (put x t e) ↔ ((by x ≡ replace by t) × Solves by e)
  unfolding Solves put
  put-solves by x t clash = (λ h. absurd h, λ h. h.1)
  put-solves by x t done = (λ h. h, λ h. h)
  put-solves by x t (more y u e) = (λ h. h, λ h. h)

  -- The same, with the equation turned.
  put_back : (by : Z → Message) (x : Z) (t : Term Z) (e : Equations Z) → Solves by (put x t e) ↔ ((replace by t ≡ by x) × Solves by e)
  put_back by x t e = (λ h. (let k = (put-solves by x t e).0 h in (sym k.0, k.1)), λ h. (put-solves by x t e).1 (sym h.0, h.1))

module _ {Z : Type 0} (d : Discrete Z) where
  -- What solves the equations of two terms: it makes them the same, and solves the others.
  equate-solves : (by : Z → Message) (s t : Term Z) (e : Equations Z)
      → Solves by (equate d s t e) ↔ ((replace by s ≡ replace by t) × Solves by e)
  unfolding Solves equate replace form
  equate-solves by (variable x) (variable y) e = go (d x y)
    where
      go : (q : Dec (x ≡ y)) → Solves by (elim q [ yes p ↦ e | no n ↦ put x (variable y) e ]) ↔ ((by x ≡ by y) × Solves by e)
      go (yes p) = (λ h. (ap by p, h), λ h. h.1)
      go (no n) = put-solves by x (variable y) e
  equate-solves by (variable x) (atom a) e = put-solves by x (atom a) e
  equate-solves by (variable x) (pair t u) e = put-solves by x (pair t u) e
  equate-solves by (variable x) (wrapped w k t) e = put-solves by x (wrapped w k t) e
  equate-solves by (atom a) (variable y) e = put_back by y (atom a) e
  equate-solves by (atom a) (atom b) e = go (ℕ_discrete a b)
    where
      go : (q : Dec (a ≡ b)) → Solves by (elim q [ yes p ↦ e | no n ↦ clash ]) ↔ ((◌≡◌ {A = Message} (atom a) (atom b)) × Solves by e)
      go (yes p) = (λ h. (ap atom p, h), λ h. h.1)
      go (no n) = (λ h. absurd h, λ h. n (cc))
  equate-solves by (atom a) (pair t u) e = never (omega arith)
  equate-solves by (atom a) (wrapped w k t) e = never (omega (arith, wrapping-tag w refl))
  equate-solves by (pair s r) (variable y) e = put_back by y (pair s r) e
  equate-solves by (pair s r) (atom b) e = never (omega arith)
  equate-solves by (pair s r) (pair t u) e =
      let f = equate-solves by s t (equate d r u e) in
      let g = equate-solves by r u e in
      (λ h. (let a = f.0 h in let b = g.0 a.1 in (ap₂ pair a.0 b.0, b.1)), λ h. f.1 (cc, g.1 (cc, h.1)))
  equate-solves by (pair s r) (wrapped w k t) e = never (omega (arith, wrapping-tag w refl))
  equate-solves by (wrapped w k s) (variable y) e = put_back by y (wrapped w k s) e
  equate-solves by (wrapped w k s) (atom b) e = never (omega (arith, wrapping-tag w refl))
  equate-solves by (wrapped w k s) (pair t u) e = never (omega (arith, wrapping-tag w refl))
  equate-solves by (wrapped w k s) (wrapped w' l t) e = go (Wrapping-discrete w w') (ℕ_discrete k l) (equate-solves by s t e)
    where
      go : (o : Dec (w ≡ w')) (q : Dec (k ≡ l)) → Solves by (equate d s t e) ↔ ((replace by s ≡ replace by t) × Solves by e)
          → Solves by (elim o [ yes p ↦ elim q [ yes p ↦ equate d s t e | no n ↦ clash ] | no n ↦ clash ])
          ↔ ((◌≡◌ {A = Message} (wrapped w k (replace by s)) (wrapped w' l (replace by t))) × Solves by e)
      go (yes o) (yes p) f = (λ h. (let a = f.0 h in let b = a.0 in (cc, a.1)), λ h. f.1 (cc, h.1))
      go (yes o) (no n) f = (λ h. absurd h, λ h. n (cc))
      go (no n) q f = (λ h. absurd h, λ h. n (cc))

  -- Solving the equations with x replaced by t is solving them with t's message for x.
  without-solves : (by : Z → Message) (x : Z) (t : Term Z) (e : Equations Z)
      → Solves by (without d x t e) ↔ Solves (λ y. replace by (single d x t y)) e
  unfolding Solves without
  without-solves by x t clash = (λ h. h, λ h. h)
  without-solves by x t done = (λ h. h, λ h. h)
  without-solves by x t (more y u e) =
      let q = equate-solves by (single d x t y) (replace (single d x t) u) (without d x t e) in
      let r = replace-twice by (single d x t) u in
      let f = without-solves by x t e in
      (λ h. (let k = q.0 h in (k.0 ∙ r, f.0 k.1)), λ h. q.1 (h.0 ∙ sym r, f.1 h.1))

  -- The one variable, and every other.
  single-here : (x : Z) (t : Term Z) → single d x t x ≡ t
  unfolding single
  single-here x t = go (d x x)
    where
      go : (q : Dec (x ≡ x)) → elim q [ yes p ↦ t | no n ↦ variable x ] ≡ t
      go (yes p) = refl
      go (no n) = absurd (n refl)

  single-there : (x : Z) (t : Term Z) (y : Z) → ¬ (x ≡ y) → single d x t y ≡ variable y
  unfolding single
  single-there x t y off = go (d x y)
    where
      go : (q : Dec (x ≡ y)) → elim q [ yes p ↦ t | no n ↦ variable y ] ≡ variable y
      go (yes p) = absurd (off p)
      go (no n) = refl

-- A list of variables without one of them: all others are still in it.
record Fewer {Z : Type 0} (x : Z) (l : List Z) : Type 0 where
  rest : List Z
  shorter : length rest < length l
  keeps : (y : Z) → Memᴰ y l → ¬ (x ≡ y) → Memᴰ y rest

-- A listed variable can be taken out.
fewer : {Z : Type 0} {x : Z} {l : List Z} → Memᴰ x l → Fewer x l
fewer (Memᴰ.head {xs = l} e) = record {
  rest = l;
  shorter = omega arith;
  keeps = λ y m off. ⊎_elim (λ f. absurd (off (e ∙ sym f))) (λ n. n) (Memᴰ.cases_cons m);
}
fewer (Memᴰ.tail {x = z} m) =
    let f = fewer m in
    record {
      rest = z ∷ f.rest;
      shorter = omega (arith, f.shorter);
      keeps = λ y n off. ⊎_elim (λ e. Memᴰ.head e) (λ k. Memᴰ.tail (f.keeps y k off)) (Memᴰ.cases_cons n);
    }

-- Every variable of the term is in the list.
abbrev Among : {Z : Type 0} → List Z → Term Z → Type 0
Among {Z} l t = (y : Z) → Occurs y t → Memᴰ y l

-- The equation x = t over the listed variables; it is not x = x.
record Fits {Z : Type 0} (l : List Z) (x : Z) (t : Term Z) : Type 0 where
  alive : Memᴰ x l
  among : Among l t
  proper : ¬ Self x t

-- Every equation is so.
Over : {Z : Type 0} → List Z → Equations Z → Type 0
Over l clash = Unit {0}
Over l done = Unit {0}
Over l (more x t e) = Fits l x t × Over l e

-- Such an equation may be put in front.
put-within : {Z : Type 0} (l : List Z) (x : Z) (t : Term Z) (e : Equations Z) → Memᴰ x l → Among l t → ¬ Self x t
    → Over l e → Over l (put x t e)
unfolding Over put
put-within l x t clash m a p w = tt
put-within l x t done m a p w = (record { alive = m; among = a; proper = p }, w)
put-within l x t (more y u e) m a p w = (record { alive = m; among = a; proper = p }, w)

module _ {Z : Type 0} (d : Discrete Z) (l : List Z) where
  -- The equations of terms over the listed variables are such.
  equate-within : (s t : Term Z) (e : Equations Z) → Among l s → Among l t → Over l e → Over l (equate d s t e)
  unfolding Occurs Self Over equate
  equate-within (variable x) (variable y) e a b w = go (d x y)
    where
      go : (q : Dec (x ≡ y)) → Over l (elim q [ yes p ↦ e | no n ↦ put x (variable y) e ])
      go (yes p) = w
      go (no n) = put-within l x (variable y) e (a x refl) b n w
  equate-within (variable x) (atom c) e a b w = put-within l x _ e (a x refl) b (λ p. p) w
  equate-within (variable x) (pair t u) e a b w = put-within l x _ e (a x refl) b (λ p. p) w
  equate-within (variable x) (wrapped wr k t) e a b w = put-within l x _ e (a x refl) b (λ p. p) w
  equate-within (atom c) (variable y) e a b w = put-within l y _ e (b y refl) a (λ p. p) w
  equate-within (atom c) (atom b') e a b w = go (ℕ_discrete c b')
    where
      go : (q : Dec (c ≡ b')) → Over l (elim q [ yes p ↦ e | no n ↦ clash ])
      go (yes p) = w
      go (no n) = tt
  equate-within (atom c) (pair t u) e a b w = tt
  equate-within (atom c) (wrapped wr k t) e a b w = tt
  equate-within (pair s r) (variable y) e a b w = put-within l y _ e (b y refl) a (λ p. p) w
  equate-within (pair s r) (atom c) e a b w = tt
  equate-within (pair s r) (pair t u) e a b w =
      equate-within s t (equate d r u e) (λ y o. a y (inl o)) (λ y o. b y (inl o))
      (equate-within r u e (λ y o. a y (inr o)) (λ y o. b y (inr o)) w)
  equate-within (pair s r) (wrapped wr k t) e a b w = tt
  equate-within (wrapped wr k s) (variable y) e a b w = put-within l y _ e (b y refl) a (λ p. p) w
  equate-within (wrapped wr k s) (atom c) e a b w = tt
  equate-within (wrapped wr k s) (pair t u) e a b w = tt
  equate-within (wrapped wr k s) (wrapped wr' l' t) e a b w = go (Wrapping-discrete wr wr') (ℕ_discrete k l') (equate-within s t e a b w)
    where
      go : (o : Dec (wr ≡ wr')) (q : Dec (k ≡ l')) → Over l (equate d s t e)
          → Over l (elim o [ yes p ↦ elim q [ yes p ↦ equate d s t e | no n ↦ clash ] | no n ↦ clash ])
      go (yes o) (yes p) v = v
      go (yes o) (no n) v = tt
      go (no n) q v = tt

module _ {Z : Type 0} (d : Discrete Z) where
  -- With x replaced by a term in which it does not stand, the variables that are left are over fewer.
  single-among : (l : List Z) (x : Z) (t : Term Z) (f : Fewer x l) → Among l t → ¬ Occurs x t → (y : Z) → Memᴰ y l
      → Among f.rest (single d x t y)
  unfolding Occurs single
  single-among l x t f a off y m z = go (d x y)
    where
      go : (q : Dec (x ≡ y)) → Occurs z (elim q [ yes p ↦ t | no n ↦ variable y ]) → Memᴰ z f.rest
      go (yes p) o = f.keeps z (a z o) (λ (e : x ≡ z). off (rw e o))
      go (no n) o = f.keeps z (rw o m) (λ e. n (e ∙ o))

  -- So are the equations.
  without-within : (l : List Z) (x : Z) (t : Term Z) (e : Equations Z) (f : Fewer x l) → Among l t → ¬ Occurs x t → Over l e
      → Over f.rest (without d x t e)
  unfolding Over without
  without-within l x t clash f a off w = tt
  without-within l x t done f a off w = tt
  without-within l x t (more y u e) f a off w =
      let here = single-among l x t f a off in
      equate-within d f.rest (single d x t y) (replace (single d x t) u) (without d x t e) (here y w.0.alive)
      (λ z o. (let c = comes (single d x t) u z o in here c.from (w.0.among c.from c.there) z c.here))
      (without-within l x t e f a off w.1)

  -- Given messages that solve the equations without x, t's message for x solves x = t too.
  back : (x : Z) (t : Term Z) (e : Equations Z) → ¬ Occurs x t → Solvable (without d x t e) → Solvable (more x t e)
  unfolding Solves
  back x t e off s = record {
    by = λ y. replace s.by (single d x t y);
    solves = (
      ap (replace s.by) (single-here d x t ∙ sym (replace-on (single d x t) variable t away ∙ replace-none t))
          ∙ replace-twice s.by (single d x t) t,
      (without-solves d s.by x t e).0 s.solves,
    );
  }
    where
      away : (y : Z) → Occurs y t → single d x t y ≡ variable y
      away y o = single-there d x t y (λ (e : x ≡ y). off (rw e o))

  -- Messages that solve x = t and the others solve the others without x.
  forth : (x : Z) (t : Term Z) (e : Equations Z) → Solvable (more x t e) → Solvable (without d x t e)
  unfolding Solves single replace
  forth x t e s = record {
    by = s.by;
    solves = (without-solves d s.by x t e).1
        (subst (λ (f : Z → Message). Solves f e) (fun_ext (λ y. go y (d x y))) s.solves.1);
  }
    where
      go : (y : Z) (q : Dec (x ≡ y)) → s.by y ≡ replace s.by (elim q [ yes p ↦ t | no n ↦ variable y ])
      go y (yes p) = ap s.by (sym p) ∙ s.solves.0
      go y (no n) = refl

  -- The solving says truly, if n is at least the number of the variables.
  solve-says : (n : ℕ) (e : Equations Z) (l : List Z) → length l ≤ n → Over l e → Says (solve d n e) (Solvable e)
  unfolding Solves Over solve
  solve-says zero clash l small w = λ s. s.solves
  solve-says zero done l small w = record { by = λ z. atom 1000; solves = tt }
  solve-says zero (more x t e) l small w = absurd (omega (arith, (fewer w.0.alive).shorter))
  solve-says (suc n) clash l small w = λ s. s.solves
  solve-says (suc n) done l small w = record { by = λ z. atom 1000; solves = tt }
  solve-says (suc n) (more x t e) l small w = go (occurs? d x t)
      (λ off. (let f = fewer w.0.alive in solve-says n (without d x t e) f.rest (omega (arith, f.shorter))
      (without-within l x t e f w.0.among off w.1)))
    where
      go : (q : Dec (Occurs x t)) → (¬ Occurs x t → Says (solve d n (without d x t e)) (Solvable (without d x t e)))
          → Says (elim q [ yes o ↦ false | no o ↦ solve d n (without d x t e) ]) (Solvable (more x t e))
      go (yes o) below = λ s. no-cycle s.by x t o w.0.proper s.solves.0
      go (no off) below = says_same (solve d n (without d x t e)) (back x t e off) (forth x t e) (below off)

-- They are all of its variables.
names-all : {Z : Type 0} (t : Term Z) → Among (names t) t
unfolding Occurs names
names-all (variable x) y o = Memᴰ.head o
names-all (atom a) y o = absurd o
names-all (pair t u) y o = ⊎_elim (λ i. Memᴰ.append_left (names u) (names-all t y i)) (λ i. Memᴰ.append_right (names t) (names-all u y i)) o
names-all (wrapped w k t) y o = names-all t y o

-- Some messages for the variables make two terms the same.
pub record Unifies {Z : Type 0} (s t : Term Z) : Type 0 where
  pub by : Z → Message
  pub same : replace by s ≡ replace by t

-- Unification says truly whether there are any.
pub unify-says : {Z : Type 0} (d : Discrete Z) (s t : Term Z) → Says (unify d s t) (Unifies s t)
unfolding unify Solves Over
unify-says d s t = let l = names s ++ names t in says_same (unify d s t)
    (λ r. record { by = r.by; same = ((equate-solves d r.by s t done).0 r.solves).0 })
    (λ r. record { by = r.by; solves = (equate-solves d r.by s t done).1 (r.same, tt) })
    (solve-says d (length l) (equate d s t done) l (omega arith)
    (equate-within d l s t done (λ y o. Memᴰ.append_left (names t) (names-all s y o))
    (λ y o. Memᴰ.append_right (names s) (names-all t y o)) tt))
