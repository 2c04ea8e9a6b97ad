-- Places and their entries: which entry a place stands at, and what begins there.
use mathlib.Core.Path.{◌≡◌, refl, sym, ap, ◌∙◌}
use mathlib.Core.Bool.{true, false}
use mathlib.Core.List.{List, [], ◌∷◌, ◌++◌, map, nil≢cons}
use mathlib.Core.Logic.{◌↔◌}
use mathlib.Core.Option.{some, none-ne-some}
use Prim.Native.Nat.{ℕ, zero, suc, ◌+◌, ◌*◌, ◌-◌, ◌<◌, ◌≤◌}
use native.Mathlib.Omega.{arith}
use native.Mathlib.Decide.{dec_lt}
use lib.Dec.{ltb}
use lib.ListN.{length, get_or, get_elem?, drop, length-append, length-map}
use lib.Seq.{drop-drop}
use borrow.Author.Tests.{lt-ltb, le-ltb}
use borrow.Author.Rules.{part_to_end}
use Rattle.terms.specs.Term.{Term, variable, atom, pair, Variable, wrapped}
use Rattle.terms.specs.Place.{Turn, left, right, inside, Place, subterm_at, StrictlyAbove, AtOrAbove, Spot, down, spots}
use Rattle.terms.specs.Entry.{size, term_of, Reads, Begins, entry_at, Placed, from}
use Rattle.terms.specs.Turns.{by-turns}
use Rattle.terms.proofs.PlaceLaws.{subterm_at-append}
use Rattle.terms.proofs.EntryLaws.{term_of-reads, reads-pair, reads-wrapped, past, size-positive, begins}

-- Every place has its entry.
pub placed : {X : Type 0} (p : Place) (t : Term X) {s : Term X} → subterm_at p t ≡ some s → Placed t (entry_at p t) p s
placed p t e = record { stands = e; number = refl }

-- The subterm's entries are among the term's.
entry-within : {X : Type 0} (p : Place) (t : Term X) {s : Term X} → subterm_at p t ≡ some s → entry_at p t + size s ≤ size t
unfolding entry_at size
entry-within {X} p t e =
    by-turns (λ (p : Place) (t s : Term X). entry_at p t + size s ≤ size t)
    (λ t. omega arith) (λ p t u s h. omega arith) (λ p t u s h. omega arith) (λ p w k t s h. omega arith) p t e

pub within : {X : Type 0} {t s : Term X} {k : ℕ} {p : Place} → Placed t k p s → k + size s ≤ size t
within {t = t} {p = p} w = let n = w.number in omega (arith, entry-within p t w.stands)

-- A place seen from a place above it.
entry-append : {X : Type 0} (q r : Place) (t : Term X) {u : Term X} → subterm_at q t ≡ some u → entry_at (q ++ r) t ≡ entry_at q t + entry_at r u
unfolding entry_at size
entry-append {X} q r t e =
    by-turns (λ (q : Place) (t u : Term X). entry_at (q ++ r) t ≡ entry_at q t + entry_at r u)
    (λ t. omega arith) (λ p t u s h. omega arith) (λ p t u s h. omega arith) (λ p w k t s h. omega arith) q t e

pub placed_below : {X : Type 0} {t u s : Term X} {h j : ℕ} {q r : Place} → Placed t h q u → Placed u j r s → Placed t (h + j) (q ++ r) s
placed_below {t = t} {q = q} {r = r} a b = record {
  stands = subterm_at-append q r t a.stands ∙ b.stands;
  number = let n = a.number in let m = b.number in omega (arith, entry-append q r t a.stands);
}

-- The place of an entry.
place_of : {X : Type 0} → Term X → ℕ → Place
place_of (variable x) k = []
place_of (atom a) k = []
place_of (pair t u) zero = []
place_of (pair t u) (suc k) = elim (ltb k (size t)) [ true ↦ left ∷ place_of t k | false ↦ right ∷ place_of u (k - size t) ]
place_of (wrapped w n t) zero = []
place_of (wrapped w n t) (suc k) = inside ∷ place_of t k

place-of-root : {X : Type 0} (t : Term X) → place_of t 0 ≡ []
unfolding place_of
place-of-root (variable x) = refl
place-of-root (atom a) = refl
place-of-root (pair t u) = refl
place-of-root (wrapped w n t) = refl

-- (By the answer whether the entry lies in the left half.)
place-left : {X : Type 0} (t u : Term X) (k : ℕ) → k < size t → place_of (pair t u) (suc k) ≡ left ∷ place_of t k
unfolding place_of
place-left t u k h = rw (lt-ltb k (size t) h, place_of) refl

place-right : {X : Type 0} (t u : Term X) (k : ℕ) → place_of (pair t u) (suc (size t + k)) ≡ right ∷ place_of u k
unfolding place_of
place-right t u k = let back : size t + k - size t ≡ k = omega arith in rw (le-ltb (size t + k) (size t) (omega arith), place_of, back) refl

place-of-entry : {X : Type 0} (p : Place) (t : Term X) {s : Term X} → subterm_at p t ≡ some s → (entry_at p t < size t) × (place_of t (entry_at p t) ≡ p)
unfolding place_of entry_at size
place-of-entry {X} p t e =
    by-turns (λ (p : Place) (t s : Term X). (entry_at p t < size t) × (place_of t (entry_at p t) ≡ p))
    (λ t. (size-positive t, place-of-root t))
    (λ p t u s h. (omega arith, place-left t u (entry_at p t) h.0 ∙ ap (λ (r : Place). left ∷ r) h.1))
    (λ p t u s h. (omega arith, place-right t u (entry_at p u) ∙ ap (λ (r : Place). right ∷ r) h.1))
    (λ p w k t s h. (omega arith, ap (λ (r : Place). inside ∷ r) h.1)) p t e

-- It is one of the term's entries.
pub placed-within : {X : Type 0} {t s : Term X} {k : ℕ} {p : Place} → Placed t k p s → k < size t
placed-within {t = t} {p = p} w = let n = w.number in omega (arith, (place-of-entry p t w.stands).0)

-- An entry stands at one place only.
pub one_place : {X : Type 0} {t s u : Term X} {k : ℕ} {p q : Place} → Placed t k p s → Placed t k q u → p ≡ q
one_place {t = t} {p = p} {q = q} a b =
    let n = a.number in let m = b.number in cc ((place-of-entry p t a.stands).1, (place-of-entry q t b.stands).1)

pub one-subterm : {X : Type 0} {t s u : Term X} {k : ℕ} {p q : Place} → Placed t k p s → Placed t k q u → s ≡ u
one-subterm a b = let same = one_place a b in let x = a.stands in let y = b.stands in cc

-- Every entry stands at a place.
pub record Spotted {X : Type 0} (t : Term X) (k : ℕ) : Type 0 where
  pub place : Place
  pub subterm : Term X
  pub is : Placed t k place subterm

spotted-root : {X : Type 0} (t : Term X) → Spotted t 0
unfolding subterm_at entry_at
spotted-root t = record { place = []; subterm = t; is = record { stands = refl; number = refl } }

pub spotted : {X : Type 0} (t : Term X) (k : ℕ) → k < size t → Spotted t k
unfolding subterm_at entry_at size
spotted (variable x) k h = let root : k ≡ 0 = omega arith in rw root (spotted-root (variable x))
spotted (atom a) k h = let root : k ≡ 0 = omega arith in rw root (spotted-root (atom a))
spotted (pair t u) zero h = spotted-root (pair t u)
spotted (pair t u) (suc k) h = go (dec_lt k (size t)) (λ l. spotted t k l) (λ l. spotted u (k - size t) l)
  where
    go : Dec (k < size t) → (k < size t → Spotted t k) → (k - size t < size u → Spotted u (k - size t)) → Spotted (pair t u) (suc k)
    go (yes l) here there = let w = here l in record {
      place = left ∷ w.place;
      subterm = w.subterm;
      is = record { stands = w.is.stands; number = ap suc w.is.number };
    }
    go (no n) here there = let w = there (omega arith) in record {
      place = right ∷ w.place;
      subterm = w.subterm;
      is = record { stands = w.is.stands; number = let m = w.is.number in omega arith };
    }
spotted (wrapped w n t) zero h = spotted-root (wrapped w n t)
spotted (wrapped wr n t) (suc k) h = let w = spotted t k (omega arith) in record {
  place = inside ∷ w.place;
  subterm = w.subterm;
  is = record { stands = w.is.stands; number = ap suc w.is.number };
}

-- The subterm at entry k is what the entries from k on begin with.
entry-reads : (p : Place) (t : Term Variable) {s : Term Variable} → subterm_at p t ≡ some s → (e : List ℕ) (l : List (Term Variable)) → Reads e (t ∷ l)
    → (m : List (Term Variable)) × Reads (drop (4 * entry_at p t) e) (s ∷ m)
unfolding entry_at size
entry-reads =
    by-turns (λ (p : Place) (t s : Term Variable). (e : List ℕ) (l : List (Term Variable)) → Reads e (t ∷ l)
    → (m : List (Term Variable)) × Reads (drop (4 * entry_at p t) e) (s ∷ m))
    (λ t e l r. (l, r))
    (λ p t u s h e l r. further e 4 (entry_at p t) (suc (entry_at p t)) (omega arith) (h _ _ (reads-pair r).2))
    (λ p t u s h e l r. further e 4 (size t + entry_at p u) (suc (size t + entry_at p u)) (omega arith)
    (further (drop 4 e) (4 * size t) (entry_at p u) (size t + entry_at p u) (omega arith) (h _ _ (past t (reads-pair r).2))))
    (λ p w k t s h e l r. further e 4 (entry_at p t) (suc (entry_at p t)) (omega arith) (h _ _ (reads-wrapped r).2))
  where
    further : (e : List ℕ) (n k i : ℕ) → n + 4 * k ≡ 4 * i → {s : Term Variable} → (m : List (Term Variable)) × Reads (drop (4 * k) (drop n e)) (s ∷ m)
        → (m : List (Term Variable)) × Reads (drop (4 * i) e) (s ∷ m)
    further e n k i is w = (w.0, rw (drop-drop, is) at w.1)

pub placed-reads : {t s : Term Variable} {k : ℕ} {p : Place} {e : List ℕ} {l : List (Term Variable)} → Placed t k p s → Reads e (t ∷ l)
    → (m : List (Term Variable)) × Reads (drop (4 * k) e) (s ∷ m)
placed-reads {t} {p = p} {e} {l} w r = rw w.number at (entry-reads p t w.stands e l r)

-- The same, of a part `&e[4 * k..]`.
pub placed-begins : {t s : Term Variable} {k : ℕ} {p : Place} {e : List ℕ} {l : List (Term Variable)} → Placed t k p s → Reads e (t ∷ l)
    → Begins (from (4 * k) e)
placed-begins w r = rw part_to_end (begins (placed-reads w r).1)

pub subterm-at : {t s : Term Variable} {k : ℕ} {p : Place} {e : List ℕ} {l : List (Term Variable)} → Placed t k p s → Reads e (t ∷ l)
    → term_of (from (4 * k) e) ≡ s
subterm-at w r = rw part_to_end (term_of-reads (placed-reads w r).1)

-- The part of a part ends within it.
pub part-within : {X : Type 0} {t s u : Term X} {k h : ℕ} {p q : Place} → Placed t k p s → Placed t h q u → k ≤ h → h < k + size s → h + size u ≤ k + size s
part-within {s = s} {u = u} {k = k} {h = h} high low above below =
    let w = spotted s (h - k) (omega arith) in
    let there : k + (h - k) ≡ h = omega arith in
    let same : u ≡ w.subterm = one-subterm low (rw there at (placed_below high w.is)) in
    let sized : size u ≡ size w.subterm = ap size same in
    omega (arith, within w.is)

-- Below the root the entries are others.
below_root : {X : Type 0} (a : Turn) (r : Place) (t : Term X) {s : Term X} → subterm_at (a ∷ r) t ≡ some s → 0 < entry_at (a ∷ r) t
unfolding entry_at
below_root {X} a r t e =
    by-turns (λ (p : Place) (t s : Term X). p ≡ a ∷ r → 0 < entry_at p t)
    (λ t n. absurd (nil≢cons n)) (λ p t u s h n. omega arith) (λ p t u s h n. omega arith) (λ p w k t s h n. omega arith) (a ∷ r) t e refl

-- Entry h stands at or above entry k if and only if k is an entry of the subterm at h.
module _ {X : Type 0} {t u s : Term X} {h k : ℕ} {q p : Place} (high : Placed t h q u) (low : Placed t k p s) where
  -- The place, seen from the one above.
  from-above : (r : Place) → p ≡ q ++ r → (subterm_at r u ≡ some s) × (k ≡ h + entry_at r u)
  from-above r e =
      let n = high.number in let m = low.number in let x = low.stands in (
        sym (subterm_at-append q r t high.stands) ∙ ap (λ (o : Place). subterm_at o t) (sym e) ∙ x,
        sym m ∙ ap (λ (o : Place). entry_at o t) e ∙ entry-append q r t high.stands ∙ ap (λ (i : ℕ). i + entry_at r u) n,
      )

  pub at-or-above-entry : AtOrAbove q p ↔ ((h ≤ k) × (k < h + size u))
  at-or-above-entry = (to, back)
    where
      to : AtOrAbove q p → (h ≤ k) × (k < h + size u)
      to x = let w = from-above x.rest x.split in let b = (place-of-entry x.rest u w.0).0 in (omega arith, omega arith)

      back : (h ≤ k) × (k < h + size u) → AtOrAbove q p
      back b =
          let w = spotted u (k - h) (omega arith) in
          let there : h + (k - h) ≡ k = omega arith in
          record { rest = w.place; split = one_place low (rw there at (placed_below high w.is)) }

  -- Strictly above: another entry of it.
  pub strictly-above-entry : StrictlyAbove q p ↔ ((h < k) × (k < h + size u))
  unfolding entry_at
  strictly-above-entry = (to, back)
    where
      to : StrictlyAbove q p → (h < k) × (k < h + size u)
      to x =
          let w = from-above (x.turn ∷ x.rest) x.split in
          let b = (place-of-entry (x.turn ∷ x.rest) u w.0).0 in
          let c = below_root x.turn x.rest u w.0 in (omega arith, omega arith)

      strict : (r : Place) → p ≡ q ++ r → h < k → StrictlyAbove q p
      strict [] e l = let w = (from-above [] e).1 in absurd (omega arith)
      strict (a ∷ r) e l = record { turn = a; rest = r; split = e }

      back : (h < k) × (k < h + size u) → StrictlyAbove q p
      back b = let x = at-or-above-entry.1 (omega arith, b.1) in strict x.rest x.split b.0

-- The places of a term in the order of its entries: the k-th of them is that of entry k, and there are as many.
element-left : {A : Type 0} (l m : List A) (k : ℕ) {a : A} → get_elem? l k ≡ some a → get_elem? (l ++ m) k ≡ some a
element-left [] m k {a} e = absurd (none-ne-some a e)
element-left (x ∷ l) m zero e = e
element-left (x ∷ l) m (suc k) e = element-left l m k e

element-right : {A : Type 0} (l m : List A) (k : ℕ) → get_elem? (l ++ m) (length l + k) ≡ get_elem? m k
element-right [] m k = let is : 0 + k ≡ k = omega arith in rw is refl
element-right (x ∷ l) m k = let is : suc (length l) + k ≡ suc (length l + k) = omega arith in rw is (element-right l m k)

element-map : {A B : Type 0} (f : A → B) (l : List A) (k : ℕ) {a : A} → get_elem? l k ≡ some a → get_elem? (map f l) k ≡ some (f a)
element-map f [] k {a} e = absurd (none-ne-some a e)
element-map f (x ∷ l) zero e = let same = e in cc
element-map f (x ∷ l) (suc k) e = element-map f l k e

pub spots-length : {X : Type 0} (t : Term X) → length (spots t) ≡ size t
unfolding spots size
spots-length (variable x) = refl
spots-length (atom a) = refl
spots-length (pair t u) =
    omega (
      arith,
      length-append (map (down left) (spots t)) (map (down right) (spots u)),
      length-map (spots t) (down left),
      length-map (spots u) (down right),
      spots-length t,
      spots-length u,
    )
spots-length (wrapped w k t) = omega (arith, length-map (spots t) (down inside), spots-length t)

root-spot : {X : Type 0} (t : Term X) → get_elem? (spots t) 0 ≡ some ([], t)
unfolding spots
root-spot (variable x) = refl
root-spot (atom a) = refl
root-spot (pair t u) = refl
root-spot (wrapped w k t) = refl

entry-spot : {X : Type 0} (p : Place) (t : Term X) {s : Term X} → subterm_at p t ≡ some s → get_elem? (spots t) (entry_at p t) ≡ some (p, s)
unfolding spots entry_at
entry-spot {X} =
    by-turns (λ (p : Place) (t s : Term X). get_elem? (spots t) (entry_at p t) ≡ some (p, s)) root-spot
    (λ p t u s h. element-left (map (down left) (spots t)) (map (down right) (spots u)) (entry_at p t) (element-map (down left) (spots t) (entry_at p t) h))
    (λ p t u s h. let here : length (map (down left) (spots t)) ≡ size t = length-map (spots t) (down left) ∙ spots-length t in
    rw (← here) (element-right (map (down left) (spots t)) (map (down right) (spots u)) (entry_at p u) ∙ element-map (down right) (spots u) (entry_at p u) h))
    (λ p w k t s h. element-map (down inside) (spots t) (entry_at p t) h)

element-is : {A : Type 0} (l : List A) (k : ℕ) {a : A} (d : A) → get_elem? l k ≡ some a → get_or l k d ≡ a
element-is [] k {a} d e = absurd (none-ne-some a e)
element-is (x ∷ l) zero d e = let same = e in cc
element-is (x ∷ l) (suc k) d e = element-is l k d e

pub spot-placed : {X : Type 0} (t : Term X) (k : ℕ) (d : Spot X) → k < size t → Placed t k (get_or (spots t) k d).0 (get_or (spots t) k d).1
spot-placed {X} t k d h =
    let w = spotted t k h in
    let here : Spot X = (w.place, w.subterm) in
    let element : get_elem? (spots t) k ≡ some here = rw w.is.number at (entry-spot w.place t w.is.stands) in
    let is : get_or (spots t) k d ≡ here = element-is (spots t) k d element in
    rw is w.is
