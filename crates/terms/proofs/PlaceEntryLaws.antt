-- Laws of places: the root is one, one seen from another, in an instance; and on entries: which of them stand at places, and the
-- walk over those.
use mathlib.Core.Path.{◌≡◌, refl, sym, ap, ◌∙◌}
use mathlib.Core.List.{List, [], ◌∷◌, ◌++◌}
use mathlib.Core.Logic.{◌⊎◌, inl, inr, ◌↔◌}
use mathlib.Core.Option.{some}
use Prim.Native.Nat.{ℕ, ◌+◌, ◌*◌, ◌<◌, ◌≤◌}
use native.Mathlib.Omega.{arith}
use native.Mathlib.Decide.{dec_lt, ℕ_discrete}
use lib.ListN.{length}
use borrow.Author.Tests.{eq-eqb, ne_eqb}
use Rattle.terms.specs.Term.{Term, wrapped, hash, Variable, replace}
use Rattle.terms.specs.Place.{Turn, Place, subterm_at, StrictlyAbove, AtOrAbove, IsPlace}
use Rattle.terms.specs.Turns.{nothing-above-root}
use Rattle.terms.specs.Tag.{hash_tag, wrapping_tag}
use Rattle.terms.specs.Entry.{size, term_of, Reads, Begins, entry_at, Placed, from}
use Rattle.terms.specs.TermGraph.{tag_in}
use Rattle.terms.specs.PlaceEntries.{PlaceEntry, next_place}
use Rattle.terms.proofs.PlaceLaws.{subterm_at-append, subterm_at-replace, beginnings, strictly-above-below, strictly-above-under, strictly-above-from}
use Rattle.terms.proofs.PlaceLaws.{OnTheWay, on-the-way, Composite, composite, is_pair, is_wrapped}
use Rattle.terms.proofs.EntryLaws.{term_of-reads, term-reads, reads-wrapped, wrapped-first}
use Rattle.terms.proofs.TermGraphLaws.{tag_in_lem, tag-from}
use Rattle.terms.proofs.SizeLaws.{tag-inside}
use Rattle.terms.proofs.PlacedLaws.{placed, within, spotted, subterm-at, placed-reads, placed-begins, strictly-above-entry, part-within}

-- ---- places of a term

-- The root is a place, and so is what stands below a root that is no hash. Below a hash there is none.
pub place-root : {X : Type 0} {t : Term X} → IsPlace t []
place-root = record { no_hash = λ q above n s stands. nothing-above-root above }

pub place-turn : {X : Type 0} {t : Term X} (a : Turn) → ((n : ℕ) (s : Term X) → t ≡ wrapped hash n s → ⊥) → IsPlace t (a ∷ [])
unfolding subterm_at
place-turn {X} {t} a off = record { no_hash = λ q above n s stands. go q above.turn above.rest above.split n s stands }
  where
    go : (q : Place) (b : Turn) (r : Place) → a ∷ [] ≡ q ++ (b ∷ r) → (n : ℕ) (s : Term X) → subterm_at q t ≡ some (wrapped hash n s) → ⊥
    go [] b r e n s stands = off n s cc
    go (c ∷ q) b r e n s stands = nothing-above-root {q = q} (record { turn = b; rest = r; split = cc })

pub hash-shut : {X : Type 0} {n : ℕ} {t : Term X} (a : Turn) (p : Place) → IsPlace (wrapped hash n t) (a ∷ p) → ⊥
unfolding subterm_at
hash-shut {n = n} {t = t} a p is = is.no_hash [] (record { turn = a; rest = p; split = refl }) n t refl

-- A place below a place is one of the whole, and one of the part.
pub place-append : {X : Type 0} (q : Place) {p : Place} {t u : Term X} → subterm_at q t ≡ some u → IsPlace t q → IsPlace u p → IsPlace t (q ++ p)
place-append {X} q {p} {t} {u} stands above below =
    record { no_hash = λ r x n s hashed. go r x n s hashed (beginnings q r p (x.turn ∷ x.rest) x.split) }
  where
    go : (r : Place) → StrictlyAbove r (q ++ p) → (n : ℕ) (s : Term X) → subterm_at r t ≡ some (wrapped hash n s) → StrictlyAbove r q ⊎ AtOrAbove q r → ⊥
    go r x n s hashed (inl high) = above.no_hash r high n s hashed
    go r x n s hashed (inr low) =
        below.no_hash low.rest (strictly-above-from q (rw low.split at x)) n s
        (sym (subterm_at-append q low.rest t stands) ∙ (rw low.split at hashed))

pub place-below : {X : Type 0} (q : Place) {p : Place} {t u : Term X} → subterm_at q t ≡ some u → IsPlace t (q ++ p) → IsPlace u p
place-below q {t = t} stands is = record {
  no_hash = λ r above n s hashed. is.no_hash (q ++ r) (strictly-above-under q above) n s (subterm_at-append q r t stands ∙ hashed);
}

-- A place of a term is a place of its instance.
pub place-replace : {X Y : Type 0} (by : X → Term Y) {p : Place} {t u : Term X} → subterm_at p t ≡ some u → IsPlace t p → IsPlace (replace by t) p
unfolding replace
place-replace {X} {Y} by {p} {t} {u} stands is = record { no_hash = go }
  where
    go : (q : Place) → StrictlyAbove q p → (n : ℕ) (s : Term Y) → subterm_at q (replace by t) ≡ some (wrapped hash n s) → ⊥
    go q above n s hashed = root (composite above.turn above.rest way.subterm way.onward)
      where
        way : OnTheWay (subterm_at q t) (above.turn ∷ above.rest) u
        way = on-the-way q (above.turn ∷ above.rest) t (rw above.split at stands)

        same : replace by way.subterm ≡ wrapped hash n s
        same = let there = subterm_at-replace by q t way.stands in cc

        root : Composite way.subterm → ⊥
        root (is_pair e) = let f = ap (replace by) e in let g = same in let z : ◌≡◌ {A = ℕ} 0 1 = cc in omega arith
        root (is_wrapped {w = w} {k = k} {u = v} e) =
            let f = ap (replace by) e in
            let g = same in
            let around : w ≡ hash = cc in
            is.no_hash q above k v (way.stands ∙ ap some (rw around at e))

-- And a place of the instance, as far as the term has it, is one of the term.
pub place-instance : {X Y : Type 0} (by : X → Term Y) {q : Place} (r : Place) {t : Term X} → IsPlace (replace by t) (q ++ r) → IsPlace t q
unfolding replace
place-instance by r {t = t} is = record {
  no_hash = λ o above n s hashed. is.no_hash o (strictly-above-below r above) n (replace by s) (subterm_at-replace by o t hashed);
}

-- ---- entries that stand at places

pub first-place : (e : List ℕ) → PlaceEntry e 0
first-place e = record { no_hash = λ h tag low. absurd (omega arith) }

-- An entry stands at a place if and only if it lies below no hash.
module _ {e : List ℕ} (b : Begins e) (whole : 4 * size (term_of e) ≡ length e) where
  reads : Reads e (term_of e ∷ b.others)
  reads = term-reads b refl

  -- A hash at entry h.
  record HashThere (h : ℕ) : Type 0 where
    number : ℕ
    content : Term Variable
    place : Place
    is : Placed (term_of e) h place (wrapped hash number content)
    sized : size (term_of (from (4 * h) e)) ≡ size (wrapped hash number content)

  hash-there : (h : ℕ) → tag_in e h ≡ hash_tag → HashThere h
  unfolding wrapping_tag
  hash-there h tag =
      let inside = tag-inside e h tag in
      let w = spotted (term_of e) h (omega arith) in
      let here = placed-begins w.is reads in
      let f = wrapped-first here hash (sym (tag-from e h) ∙ tag) in
      let root = term_of-reads f.whole in
      let is : w.subterm ≡ wrapped hash _ f.content = sym (subterm-at w.is reads) ∙ root in
      record { number = _; content = f.content; place = w.place; is = rw is at w.is; sized = ap size root }

  module _ {k : ℕ} {p : Place} {s : Term Variable} (low : Placed (term_of e) k p s) where
    pub place-entry : PlaceEntry e k ↔ IsPlace (term_of e) p
    unfolding wrapping_tag
    place-entry = (λ w. record { no_hash = to w }, λ w. record { no_hash = back w })
      where
        to : PlaceEntry e k → (q : Place) → StrictlyAbove q p → (n : ℕ) (t : Term Variable) → subterm_at q (term_of e) ≡ some (wrapped hash n t) → ⊥
        to w q above n t stands =
            let high = placed q (term_of e) stands in
            let range = (strictly-above-entry high low).0 above in
            let tag = tag_in_lem e (entry_at q (term_of e)) ∙ (reads-wrapped (placed-reads high reads).1).0 in
            let sized = ap size (subterm-at high reads) in
            w.no_hash (entry_at q (term_of e)) tag range.0 (omega (arith, range.1, sized))

        back : IsPlace (term_of e) p → (h : ℕ) → tag_in e h ≡ hash_tag → h < k → k < h + size (term_of (from (4 * h) e)) → ⊥
        back w h tag above below =
            let x = hash-there h tag in
            let sized = x.sized in
            w.no_hash x.place ((strictly-above-entry x.is low).1 (above, omega arith)) x.number x.content x.is.stands

  -- Behind a place: what a hash there holds are no places, and the next entry behind that, or behind anything else, is one.
  module _ {k : ℕ} (place : PlaceEntry e k) where
    pub hidden : tag_in e k ≡ hash_tag → (j : ℕ) → k < j → j < k + size (term_of (from (4 * k) e)) → ¬ PlaceEntry e j
    hidden tag j low high is = is.no_hash k tag low high

    behind-hash : tag_in e k ≡ hash_tag → PlaceEntry e (k + size (term_of (from (4 * k) e)))
    behind-hash tag = record { no_hash = λ h hashed above below. go h hashed above below (dec_lt h k) (dec_lt k h) }
      where
        go : (h : ℕ) → tag_in e h ≡ hash_tag → h < k + size (term_of (from (4 * k) e))
            → k + size (term_of (from (4 * k) e)) < h + size (term_of (from (4 * h) e)) → Dec (h < k) → Dec (k < h) → ⊥
        go h hashed above below (yes low) d = place.no_hash h hashed low (omega arith)
        go h hashed above below (no n) (no m) = let same : h ≡ k = omega arith in let far = rw same at below in omega arith
        go h hashed above below (no n) (yes high) =
            let x = hash-there k tag in
            let y = hash-there h hashed in
            let sized = x.sized in
            let other = y.sized in
            omega (arith, part-within x.is y.is (omega arith) (omega arith))

    behind-other : ¬ (tag_in e k ≡ hash_tag) → PlaceEntry e (k + 1)
    behind-other off = record { no_hash = λ h hashed above below. go h hashed above below (dec_lt h k) }
      where
        go : (h : ℕ) → tag_in e h ≡ hash_tag → h < k + 1 → k + 1 < h + size (term_of (from (4 * h) e)) → Dec (h < k) → ⊥
        go h hashed above below (yes low) = place.no_hash h hashed low (omega arith)
        go h hashed above below (no n) = let same : h ≡ k = omega arith in off (rw same at hashed)

  -- So the walk: from a place to the next one, and no place between.
  pub record NextPlace (k n : ℕ) : Type 0 where
    pub place : PlaceEntry e n
    pub further : k < n
    pub within : 4 * n ≤ length e
    pub between : (j : ℕ) → k < j → j < n → ¬ PlaceEntry e j

  pub next_place_lem : {k n : ℕ} → PlaceEntry e k → k < n → 4 * n ≤ length e → n ≡ next_place e k → NextPlace k n
  unfolding next_place
  next_place_lem {k} {n} place further within is = go (ℕ_discrete (tag_in e k) hash_tag)
    where
      go : Dec (tag_in e k ≡ hash_tag) → NextPlace k n
      go (yes tag) =
          let far : n ≡ k + size (term_of (from (4 * k) e)) = rw (eq-eqb (tag_in e k) hash_tag tag) at is in
          record { place = rw far (behind-hash place tag); further = further; within = within; between = λ j low high. hidden place tag j low (omega arith) }
      go (no off) =
          let next : n ≡ k + 1 = rw (ne_eqb (tag_in e k) hash_tag off) at is in
          record { place = rw next (behind-other place off); further = further; within = within; between = λ j low high. absurd (omega arith) }

-- Where the walk goes on, by the tag.
module _ (e : List ℕ) (k : ℕ) where
  pub past-hash : tag_in e k ≡ hash_tag → {n : ℕ} → n ≡ size (term_of (from (4 * k) e)) → k + n ≡ next_place e k
  unfolding next_place
  past-hash tag is = rw (eq-eqb (tag_in e k) hash_tag tag, is) refl

  pub past-other : ¬ (tag_in e k ≡ hash_tag) → k + 1 ≡ next_place e k
  unfolding next_place
  past-other off = rw (ne_eqb (tag_in e k) hash_tag off) refl
