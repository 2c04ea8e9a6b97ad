-- Laws of open places on the entries: what closing below an encryption, and below each of them, leaves. Assumes nothing.
use mathlib.Core.Path.{◌≡◌, refl, sym, ap, ◌∙◌}
use mathlib.Core.Bool.{Bool}
use mathlib.Core.List.{List, ◌∷◌}
use mathlib.Core.Logic.{inl, inr, ◌↔◌}
use mathlib.Core.Option.{some}
use Prim.Native.Nat.{ℕ, ◌+◌, ◌*◌, ◌<◌}
use native.Mathlib.Omega.{arith}
use native.Mathlib.Decide.{ℕ_discrete}
use lib.ListN.{length, get_or}
use Rattle.blocks.specs.Kinds.{good_kind, bad_kind}
use Rattle.terms.specs.Term.{Term, Variable, encrypted}
use Rattle.terms.specs.Place.{Place, subterm_at, StrictlyAbove}
use Rattle.terms.specs.Entry.{size, term_of, Reads, Begins, entry_at, Placed}
use Rattle.terms.proofs.EntryLaws.{size-positive, term-reads}
use Rattle.terms.specs.Decisions.{Says, says_same}
use Rattle.terms.proofs.PlacedLaws.{placed, within, spotted, subterm-at, placed-begins, strictly-above-entry}
use Rattle.judge.specs.Certificate.{Certificate}
use Rattle.judge.specs.Cover.{NoHat, Open}
use Rattle.judge.specs.Cover as cover
use Rattle.judge.specs.Listed.{listed_of, AnyListed, MatchesEverywhere, SharesListed, NeverHat}
use Rattle.judge.specs.CoverEntries.{sub_at, On, SomeOn, Flags, Narrowed, Lays, NoHatOver, shares_no_good, is_bad, Flagged, OpenBelow, OpenAmong, OpenFlags, ClosedBelow}
use Rattle.judge.proofs.Covering.Flags.{on-small}
use Rattle.judge.proofs.Covering.Marks.{cancels-place}
use Rattle.judge.proofs.Covering.Hats.{encryption-tag}

-- What may stand above every open place, by the answers of the searches.
module _ {c : Certificate} {t : Term Variable} where
  pub by-bad : SharesListed c good_kind t → (b : Bool) → Says b (MatchesEverywhere c bad_kind t) → Says b (NeverHat c t)
  by-bad shares b says = says_same b (λ m. inr m) go says
    where
      go : NeverHat c t → MatchesEverywhere c bad_kind t
      go (inl n) = absurd (n shares)
      go (inr m) = m

-- The subterm u at entry h above entry k: every entry may have it above, or those that a marked bad pattern leaves open.
module _ {c : Certificate} {u : Term Variable} {h k : ℕ} where
  never-over : NeverHat c u → NoHatOver c u h k
  unfolding listed_of
  never-over (inl none) =
      shares_no_good (λ good l s. none (record { term = good; listed = l; holds = s }))
  never-over (inr m) = is_bad m.listed m.holds.1 (inl (λ marked. m.holds.0 (refl, marked)))

  kept-over : AnyListed c bad_kind (Lays c.atoms u h k) → NoHatOver c u h k
  unfolding listed_of
  kept-over a = is_bad a.listed a.holds.0 (inr a.holds.1)

  over-kept : ¬ NeverHat c u → NoHatOver c u h k → AnyListed c bad_kind (Lays c.atoms u h k)
  unfolding listed_of
  over-kept never (shares_no_good none) = absurd (never (inl (λ a. none a.term a.listed a.holds)))
  over-kept never (is_bad {bad} l m (inl off)) = absurd (never (inr (record { term = bad; listed = l; holds = (λ w. off w.1, m) })))
  over-kept never (is_bad {bad} l m (inr mark)) = record { term = bad; listed = l; holds = (m, mark) }

-- Closing below entry h: nothing has to be closed, or what no marked bad pattern leaves open strictly below it.
module _ {c : Certificate} {e : List ℕ} {h : ℕ} where
  pub closed_none : {old : List Bool} → length old ≡ 64 → (get_or e (4 * h) 0 ≡ 3 → NeverHat c (sub_at e h)) → ClosedBelow c old old e h
  closed_none long fine = record { long = long; on = λ k. (λ o. (o, λ tag a b. never-over (fine tag)), λ w. w.0) }

  pub closed-below : {old new kept : List Bool} {end : ℕ} → get_or e (4 * h) 0 ≡ 3 → ¬ NeverHat c (sub_at e h) → end ≡ h + size (sub_at e h)
      → Flags kept (λ k. AnyListed c bad_kind (Lays c.atoms (sub_at e h) h k)) → Narrowed old new (h + 1) end kept → ClosedBelow c old new e h
  closed-below tag never is f n = record {
    long = n.long;
    on = λ k. (
      λ o. (let w = (n.on k).0 o in (w.0, λ t a b. kept-over ((f.on k).0 (w.1 (omega arith) (omega arith))))),
      λ w. (n.on k).1 (w.0, λ l g. (f.on k).1 (over-kept never (w.1 tag (omega arith) (omega arith)))),
    );
  }

-- Entry after entry, among the flagged ones.
pub open_more : {c : Certificate} {e : List ℕ} {h : ℕ} {first old new : List Bool} → OpenAmong c e first h old
    → ClosedBelow c old new e h → OpenAmong c e first (h + 1) new
open_more {c} {e} {h} {first} {old} {new} f s = record { long = s.long; on = λ k. (λ o. to k ((s.on k).0 o), λ w. (s.on k).1 (back k w)) }
  where
    Fine : ℕ → ℕ → Type 0
    Fine k h = get_or e (4 * h) 0 ≡ 3 → h < k → k < h + size (sub_at e h) → NoHatOver c (sub_at e h) h k

    to : (k : ℕ) → On old k × Fine k h → On first k × OpenBelow c e (h + 1) k
    to k w = let o = (f.on k).0 w.0 in (o.0, record { inside = o.1.inside; every = λ j l. go j l (ℕ_discrete j h) })
      where
        go : (j : ℕ) → j < h + 1 → Dec (j ≡ h) → Fine k j
        go j l (yes is) = rw is w.1
        go j l (no n) = ((f.on k).0 w.0).1.every j (omega arith)

    back : (k : ℕ) → On first k × OpenBelow c e (h + 1) k → On old k × Fine k h
    back k w = ((f.on k).1 (w.0, record { inside = w.1.inside; every = λ j l. w.1.every j (omega arith) }), w.1.every h (omega arith))

pub open-all : {c : Certificate} {e : List ℕ} {first flags : List Bool} {h n : ℕ} → OpenAmong c e first h flags → h ≡ n
    → OpenAmong c e first n flags
open-all f is = rw is at f

-- With a flag on, or with none.
pub open-asked : {c : Certificate} {e : List ℕ} {wanted flags : List Bool} → Flagged e wanted → OpenAmong c e wanted (size (term_of e)) flags
    → OpenFlags c e wanted flags
open-asked {c} {e} {wanted} w f = record {
  long = f.long;
  on = λ k. (
    λ o. (let v = (f.on k).0 o in (v.0, record { some_entry = λ z. (let l = w.within k v.0 in omega arith); is_open = v.1 })),
    λ v. (f.on k).1 (v.0, v.1.is_open),
  );
}

pub open-unasked : {c : Certificate} {e : List ℕ} {wanted : List Bool} → Flagged e wanted → ¬ SomeOn wanted 0 64 → OpenFlags c e wanted wanted
open-unasked {c} {e} {wanted} w none = record {
  long = w.long;
  on = λ k. (λ o. absurd (none (record { number = k; above = omega arith; below = on-small wanted w.long k o; on = o })), λ v. v.0);
}

-- What is open lies within.
pub opened-within : {c : Certificate} {e : List ℕ} {wanted opened : List Bool} → Flagged e wanted → OpenFlags c e wanted opened → Flagged e opened
opened-within w f = record { entries = w.entries; long = f.long; within = λ k o. w.within k ((f.on k).0 o).0 }

-- On the places this is document 01's open place of a premise.
no-hat-place : {c : Certificate} {t u s : Term Variable} {h k : ℕ} {q p : Place} → Placed t h q u → Placed t k p s → NoHatOver c u h k ↔ NoHat c u q p
no-hat-place {c} {u = u} {h = h} {k = k} {q = q} {p = p} high low = (to, back)
  where
    to : NoHatOver c u h k → NoHat c u q p
    to (shares_no_good none) = cover.shares_no_good none
    to (is_bad l m over) = cover.is_bad l m ((cancels-place high low).1 over)

    back : NoHat c u q p → NoHatOver c u h k
    back (cover.shares_no_good none) = shares_no_good none
    back (cover.is_bad l m over) = is_bad l m ((cancels-place high low).0 over)

module _ {c : Certificate} {e : List ℕ} (b : Begins e) {k : ℕ} {p : Place} {s : Term Variable} (low : Placed (term_of e) k p s) where
  pub open-place : OpenBelow c e (size (term_of e)) k ↔ Open c (term_of e) p
  open-place = (λ w. record { every = to w }, back)
    where
      reads : Reads e (term_of e ∷ b.others)
      reads = term-reads b refl

      to : OpenBelow c e (size (term_of e)) k → (q : Place) → StrictlyAbove q p → (i : ℕ) (t : Term Variable)
          → subterm_at q (term_of e) ≡ some (encrypted i t) → NoHat c (encrypted i t) q p
      to w q above i t stands =
          let high = placed q (term_of e) stands in
          let h = entry_at q (term_of e) in
          let u : sub_at e h ≡ encrypted i t = subterm-at high reads in
          let range = (strictly-above-entry high low).0 above in
          let tag = (encryption-tag e h (placed-begins high reads)).0 (record { key = i; content = t; is = u }) in
          let size_is : size (sub_at e h) ≡ size (encrypted i t) = ap size u in
          let over : NoHatOver c (encrypted i t) h k = rw u at (w.every h (omega (arith, within high, size-positive (encrypted i t))) tag range.0 (omega (arith, range.1))) in
          (no-hat-place high low).0 over

      back : Open c (term_of e) p → OpenBelow c e (size (term_of e)) k
      back o = record { inside = omega (arith, within low, size-positive s); every = every }
        where
          every : (h : ℕ) → h < size (term_of e) → get_or e (4 * h) 0 ≡ 3 → h < k → k < h + size (sub_at e h) → NoHatOver c (sub_at e h) h k
          every h inside tag a g =
              let w = spotted (term_of e) h inside in
              let u : sub_at e h ≡ w.subterm = subterm-at w.is reads in
              let x = (encryption-tag e h (placed-begins w.is reads)).1 tag in
              let size_is : size (sub_at e h) ≡ size w.subterm = ap size u in
              let stands : subterm_at w.place (term_of e) ≡ some (encrypted x.key x.content) = w.is.stands ∙ ap some (sym u ∙ x.is) in
              let high : Placed (term_of e) h w.place (encrypted x.key x.content) = record { stands = stands; number = w.is.number } in
              rw x.is ((no-hat-place high low).1 (o.every w.place ((strictly-above-entry w.is low).1 (a, omega arith)) x.key x.content stands))
