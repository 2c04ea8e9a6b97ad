-- Laws of marks: what a pattern laid on a term covers, by the pattern's symbol, and the same by places, with what a bad pattern
-- cancels. Assumes nothing.
use mathlib.Core.Path.{◌≡◌, refl, sym, ap, ◌∙◌}
use mathlib.Core.Bool.{Bool, true}
use mathlib.Core.List.{List, [], ◌∷◌, ◌++◌, append_assoc}
use mathlib.Core.Logic.{◌⊎◌, inl, inr, ◌↔◌}
use mathlib.Core.Option.{some, none-ne-some}
use Prim.Native.Nat.{ℕ, ◌+◌, ◌*◌, ◌<◌, ◌≤◌}
use native.Mathlib.Omega.{arith}
use borrow.Author.Rules.{part_to_end}
use lib.ListN.{length, drop, length-drop}
use Rattle.terms.specs.Term.{Term, Variable, variable, atom, pair, encrypted, wrapped, Wrapping, encryption, Range, sort, plain, named, replace}
use Rattle.terms.specs.Tag.{pair_tag, WrapperTag, MarkedTag, wrapping-symbol}
use Rattle.terms.proofs.TagLaws.{marked-sort, plain-sort, marked-variable}
use Rattle.terms.specs.Place.{Turn, Place, left, right, inside, subterm_at, AtOrAbove}
use Rattle.terms.specs.Seek.{Becomes}
use Rattle.terms.specs.Entry.{size, term_of, tag_at, value_at, Reads, Begins, from, entry_at, Placed}
use Rattle.terms.specs.Reading.{First, first_atom, first_pair, first_wrapped, first_variable, first}
use Rattle.terms.proofs.EntryLaws.{term_of-reads, term-reads, begins, fits, PairFirst, pair-first, right-begins, WrappedFirst, wrapped-first, from-length}
use Rattle.terms.specs.OneTerm.{IsEncryption}
use Rattle.terms.specs.TermGraph.{right_in}
use Rattle.terms.proofs.TermGraphLaws.{pair-in, wrapped-in}
use Rattle.terms.proofs.PlaceLaws.{append-cancel, subterm_at-append, on-the-way}
use Rattle.terms.proofs.PlacedLaws.{placed, within, placed_below, one_place, at-or-above-entry}
use Rattle.judge.specs.Hat.{mark_named, Mark, Cancels, everywhere, at_mark}
use Rattle.judge.specs.Cover.{MarkBelow, MayCancel, cancels, below_place}
use Rattle.judge.specs.CoverEntries.{sub_at, Painted, Raised, MarkOver, MarkUnder, CancelsOver, MayCancelOver, Laying}
use Rattle.judge.proofs.Covering.Flags.{painted-raised, raised-none, raised-as, raised-twice}

-- What stands at a place is a marked variable: not at the root of another term.
module _ {h k : ℕ} where
  pub mark-marked : (x : Range × ℕ) (u : Term Variable) → MarkOver (variable (mark_named x)) u h k ↔ ((h ≤ k) × (k < h + size u))
  unfolding subterm_at entry_at
  mark-marked x u = (
    λ m. to m.place m.stands m.under m.low m.high,
    λ w. record {
      name = x;
      place = [];
      subterm = u;
      stands = refl;
      under = refl;
      low = omega (arith, w.0);
      high = omega (arith, w.1);
    },
  )
    where
      to : (p : Place) {n : Range × ℕ} {s : Term Variable} → subterm_at p (variable (mark_named x)) ≡ some (variable (mark_named n)) → subterm_at p u ≡ some s
          → h + entry_at p u ≤ k → k < h + entry_at p u + size s → (h ≤ k) × (k < h + size u)
      to [] {n} {s} e f l g = let same : s ≡ u = cc in let is : size s ≡ size u = ap size same in (omega arith, omega arith)
      to (left ∷ p) e f l g = absurd (none-ne-some _ e)
      to (right ∷ p) e f l g = absurd (none-ne-some _ e)
      to (inside ∷ p) e f l g = absurd (none-ne-some _ e)

  pub mark-plain : (r : Range) (x : ℕ) (u : Term Variable) → ¬ MarkOver (variable (named (sort plain r) x)) u h k
  unfolding subterm_at
  mark-plain r x u m = go m.place m.stands
    where
      go : (p : Place) → subterm_at p (variable (named (sort plain r) x)) ≡ some (variable (mark_named m.name)) → ⊥
      go [] e = let z : ◌≡◌ {A = ℕ} 0 1 = cc in omega arith
      go (left ∷ p) e = none-ne-some _ e
      go (right ∷ p) e = none-ne-some _ e
      go (inside ∷ p) e = none-ne-some _ e

  pub mark-atom : (a : ℕ) (u : Term Variable) → ¬ MarkOver (atom a) u h k
  unfolding subterm_at
  mark-atom a u m = go m.place m.stands
    where
      go : (p : Place) → subterm_at p (atom a) ≡ some (variable (mark_named m.name)) → ⊥
      go [] e = let z : ◌≡◌ {A = ℕ} 0 1 = cc in omega arith
      go (left ∷ p) e = none-ne-some _ e
      go (right ∷ p) e = none-ne-some _ e
      go (inside ∷ p) e = none-ne-some _ e

  -- A mark one turn further down.
  turned : (a : Turn) {at : ℕ} {good u below over : Term Variable} → ((p : Place) → subterm_at (a ∷ p) good ≡ subterm_at p below)
      → ((p : Place) → subterm_at (a ∷ p) u ≡ subterm_at p over) → ((p : Place) → at + entry_at p over ≡ h + entry_at (a ∷ p) u)
      → MarkOver below over at k → MarkOver good u h k
  turned a {at} {good} {u} {below} {over} stands under number m = record {
    name = m.name;
    place = a ∷ m.place;
    subterm = m.subterm;
    stands = stands m.place ∙ m.stands;
    under = under m.place ∙ m.under;
    low = omega (arith, m.low, number m.place);
    high = omega (arith, m.high, number m.place);
  }

  pub mark-wrapped : (v w : Wrapping) (i j : ℕ) (a c : Term Variable) → MarkOver (wrapped v i a) (wrapped w j c) h k ↔ MarkOver a c (h + 1) k
  unfolding subterm_at entry_at
  mark-wrapped v w i j a c = (
    λ m. to m.place m.stands m.under m.low m.high,
    turned inside (λ p. refl) (λ p. refl) (λ p. omega arith),
  )
    where
      to : (p : Place) {n : Range × ℕ} {s : Term Variable} → subterm_at p (wrapped v i a) ≡ some (variable (mark_named n)) → subterm_at p (wrapped w j c) ≡ some s
          → h + entry_at p (wrapped w j c) ≤ k → k < h + entry_at p (wrapped w j c) + size s → MarkOver a c (h + 1) k
      to [] e f l g = let z : ◌≡◌ {A = ℕ} 0 1 = cc in absurd (omega arith)
      to (left ∷ p) e f l g = absurd (none-ne-some _ e)
      to (right ∷ p) e f l g = absurd (none-ne-some _ e)
      to (inside ∷ p) e f l g = record { name = _; place = p; subterm = _; stands = e; under = f; low = omega arith; high = omega arith }

  pub mark-pair : (a b c d : Term Variable) → MarkOver (pair a b) (pair c d) h k ↔ (MarkOver a c (h + 1) k ⊎ MarkOver b d (h + 1 + size c) k)
  unfolding subterm_at entry_at
  mark-pair a b c d = (λ m. to m.place m.stands m.under m.low m.high, back)
    where
      to : (p : Place) {n : Range × ℕ} {s : Term Variable} → subterm_at p (pair a b) ≡ some (variable (mark_named n)) → subterm_at p (pair c d) ≡ some s
          → h + entry_at p (pair c d) ≤ k → k < h + entry_at p (pair c d) + size s → MarkOver a c (h + 1) k ⊎ MarkOver b d (h + 1 + size c) k
      to [] e f l g = let z : ◌≡◌ {A = ℕ} 0 1 = cc in absurd (omega arith)
      to (inside ∷ p) e f l g = absurd (none-ne-some _ e)
      to (left ∷ p) e f l g = inl (record { name = _; place = p; subterm = _; stands = e; under = f; low = omega arith; high = omega arith })
      to (right ∷ p) e f l g = inr (record { name = _; place = p; subterm = _; stands = e; under = f; low = omega arith; high = omega arith })

      back : MarkOver a c (h + 1) k ⊎ MarkOver b d (h + 1 + size c) k → MarkOver (pair a b) (pair c d) h k
      back (inl m) = turned left (λ p. refl) (λ p. refl) (λ p. omega arith) m
      back (inr m) = turned right (λ p. refl) (λ p. refl) (λ p. omega arith) m

-- On the entries this is document 01's mark at or above the place.
module _ {t u s : Term Variable} {h k : ℕ} {q p : Place} (high : Placed t h q u) (low : Placed t k p s) where
  pub mark-place : {pattern : Term Variable} → Mark pattern q p ↔ MarkOver pattern u h k
  mark-place {pattern} = (to, back)
    where
      to : Mark pattern q p → MarkOver pattern u h k
      to m =
          let way = on-the-way (q ++ m.place) m.above.rest t (rw m.above.split at low.stands) in
          let under : subterm_at m.place u ≡ some way.subterm = sym (subterm_at-append q m.place t high.stands) ∙ way.stands in
          let b = (at-or-above-entry (placed_below high (placed m.place u under)) low).0 m.above in
          record { name = m.name; place = m.place; subterm = way.subterm; stands = m.stands; under = under; low = b.0; high = b.1 }

      back : MarkOver pattern u h k → Mark pattern q p
      back m = record {
        name = m.name;
        place = m.place;
        stands = m.stands;
        above = (at-or-above-entry (placed_below high (placed m.place u m.under)) low).1 (m.low, m.high);
      }

  -- And a mark at or below the place, which lies at or below place q.
  mark-below-place : {pattern : Term Variable} → AtOrAbove q p → MarkBelow pattern q p ↔ MarkUnder pattern u h k
  mark-below-place {pattern} above = (to, back)
    where
      to : MarkBelow pattern q p → MarkUnder pattern u h k
      to m =
          let down = above.rest in
          let further : q ++ m.place ≡ q ++ (down ++ m.below.rest) =
          m.below.split ∙ ap (λ (x : Place). x ++ m.below.rest) above.split ∙ append_assoc q down m.below.rest in
          let under : subterm_at down u ≡ some s = sym (subterm_at-append q down t high.stands) ∙ ap (λ (x : Place). subterm_at x t) (sym above.split) ∙ low.stands in
          let there = placed_below high (placed down u under) in
          record {
            name = m.name;
            place = down;
            rest = m.below.rest;
            subterm = s;
            stands = ap (λ (x : Place). subterm_at x pattern) (sym (append-cancel q further)) ∙ m.stands;
            under = under;
            entry = sym there.number ∙ ap (λ (x : Place). entry_at x t) (sym above.split) ∙ low.number;
          }

      back : MarkUnder pattern u h k → MarkBelow pattern q p
      back m =
          let there : Placed t k (q ++ m.place) m.subterm = rw m.entry at (placed_below high (placed m.place u m.under)) in
          let same : q ++ m.place ≡ p = one_place there low in
          record {
            name = m.name;
            place = m.place ++ m.rest;
            stands = m.stands;
            below = record { rest = m.rest; split = sym (append_assoc q m.place m.rest) ∙ ap (λ (x : Place). x ++ m.rest) same };
          }

  -- So is what a bad pattern cancels, and may cancel.
  pub cancels-place : {bad : Term Variable} → Cancels bad q p ↔ CancelsOver bad u h k
  cancels-place {bad} = (to, back)
    where
      to : Cancels bad q p → CancelsOver bad u h k
      to (everywhere off) = inl off
      to (at_mark m) = inr (mark-place.0 m)

      back : CancelsOver bad u h k → Cancels bad q p
      back (inl off) = everywhere off
      back (inr m) = at_mark (mark-place.1 m)

  pub may-cancel-place : {bad : Term Variable} → AtOrAbove q p → MayCancel bad q p ↔ MayCancelOver bad u h k
  may-cancel-place {bad} above = (to, back)
    where
      to : MayCancel bad q p → MayCancelOver bad u h k
      to (cancels (everywhere off)) = inl off
      to (cancels (at_mark m)) = inr (inl (mark-place.0 m))
      to (below_place m) = inr (inr ((mark-below-place above).0 m))

      back : MayCancelOver bad u h k → MayCancel bad q p
      back (inl off) = cancels (everywhere off)
      back (inr (inl m)) = cancels (at_mark (mark-place.1 m))
      back (inr (inr m)) = below_place ((mark-below-place above).1 m)

-- What an encryption's marks cover lies strictly below it.
pub mark-inside : {good u : Term Variable} {h k : ℕ} → IsEncryption good → Becomes good u → MarkOver good u h k → (h < k) × (k < h + size u)
unfolding replace size
mark-inside {good} {u} {h} {k} is match m =
    let content = replace match.by is.content in
    let term : u ≡ encrypted is.key content = sym match.same ∙ ap (replace match.by) is.is in
    let inner = (mark-wrapped {h = h} {k = k} encryption encryption is.key is.key is.content content).0 (rw (is.is, term) at m) in
    let room = within (placed inner.place content inner.under) in
    let l = inner.low in let g = inner.high in let whole : size u ≡ 1 + size content = ap size term in
    (omega arith, omega arith)

pub from-reads : (e : List ℕ) (n : ℕ) {l : List (Term Variable)} → Reads (drop n e) l → Reads (from n e) l
from-reads e n r = rw part_to_end r

-- The steps of the walk that lays a pattern on the term at entry h.
module _ {p e : List ℕ} {h : ℕ} (l : Laying p e h) where
  here : {t : Term Variable} → sub_at e h ≡ t → Reads (drop (4 * h) e) (t ∷ l.term.others)
  here is = rw part_to_end at (term-reads l.term is)

  -- The term's entries are within.
  pub laid_end : {r : ℕ} → r ≡ size (sub_at e h) → 4 * (h + r) ≤ length e
  laid_end {r} is =
      let room = fits (sub_at e h) (here refl) in
      let start = l.inside in omega (arith, length-drop (4 * h) e)

  -- The next part, with the pattern's part on it.
  next : {a c : Term Variable} {m n : List (Term Variable)} {q : List ℕ} {k : ℕ} → Reads q (a ∷ m) → Reads (drop (4 * k) e) (c ∷ n) → Becomes a c → Laying q e k
  next {a} {c} {q = q} {k} pattern term match =
      let is : term_of q ≡ a = term_of-reads pattern in
      let there : sub_at e k ≡ c = term_of-reads (from-reads e (4 * k) term) in
      let b = begins (from-reads e (4 * k) term) in
      record {
        pattern = begins pattern;
        term = b;
        match = rw (is, there) match;
        inside = let room = b.room in omega (arith, from-length (4 * k) e);
        short = l.short;
      }

  -- A pair on both sides.
  pub record PairLaid : Type 0 where
    pub first : PairFirst p
    pub c : Term Variable
    pub d : Term Variable
    pub more : List (Term Variable)
    pub term : sub_at e h ≡ pair c d
    pub left-term : Reads (drop (4 * (h + 1)) e) (c ∷ d ∷ more)
    pub right-term : Reads (drop (4 * right_in e h) e) (d ∷ more)
    pub left-match : Becomes first.left c
    pub right-match : Becomes first.right d

  pub pair-laid : tag_at p ≡ pair_tag → PairLaid
  unfolding replace
  pair-laid tag =
      let f = pair-first l.pattern tag in
      let is : term_of p ≡ pair f.left f.right = term_of-reads f.whole in
      let by = l.match.by in
      let term : sub_at e h ≡ pair (replace by f.left) (replace by f.right) = sym l.match.same ∙ ap (replace by) is in
      let i = pair-in e h (here term) in
      record {
        first = f;
        c = replace by f.left;
        d = replace by f.right;
        more = l.term.others;
        term = term;
        left-term = i.left;
        right-term = i.right;
        left-match = record { by = by; same = refl };
        right-match = record { by = by; same = refl };
      }

  module _ (w : PairLaid) where
    pub left-pattern : Begins (from 4 p)
    left-pattern = begins w.first.below

    pub left-begins : Begins (from (4 * (h + 1)) e)
    left-begins = begins (from-reads e (4 * (h + 1)) w.left-term)

    pub left-laying : Laying (from 4 p) e (h + 1)
    left-laying = next w.first.below w.left-term w.left-match

    module _ {i j : ℕ} (past : i ≡ size (term_of (from 4 p))) (right : j ≡ size (sub_at e (h + 1))) where
      right-entry : h + 1 + j ≡ right_in e h
      unfolding right_in
      right-entry = ap (λ (n : ℕ). h + 1 + n) (right ∙ ap (λ (q : List ℕ). size (term_of q)) (part_to_end e (4 * (h + 1))))

      pub right-laying : Laying (from (4 * (1 + i)) p) e (h + 1 + j)
      right-laying = rw right-entry (next (right-begins w.first past) w.right-term w.right-match)

      pub pair-raised : {a b c : List Bool} → Raised a b (MarkOver (term_of (from 4 p)) (sub_at e (h + 1)) (h + 1))
          → Raised b c (MarkOver (term_of (from (4 * (1 + i)) p)) (sub_at e (h + 1 + j)) (h + 1 + j)) → Raised a c (MarkOver (term_of p) (sub_at e h) h)
      pair-raised r s = raised-as (raised-twice r s) same
        where
          parts : (term_of (from 4 p) ≡ w.first.left) × (term_of (from (4 * (1 + i)) p) ≡ w.first.right) ×
              (term_of p ≡ pair w.first.left w.first.right)
          parts = (term_of-reads w.first.below, term_of-reads (right-begins w.first past), term_of-reads w.first.whole)

          left_is : sub_at e (h + 1) ≡ w.c
          left_is = term_of-reads (from-reads e (4 * (h + 1)) w.left-term)

          right_is : sub_at e (h + 1 + j) ≡ w.d
          right_is = rw right-entry (term_of-reads (from-reads e (4 * right_in e h) w.right-term))

          far : j ≡ size w.c
          far = right ∙ ap size left_is

          same : (k : ℕ) → (MarkOver (term_of (from 4 p)) (sub_at e (h + 1)) (h + 1) k ⊎ MarkOver (term_of (from (4 * (1 + i)) p)) (sub_at e (h + 1 + j))
              (h + 1 + j) k)
              ↔ MarkOver (term_of p) (sub_at e h) h k
          same k =
              let m = mark-pair {h = h} {k = k} w.first.left w.first.right w.c w.d in
              rw (parts.0, parts.1, parts.2, left_is, right_is, w.term, far) (m.1, m.0)

  -- Something around a term on both sides.
  pub record WrappedLaid : Type 0 where
    pub wrapping : Wrapping
    pub first : WrappedFirst p wrapping
    pub key : ℕ
    pub c : Term Variable
    pub more : List (Term Variable)
    pub term : sub_at e h ≡ wrapped wrapping key c
    pub content-term : Reads (drop (4 * (h + 1)) e) (c ∷ more)
    pub content-match : Becomes first.content c

  pub wrapped-laid : WrapperTag (tag_at p) → WrappedLaid
  unfolding replace
  wrapped-laid one =
      let f = wrapped-first l.pattern one.wrapping one.is in
      let by = l.match.by in
      let term = sym l.match.same ∙ ap (replace by) (term_of-reads f.whole) in
      record {
        wrapping = one.wrapping;
        first = f;
        key = _;
        c = replace by f.content;
        more = l.term.others;
        term = term;
        content-term = (wrapped-in e h (here term)).content;
        content-match = record { by = by; same = refl };
      }

  module _ (w : WrappedLaid) where
    pub content-laying : Laying (from 4 p) e (h + 1)
    content-laying = next w.first.below w.content-term w.content-match

    pub wrapped-raised : {a b : List Bool} → Raised a b (MarkOver (term_of (from 4 p)) (sub_at e (h + 1)) (h + 1))
        → Raised a b (MarkOver (term_of p) (sub_at e h) h)
    wrapped-raised r = raised-as r same
      where
        content-is : sub_at e (h + 1) ≡ w.c
        content-is = term_of-reads (from-reads e (4 * (h + 1)) w.content-term)

        same : (k : ℕ) → MarkOver (term_of (from 4 p)) (sub_at e (h + 1)) (h + 1) k ↔ MarkOver (term_of p) (sub_at e h) h k
        same k =
            let m = mark-wrapped {h = h} {k = k} w.wrapping w.wrapping _ w.key w.first.content w.c in
            rw (term_of-reads w.first.below, term_of-reads w.first.whole, content-is, w.term) (m.1, m.0)

  -- A mark: every entry of the term is at or below it.
  pub mark-raised : MarkedTag (tag_at p) → {a b : List Bool} {r : ℕ} → r ≡ size (sub_at e h) → Painted a b h (h + r) true → Raised a b (MarkOver (term_of p) (sub_at e h) h)
  mark-raised tag {a} {b} {r} is painted = raised-as (painted-raised painted) (λ k. go k (first l.pattern.reads))
    where
      go : (k : ℕ) → First (tag_at p) (value_at p) (drop 4 p) (l.pattern.term ∷ l.pattern.others)
          → ((h ≤ k) × (k < h + r)) ↔ MarkOver (term_of p) (sub_at e h) h k
      go k (first_variable {s = s} g v n q m) =
          let sorted = marked-sort s g tag in
          let w = mark-marked {h = h} {k = k} (sorted.0, value_at p) (sub_at e h) in
          rw (term_of-reads (rw q at l.pattern.reads), sorted.1, is) (w.1, w.0)
      go k (first_atom g q m) = absurd (omega (arith, marked-variable tag))
      go k (first_pair g n q m) = absurd (omega (arith, marked-variable tag))
      go k (first_wrapped {w = w} i g q m) = absurd (omega (arith, wrapping-symbol w i, marked-variable tag))

  -- Any other symbol has no mark.
  pub no-mark : ¬ (tag_at p ≡ pair_tag) → ¬ WrapperTag (tag_at p) → ¬ MarkedTag (tag_at p) → {a : List Bool} → length a ≡ 64 → Raised a a (MarkOver (term_of p) (sub_at e h) h)
  no-mark no-pair no-wrapper no-marked {a} long = raised-none long (λ k. go k (first l.pattern.reads))
    where
      go : (k : ℕ) → First (tag_at p) (value_at p) (drop 4 p) (l.pattern.term ∷ l.pattern.others) → ¬ MarkOver (term_of p) (sub_at e h) h k
      go k (first_atom g q m) = rw (term_of-reads (rw q at l.pattern.reads)) (mark-atom {h = h} {k = k} (value_at p) (sub_at e h))
      go k (first_pair g n q m) = absurd (no-pair g)
      go k (first_wrapped {w = w} i g q m) = absurd (no-wrapper (record { wrapping = w; is = i }))
      go k (first_variable {s = s} g v n q m) =
          let sorted = plain-sort s g no-marked in rw (term_of-reads (rw q at l.pattern.reads), sorted.1) (mark-plain {h = h} {k = k} sorted.0 (value_at p) (sub_at e h))
