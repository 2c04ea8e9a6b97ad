-- Laws of sure hats on the entries: what laying the patterns of one kind covers, what the marked bad ones take away, and what
-- is then left at every entry. Assumes nothing.
use mathlib.Core.Path.{◌≡◌, refl, sym, ap, subst, ◌∙◌}
use mathlib.Core.Bool.{Bool, false}
use mathlib.Core.List.{List, ◌∷◌}
use mathlib.Core.Logic.{◌⊎◌, inl, inr, ◌↔◌}
use Prim.Native.Nat.{ℕ, ◌+◌, ◌*◌, ◌-◌, ◌<◌, ◌≤◌}
use native.Mathlib.Omega.{arith}
use native.Mathlib.Decide.{ℕ_discrete, dec_le}
use borrow.Author.Rules.{part_to_end}
use lib.ListN.{length, get_or, replicate}
use Rattle.blocks.specs.Kinds.{good_kind, bad_kind, ListsTerm}
use Rattle.blocks.specs.Block.{block_at, kind_of}
use Rattle.blocks.proofs.KindLaws.{bad-lists}
use Rattle.terms.specs.Term.{Term, Variable, replace, encryption}
use Rattle.terms.specs.Place.{Place, StrictlyAbove, AtOrAbove}
use Rattle.terms.specs.Tag.{MarkedTag, wrapping_tag}
use Rattle.terms.specs.Instance.{Matches, Share}
use Rattle.terms.specs.Seek.{Becomes}
use Rattle.terms.proofs.InstanceLaws.{becomes}
use Rattle.terms.specs.Entry.{size, term_of, tag_at, Begins, from, entry_at, Placed}
use Rattle.terms.proofs.EntryLaws.{reads-encrypted, term_of-reads, size-positive, fits, wrapped-first, from-length, from_start, term-reads}
use Rattle.terms.specs.TermGraph.{SizesOf}
use Rattle.terms.specs.OneTerm.{IsEncryption, encryption?}
use Rattle.terms.proofs.TermGraphLaws.{tag_in_lem}
use Rattle.terms.proofs.PlacedLaws.{placed, within, spotted, subterm-at, strictly-above-entry}
use Rattle.judge.specs.Certificate.{Certificate, Good, Bad}
use Rattle.judge.specs.File.{block_count, pattern_of, certificate_of}
use Rattle.judge.specs.Laid.{Laid}
use Rattle.judge.specs.Hat.{Marked}
use Rattle.judge.specs.Cover.{SureHat}
use Rattle.judge.specs.Listed.{atoms_in, listed_of, AnyListed, HoldsAt, HeldAmong, Searching, SharesUnmarked, TermPart, listed_rows, mark_slot, SizesIn}
use Rattle.judge.specs.CoverEntries.{sub_at, On, Raised, Cleared, SomeOn, SomeBoth, Flags, MarkAround, Lays, LaysAround, MayCancelOver, Laying, LayingAround, Standing, HatOver, HatBelow}
use Rattle.judge.proofs.Covering.Flags.{raised-none, raised-as, raised-twice, none-at, on?, cleared-none, cleared-as, cleared-twice}
use Rattle.judge.proofs.Covering.Around.{around-marked}
use Rattle.judge.proofs.Covering.Marks.{mark-inside, mark-place, may-cancel-place}
use Rattle.judge.proofs.Stages.Listing.{one_found, none_found, held_at, one-among}
use Rattle.judge.proofs.Stages.Tables.{unmarked-counts, none-marked}

-- What a search at entry h asks for.
pub searching-at : {file e : List ℕ} {h kind : ℕ} → Standing file e h → ListsTerm kind → Searching file kind (from (4 * h) e)
searching-at {e = e} {h = h} s lists =
    record { laid = s.laid; lists = lists; term = s.term; short = let short = s.short in omega (arith, from-length (4 * h) e) }

pub standing-end : {file e : List ℕ} {h end : ℕ} → Standing file e h → end ≡ h + size (sub_at e h) → (h + 1 ≤ end) × (end ≤ 64)
standing-end {e = e} {h = h} s is =
    let room = fits (sub_at e h) (term-reads s.term refl) in
    let positive = size-positive (sub_at e h) in
    let short = s.short in let inside = s.inside in
    (omega arith, omega (arith, from-length (4 * h) e))

-- What laying the pattern of a block asks for.
pub pattern-laying : {file e p : List ℕ} {h i : ℕ} → Standing file e h → TermPart file i p → Becomes (term_of p) (sub_at e h) → Laying p e h
pattern-laying s part match = record { pattern = part.term; term = s.term; match = match; inside = let l = s.inside in omega arith; short = s.short }

-- What one block of this kind raises.
module _ {file : List ℕ} {kind i : ℕ} where
  pub pattern-raised : (P : ℕ → Term Variable → Type 0) {Q : ℕ → Type 0} → kind_of (block_at file i) ≡ kind → {p : List ℕ} → TermPart file i p
      → ((k : ℕ) → Q k ↔ P k (term_of p)) → {old new : List Bool} → Raised old new Q → Raised old new (λ k. HoldsAt file kind (P k) i)
  unfolding pattern_of
  pattern-raised P is part same r =
      let term = ap term_of part.part in
      raised-as r (λ k. (
        λ q. record { has_kind = is; holds = subst (P k) term ((same k).0 q) },
        λ w. (same k).1 (subst (P k) (sym term) w.holds),
      ))

  pub no-match-raised : {u : Term Variable} {h : ℕ} {p : List ℕ} → TermPart file i p → {old : List Bool} → length old ≡ 64 → ¬ Matches (atoms_in file) (term_of p) u
      → Raised old old (λ k. HoldsAt file kind (Lays (atoms_in file) u h k) i)
  unfolding pattern_of
  no-match-raised {u} {h} part long off = raised-none long (λ k w. off (rw (← (ap term_of part.part)) at w.holds.0))

-- A marked bad pattern laid around the term at entry h; one that shares no instance with it, and one without marks.
pub exception-laying : {file e y z t : List ℕ} {h i : ℕ} → Standing file e h → TermPart file i t → SizesOf t y → SizesOf e z
    → {last : ℕ} → ((k : ℕ) → last ≤ k → ¬ MarkedTag (get_or t (4 * k) 0)) → LayingAround t y last 0 e z h
exception-laying {t = t} s part pattern_sizes sizes behind = record {
  pattern = rw (from_start t) part.term;
  term = s.term;
  pattern_inside = let room = part.term.room in omega arith;
  inside = s.inside;
  pattern_short = part.short;
  short = s.short;
  pattern_sizes = pattern_sizes;
  behind = behind;
  sizes = sizes;
}

module _ {file : List ℕ} {i : ℕ} {u : Term Variable} {h : ℕ} where
  -- Its flags are put off if it shares an instance with the term.
  pub exception-dropped : kind_of (block_at file i) ≡ bad_kind → {t : List ℕ} → TermPart file i t → {old new around : List Bool}
      → Flags around (MarkAround (sub_at t 0) u h) → HeldAmong file bad_kind (λ p. Share (atoms_in file) p u) i (i + 1) → Cleared old new (On around)
      → Cleared old new (λ k. HoldsAt file bad_kind (LaysAround (atoms_in file) u h k) i)
  unfolding pattern_of
  exception-dropped is {t} part f held r =
      let term : sub_at t 0 ≡ pattern_of (block_at file i) = ap term_of (from_start t ∙ part.part) in
      let share = ((one-among (λ p. Share (atoms_in file) p u)).0 held).holds in
      cleared-as r (λ k. (
        λ o. record { has_kind = is; holds = (share, rw term at ((f.on k).0 o)) },
        λ w. (f.on k).1 (rw term w.holds.1),
      ))

  -- Nothing has to be put off: it has its marks elsewhere, or none.
  module _ {old : List Bool} (long : length old ≡ 64) where
    pub exception-beside : {t : List ℕ} → TermPart file i t → {around : List Bool} → Flags around (MarkAround (sub_at t 0) u h) → ¬ SomeBoth old around
        → Cleared old old (λ k. HoldsAt file bad_kind (LaysAround (atoms_in file) u h k) i)
    unfolding pattern_of
    exception-beside {t} part f off =
        let term : sub_at t 0 ≡ pattern_of (block_at file i) = ap term_of (from_start t ∙ part.part) in
        cleared-none long (λ k o w. off (record { number = k; on = o; other = (f.on k).1 (rw term w.holds.1) }))

    pub exception-unmarked : {sizes : List ℕ} → ∥ SizesIn file sizes ∥₁ → i < block_count file → kind_of (block_at file i) ≡ bad_kind
        → get_or sizes (mark_slot i) 0 ≡ 0 → Cleared old old (λ k. HoldsAt file bad_kind (LaysAround (atoms_in file) u h k) i)
    exception-unmarked all inside is none =
        cleared-none long (λ k o w. unmarked-counts all inside (bad-lists is) refl none (is, around-marked w.holds.1))

-- Block after block, from the last one back: a block from number n on holds one.
abbrev pub HeldFrom : List ℕ → ℕ → (Term Variable → Type 0) → ℕ → Type 0
HeldFrom file kind P n = HeldAmong file kind P n (block_count file)

module _ {file : List ℕ} {kind : ℕ} (P : Term Variable → Type 0) where
  held-step : {n : ℕ} → 0 < n → n ≤ block_count file → (HeldFrom file kind P n ⊎ HoldsAt file kind P (n - 1)) ↔ HeldFrom file kind P (n - 1)
  held-step {n} some_left within = (to, λ w. back w (ℕ_discrete w.number (n - 1)))
    where
      to : HeldFrom file kind P n ⊎ HoldsAt file kind P (n - 1) → HeldFrom file kind P (n - 1)
      to (inl w) = record { number = w.number; above = let l = w.above in omega arith; below = w.below; holds = w.holds }
      to (inr w) = record { number = n - 1; above = omega arith; below = omega arith; holds = w }

      back : (w : HeldFrom file kind P (n - 1)) → Dec (w.number ≡ n - 1) → HeldFrom file kind P n ⊎ HoldsAt file kind P (n - 1)
      back w (yes e) = inr (subst (HoldsAt file kind P) e w.holds)
      back w (no off) = inl (record { number = w.number; above = let l = w.above in omega arith; below = w.below; holds = w.holds })

  -- The blocks before are of lower kinds, or there are none: all are asked.
  held-listed : {n : ℕ} → Laid file → ListsTerm kind → ((i : ℕ) → i < block_count file → kind_of (block_at file i) ≡ kind → n ≤ i)
      → HeldFrom file kind P n ↔ AnyListed (certificate_of file) kind P
  held-listed laid lists from-here = (
    λ w. one_found laid kind P lists w.below w.holds,
    λ a. (let w = held_at laid kind P a in record { number = w.0; above = from-here w.0 w.1 w.2.has_kind; below = w.1; holds = w.2 }),
  )

  held_below : {n m : ℕ} → Laid file → ListsTerm kind → n < block_count file → m ≡ kind_of (block_at file n) → m < kind
      → HeldFrom file kind P n ↔ AnyListed (certificate_of file) kind P
  held_below {n} laid lists here has_kind lower = held-listed laid lists (λ i inside is. elim (dec_le n i) [
    | yes l ↦ l
    | no off ↦ absurd (omega (arith, laid.ordered i n (omega arith) here))
  ])

module _ {file : List ℕ} {kind : ℕ} {P : ℕ → Term Variable → Type 0} where
  -- Flags raised so.
  pub held_none : {n : ℕ} {old : List Bool} → length old ≡ 64 → n ≡ block_count file → Raised old old (λ k. HeldFrom file kind (P k) n)
  held_none long all = raised-none long (λ k w. (let l = w.above in let g = w.below in omega arith))

  pub held_more : {n : ℕ} {a b c : List Bool} → 0 < n → n ≤ block_count file → Raised a b (λ k. HeldFrom file kind (P k) n)
      → Raised b c (λ k. HoldsAt file kind (P k) (n - 1)) → Raised a c (λ k. HeldFrom file kind (P k) (n - 1))
  held_more some_left within r s = raised-as (raised-twice r s) (λ k. held-step (P k) some_left within)

  pub held_all : {n : ℕ} → Laid file → ListsTerm kind → n ≡ 0 → {old new : List Bool} → Raised old new (λ k. HeldFrom file kind (P k) n)
      → Raised old new (λ k. AnyListed (certificate_of file) kind (P k))
  held_all laid lists none_left r = raised-as r (λ k. held-listed (P k) laid lists (λ i inside is. omega arith))

  pub held-lower : {n m : ℕ} → Laid file → ListsTerm kind → n < block_count file → m ≡ kind_of (block_at file n) → m < kind
      → {old new : List Bool} → Raised old new (λ k. HeldFrom file kind (P k) n) → Raised old new (λ k. AnyListed (certificate_of file) kind (P k))
  held-lower laid lists here has_kind lower r = raised-as r (λ k. held_below (P k) laid lists here has_kind lower)

  -- And put off so.
  pub dropped-more : {n : ℕ} {a b c : List Bool} → 0 < n → n ≤ block_count file → Cleared a b (λ k. HeldFrom file kind (P k) n)
      → Cleared b c (λ k. HoldsAt file kind (P k) (n - 1)) → Cleared a c (λ k. HeldFrom file kind (P k) (n - 1))
  dropped-more some_left within r s = cleared-as (cleared-twice r s) (λ k. held-step (P k) some_left within)

  pub dropped-all : {n : ℕ} → Laid file → ListsTerm kind → n ≡ 0 → {old new : List Bool} → Cleared old new (λ k. HeldFrom file kind (P k) n)
      → Cleared old new (λ k. AnyListed (certificate_of file) kind (P k))
  dropped-all laid lists none_left r = cleared-as r (λ k. held-listed (P k) laid lists (λ i inside is. omega arith))

  pub dropped-lower : {n m : ℕ} → Laid file → ListsTerm kind → n < block_count file → m ≡ kind_of (block_at file n) → m < kind
      → {old new : List Bool} → Cleared old new (λ k. HeldFrom file kind (P k) n) → Cleared old new (λ k. AnyListed (certificate_of file) kind (P k))
  dropped-lower laid lists here has_kind lower r = cleared-as r (λ k. held_below (P k) laid lists here has_kind lower)

-- The term at entry h as a hat: what the good patterns lay and no marked bad one lies around is put off, if no bad pattern
-- without marks shares an instance with it.
module _ {c : Certificate} {u : Term Variable} {h : ℕ} where
  hat-is : ¬ SharesUnmarked c u → (k : ℕ) → (AnyListed c good_kind (Lays c.atoms u h k) × ¬ AnyListed c bad_kind (LaysAround c.atoms u h k)) ↔ HatOver c u h k
  unfolding listed_of
  hat-is fine k = (
    to,
    λ w. (
      record { term = w.good; listed = w.listed; holds = (w.match, w.mark) },
      λ a. w.not_bad a.term a.listed a.holds.0 (inr a.holds.1),
    ),
  )
    where
      to : AnyListed c good_kind (Lays c.atoms u h k) × ¬ AnyListed c bad_kind (LaysAround c.atoms u h k) → HatOver c u h k
      to w = record { good = w.0.term; listed = w.0.listed; match = w.0.holds.0; mark = w.0.holds.1; not_bad = not-bad }
        where
          not-bad : (bad : Term Variable) → Bad c bad → Share c.atoms bad u → MayCancelOver bad u h k → ⊥
          not-bad bad listed share (inl off) = fine (record { term = bad; listed = listed; holds = (λ m. off m.1, share) })
          not-bad bad listed share (inr m) = w.1 (record { term = bad; listed = listed; holds = (share, m) })

  pub hat-taken : {old new marked hats : List Bool} → Flags marked (λ k. AnyListed c good_kind (Lays c.atoms u h k))
      → Cleared marked hats (λ k. AnyListed c bad_kind (LaysAround c.atoms u h k)) → ¬ SharesUnmarked c u → Cleared old new (On hats) → Cleared old new (HatOver c u h)
  hat-taken {marked = marked} {hats = hats} f d fine r = cleared-as r (λ k. (λ o. to k (d.kept k o), λ w. back k ((hat-is fine k).1 w) (on? hats k)))
    where
      to : (k : ℕ) → On marked k × ¬ AnyListed c bad_kind (LaysAround c.atoms u h k) → HatOver c u h k
      to k w = (hat-is fine k).0 ((f.on k).0 w.0, w.1)

      back : (k : ℕ) → AnyListed c good_kind (Lays c.atoms u h k) × ¬ AnyListed c bad_kind (LaysAround c.atoms u h k) → Dec (On hats k) → On hats k
      back k w (yes on) = on
      back k w (no off) = absurd (w.1 (d.gone k ((f.on k).1 w.0) off))

  pub hat-shares : {old : List Bool} → length old ≡ 64 → SharesUnmarked c u → Cleared old old (HatOver c u h)
  unfolding listed_of
  hat-shares long shares = cleared-none long (λ k o w. w.not_bad shares.term shares.listed shares.holds.1 (inl (λ m. shares.holds.0 (refl, m))))

pub marked-flags : {P : ℕ → Type 0} {new : List Bool} → Raised (replicate 64 false) new P → Flags new P
marked-flags {P} {new} r = record { long = r.long; on = λ k. (λ o. to k ((r.on k).0 o), λ h. (r.on k).1 (inr h)) }
  where
    to : (k : ℕ) → On (replicate 64 false) k ⊎ P k → P k
    to k (inl o) = absurd (none-at k o)
    to k (inr h) = h

-- Where no bad pattern is marked, there is no exception.
module _ {file sizes : List ℕ} (laid : Laid file) (all : ∥ SizesIn file sizes ∥₁) (off : ¬ (get_or sizes listed_rows 0 ≡ 1)) where
  marked-only : (P : Term Variable → Type 0) → ((p : Term Variable) → P p → Marked p) → ¬ AnyListed (certificate_of file) bad_kind P
  marked-only P marked a = none-marked laid all off (record { term = a.term; listed = a.listed; holds = marked a.term a.holds })

  pub no-exceptions : {u : Term Variable} {h : ℕ} {old : List Bool} → length old ≡ 64 → Cleared old old (λ k. AnyListed (certificate_of file) bad_kind (LaysAround (atoms_in file) u h k))
  no-exceptions {u} {h} long = cleared-none long (λ k o. marked-only (LaysAround (atoms_in file) u h k) (λ p w. around-marked w.1))

  pub none-excepted : {u : Term Variable} {h : ℕ} → Flags (replicate 64 false) (λ k. AnyListed (certificate_of file) bad_kind (Lays (atoms_in file) u h k))
  none-excepted {u} {h} = marked-flags (raised-none refl (λ k. marked-only (Lays (atoms_in file) u h k) (λ p w. around-marked (inl w.1))))

-- A good pattern is an encryption, and so is what it matches.
good-encryption : {file : List ℕ} → Laid file → {good : Term Variable} → Good (certificate_of file) good → IsEncryption good
unfolding listed_of
good-encryption {file} laid {good} listed = go (encryption? good)
  where
    go : Dec (IsEncryption good) → IsEncryption good
    go (yes is) = is
    go (no off) = absurd (none_found laid good_kind (λ p. IsEncryption p → ⊥)
        (λ i inside w. w.holds (let g = laid.goods i inside w.has_kind in record { key = g.key; content = g.content; is = g.same }))
        (record { term = good; listed = listed; holds = off }))

match-encryption : {good u : Term Variable} → IsEncryption good → Becomes good u → IsEncryption u
unfolding replace
match-encryption is m = record { key = is.key; content = replace m.by is.content; is = sym m.same ∙ ap (replace m.by) is.is }

-- Tag 3 stands where an encryption does.
pub encryption-tag : (e : List ℕ) (h : ℕ) → Begins (from (4 * h) e) → IsEncryption (sub_at e h) ↔ (get_or e (4 * h) 0 ≡ 3)
unfolding wrapping_tag
encryption-tag e h b = (
  λ w. tag_in_lem e h ∙ (reads-encrypted (rw part_to_end at (term-reads b w.is))).0,
  λ tag. let w = wrapped-first b encryption (ap tag_at (part_to_end e (4 * h)) ∙ sym (tag_in_lem e h) ∙ tag) in
      record { key = _; content = w.content; is = term_of-reads w.whole },
)

-- No flag is put off by what is no encryption, or where none is on below it.
module _ {file e : List ℕ} {h : ℕ} (s : Standing file e h) {old : List Bool} (long : length old ≡ 64) where
  pub no-encryption : ¬ (get_or e (4 * h) 0 ≡ 3) → Cleared old old (HatOver (certificate_of file) (sub_at e h) h)
  no-encryption off =
      cleared-none long (λ k o w. off ((encryption-tag e h s.term).0 (match-encryption (good-encryption s.laid w.listed) (becomes w.match))))

  pub none_below : {end : ℕ} → end ≡ h + size (sub_at e h) → ¬ SomeOn old (h + 1) end → Cleared old old (HatOver (certificate_of file) (sub_at e h) h)
  none_below is none = cleared-none long (λ k o w.
      let inside = mark-inside (good-encryption s.laid w.listed) (becomes w.match) w.mark in
      none (record { number = k; above = let l = inside.0 in omega arith; below = let l = inside.1 in omega arith; on = o }))

-- Entry after entry.
pub hats-more : {c : Certificate} {e : List ℕ} {h : ℕ} {first old new : List Bool} → Cleared first old (HatBelow c e h) → Cleared old new (HatOver c (sub_at e h) h)
    → Cleared first new (HatBelow c e (h + 1))
hats-more {c} {e} {h} r s = cleared-as (cleared-twice r s) (λ k. (to k, λ w. back k w (ℕ_discrete w.over h)))
  where
    to : (k : ℕ) → HatBelow c e h k ⊎ HatOver c (sub_at e h) h k → HatBelow c e (h + 1) k
    to k (inl w) = record { over = w.over; before = let l = w.before in omega arith; hat = w.hat }
    to k (inr w) = record { over = h; before = omega arith; hat = w }

    back : (k : ℕ) (w : HatBelow c e (h + 1) k) → Dec (w.over ≡ h) → HatBelow c e h k ⊎ HatOver c (sub_at e h) h k
    back k w (yes is) = inr (rw is at w.hat)
    back k w (no off) = inl (record { over = w.over; before = let l = w.before in omega arith; hat = w.hat })

-- What stands strictly above a place stands at or above it.
above_at : {q p : Place} → StrictlyAbove q p → AtOrAbove q p
above_at x = record { rest = x.turn ∷ x.rest; split = x.split }

-- On the places this is document 01's sure hat.
module _ {file : List ℕ} (laid : Laid file) {e : List ℕ} (b : Begins e) {k : ℕ} {p : Place} {s : Term Variable} (low : Placed (term_of e) k p s) where
  over-place : (w : HatBelow (certificate_of file) e (size (term_of e)) k) → SureHat (certificate_of file) (term_of e) p
  over-place w =
      let q = spotted (term_of e) w.over w.before in
      let u : sub_at e w.over ≡ q.subterm = subterm-at q.is (term-reads b refl) in
      let hat : HatOver (certificate_of file) q.subterm w.over k = rw u at w.hat in
      let inside = mark-inside (good-encryption laid hat.listed) (becomes hat.match) hat.mark in
      let above = (strictly-above-entry q.is low).1 inside in
      record {
        place = q.place;
        above = above;
        subterm = q.subterm;
        stands = q.is.stands;
        good = hat.good;
        listed = hat.listed;
        match = hat.match;
        mark = (mark-place q.is low).1 hat.mark;
        not_bad = λ bad listed share over. hat.not_bad bad listed share ((may-cancel-place q.is low (above_at above)).0 over);
      }

  place-over : SureHat (certificate_of file) (term_of e) p → HatBelow (certificate_of file) e (size (term_of e)) k
  place-over h =
      let q = placed h.place (term_of e) h.stands in
      let u : sub_at e (entry_at h.place (term_of e)) ≡ h.subterm = subterm-at q (term-reads b refl) in
      record {
        over = entry_at h.place (term_of e);
        before = omega (arith, within q, size-positive h.subterm);
        hat = rw u (record {
          good = h.good;
          listed = h.listed;
          match = h.match;
          mark = (mark-place q low).0 h.mark;
          not_bad = λ bad listed share over. h.not_bad bad listed share ((may-cancel-place q low (above_at h.above)).1 over);
        });
      }

  pub hat-place : HatBelow (certificate_of file) e (size (term_of e)) k ↔ SureHat (certificate_of file) (term_of e) p
  hat-place = (over-place, place-over)
