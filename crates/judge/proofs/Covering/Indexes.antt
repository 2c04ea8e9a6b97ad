-- Laws of the table of flagged entries by the slots of their roots. Assumes nothing.
use mathlib.Core.Path.{◌≡◌, refl, sym, ap, ◌∙◌}
use mathlib.Core.Bool.{Bool}
use mathlib.Core.List.{List}
use Prim.Native.Nat.{ℕ, ◌+◌, ◌*◌, ◌-◌, ◌<◌}
use native.Mathlib.Omega.{arith}
use native.Mathlib.Decide.{ℕ_discrete}
use lib.ListN.{length, get_or, set, length-set, replicate}
use lib.Seq.{get_or-set_same, get_or-set_other}
use Rattle.blocks.specs.Kinds.{secret_kind}
use Rattle.blocks.proofs.KindLaws.{secret-lists}
use Rattle.terms.specs.Entry.{Begins, term_of, from}
use Rattle.judge.specs.File.{block_count, pattern_of, certificate_of}
use Rattle.judge.specs.Laid.{Laid}
use Rattle.judge.specs.Listed.{root_slots, slot_at, RootsOf, IsSecret, HoldsAt}
use Rattle.judge.proofs.Stages.Listing.{none_found}
use Rattle.judge.specs.CoverEntries.{On, Flagged, SomeFlagged, IndexedBelow, Indexed}
use Rattle.judge.proofs.Covering.Flags.{zero-at}
use Rattle.judge.proofs.Stages.Roots.{slot_same, root-flagged}
use Rattle.judge.proofs.Covering.Covers.{flagged-begins, flagged-below}

-- Nothing is noted yet.
pub index-none : {e : List ℕ} {flags : List Bool} → IndexedBelow e flags 0 (replicate root_slots 0)
index-none = record { long = refl; points = λ s off. absurd (off (zero-at root_slots s)); noted = λ k l. absurd (omega arith) }

-- One entry more, which is flagged.
module _ {e : List ℕ} {flags : List Bool} {index : List ℕ} {k : ℕ} (w : IndexedBelow e flags k index) where
  pub index-more : {r : ℕ} → r ≡ slot_at (from (4 * k) e) → r < root_slots → On flags k → IndexedBelow e flags (k + 1) (set index r (k + 1))
  index-more {r} is small on = record {
    long = length-set index r (k + 1) ∙ w.long;
    points = λ s off. points s off (ℕ_discrete s r);
    noted = λ j l o. noted j l o (ℕ_discrete (slot_at (from (4 * j) e)) r);
  }
    where
      here : get_or (set index r (k + 1)) r 0 ≡ k + 1
      here = get_or-set_same index r (k + 1) 0 (let long = w.long in omega arith)

      points : (s : ℕ) → ¬ (get_or (set index r (k + 1)) s 0 ≡ 0) → Dec (s ≡ r) → On flags (get_or (set index r (k + 1)) s 0 - 1)
      points s off (yes e) = let back : k + 1 - 1 ≡ k = omega arith in rw (e, here, back) on
      points s off (no ne) = let same = get_or-set_other index r s (k + 1) 0 ne in rw same (w.points s (rw same at off))

      noted : (j : ℕ) → j < k + 1 → On flags j → Dec (slot_at (from (4 * j) e) ≡ r) → ¬ (get_or (set index r (k + 1)) (slot_at (from (4 * j) e)) 0 ≡ 0)
      noted j l o (yes q) z = let one : get_or (set index r (k + 1)) r 0 ≡ 0 = rw q at z in omega (arith, here)
      noted j l o (no ne) z =
          go (ℕ_discrete j k) (sym (get_or-set_other index r (slot_at (from (4 * j) e)) (k + 1) 0 ne) ∙ z)
        where
          go : Dec (j ≡ k) → get_or index (slot_at (from (4 * j) e)) 0 ≡ 0 → ⊥
          go (yes same) old = ne (ap (λ (n : ℕ). slot_at (from (4 * n) e)) same ∙ sym is)
          go (no off) old = w.noted j (omega arith) o old

-- What the table says of a term: it points at a flagged entry, or no flagged entry has the term.
module _ {e : List ℕ} {flags : List Bool} {index t : List ℕ} (f : Flagged e flags) (w : Indexed e flags index) (b : Begins t) {n : ℕ} (is : n ≡ get_or index (slot_at t) 0) where
  pub index-absent : n ≡ 0 → ¬ SomeFlagged e flags (λ s. s ≡ term_of t)
  index-absent none v =
      let on = v.is.on in
      let same = slot_same (flagged-begins v.number f (f.within v.number on)) b v.is.holds in
      w.noted v.number (flagged-below f (let short = f.entries.short in omega arith) v.number on) on
      (ap (λ (s : ℕ). get_or index s 0) same ∙ sym is ∙ none)

  pub index-points : ¬ (n ≡ 0) → On flags (n - 1) × (4 * (n - 1) < length e)
  index-points off =
      let on : On flags (n - 1) = rw is (w.points (slot_at t) (λ z. off (is ∙ z))) in (on, f.within (n - 1) on)

-- No secret has the slot of the term's root: it is none.
pub no-slot-secret : {file roots t : List ℕ} → Laid file → ∥ RootsOf file roots ∥₁ → Begins t → get_or roots (slot_at t) 0 ≡ 0 → ¬ IsSecret (certificate_of file) (term_of t)
unfolding pattern_of
no-slot-secret {file} {roots} {t} laid flags b absent = none_found laid secret_kind (λ p. p ≡ term_of t) apart
  where
    apart : (i : ℕ) → i < block_count file → HoldsAt file secret_kind (λ p. p ≡ term_of t) i → ⊥
    apart i inside h =
        let start = (laid.terms i inside (secret-lists h.has_kind)).term in
        let on : get_or roots (slot_at t) 0 ≡ 1 = ap (λ (n : ℕ). get_or roots n 0) (sym (slot_same start b h.holds)) ∙ root-flagged flags i inside h.has_kind in
        omega (arith, absent)
