-- Laws of numbers 15 and 12 on the entries: searches through open entries, secrets, risky and covered entries, and the rule.
-- Assumes nothing.
use mathlib.Core.Path.{◌≡◌, refl, sym, ap, subst, ◌∙◌}
use mathlib.Core.Bool.{Bool, true, false, false≢true}
use mathlib.Core.List.{List, [], ◌∷◌}
use mathlib.Core.Logic.{◌⊎◌, inl, inr, ◌↔◌}
use mathlib.Core.Option.{Option, none, some, none-ne-some}
use Prim.Native.Nat.{ℕ, ◌*◌, ◌/◌, ◌<◌, ◌≤◌}
use native.Mathlib.Omega.{arith}
use native.Mathlib.Decide.{ℕ_discrete}
use borrow.Author.Rules.{part_to_end}
use borrow.Author.Tests.{eq-eqb, ne_eqb}
use lib.ListN.{length, set, drop, replicate}
use Rattle.blocks.specs.Kinds.{secret_kind}
use Rattle.blocks.specs.Block.{first_count, second_count, first_entries, second_entries}
use Rattle.terms.specs.First.{Found, FirstNot, fails, holds}
use Rattle.std.specs.Prelude.{None}
use Rattle.terms.specs.Term.{Term, Variable, variable, named, as_term}
use Rattle.terms.specs.Tag.{VariableTag, SymbolTag, wrapping-symbol, sort-tag}
use Rattle.terms.specs.Place.{Place, IsPlace}
use Rattle.terms.specs.PlaceEntries.{PlaceEntry}
use Rattle.terms.specs.Entry.{size, term_of, tag_at, value_at, Reads, Begins, from, entry_at, Placed}
use Rattle.terms.specs.Reading.{First, first_atom, first_pair, first_wrapped, first_variable, first}
use Rattle.terms.proofs.EntryLaws.{term_of-reads, suffix, reads-variable, term-reads}
use Rattle.terms.specs.Decisions.{Says, says_same}
use Rattle.terms.proofs.FirstLaws.{first-only, first-along}
use Rattle.terms.proofs.PlacedLaws.{placed, spotted, subterm-at, spot-placed}
use Rattle.terms.proofs.PlaceEntryLaws.{place-entry}
use Rattle.judge.specs.Certificate.{Certificate, Rule}
use Rattle.judge.specs.File.{certificate_of, rule_of}
use Rattle.judge.specs.Laid.{Laid, RuleBlock}
use Rattle.judge.specs.Cover.{SecretOpenAt, Risky, Covered, sure_hat, in_premise, AtOpenPlace}
use Rattle.judge.specs.Verdict.{spot_at, no_secret?, open_secret, FineSpot, fine?, uncovered}
use Rattle.judge.specs.Listed.{SharesListed, IsSecret}
use Rattle.judge.specs.CoverEntries.{sub_at, On, Cleared, Flags, Standing, HatBelow, Entries, OpenEntry, OpenFlags, OpenHolds, Flagged, FlaggedWith, SomeFlagged}
use Rattle.judge.specs.CoverEntries.{EntryWith, RiskyEntry, AskedEntry, Wanted, is_secret, is_risky, WantedEntry, FineEntry, Concluded}
use Rattle.judge.proofs.Covering.Flags.{RaisedBelow, raised-more, raised-over, none-at, on?}
use Rattle.judge.proofs.Stages.ListedLaws.{secret-term, risky-is}
use Rattle.judge.proofs.Files.Spots.{spot-stands}
use Rattle.judge.proofs.Covering.Hats.{hat-place}
use Rattle.judge.proofs.Covering.Opens.{open-place}

-- A term stands at every entry.
pub begins-at : {e : List ℕ} (k : ℕ) → Begins e → 4 * k < length e → Begins (from (4 * k) e)
begins-at k b inside = rw part_to_end (suffix k b inside)

pub standing-entries : {file e : List ℕ} {k : ℕ} → Laid file → Entries e → 4 * k < length e → Standing file e k
standing-entries {k = k} laid e inside =
    record { laid = laid; term = begins-at k (e.some_term (omega arith)) inside; inside = inside; short = e.short }

pub standing-flagged : {file e : List ℕ} {flags : List Bool} {k : ℕ} → Laid file → Flagged e flags → 4 * k < length e → Standing file e k
standing-flagged laid f inside = standing-entries laid f.entries inside

pub flagged-begins : {e : List ℕ} {flags : List Bool} (k : ℕ) → Flagged e flags → 4 * k < length e → Begins (from (4 * k) e)
flagged-begins k f inside = begins-at k (f.entries.some_term (omega arith)) inside

pub flagged-below : {e : List ℕ} {flags : List Bool} {n : ℕ} → Flagged e flags → length e / 4 ≤ n → (k : ℕ) → On flags k → k < n
flagged-below f past k on =
    let inside = f.within k on in
    let whole = f.entries.whole (λ z. omega arith) in omega arith

pub standing-concluded : {file e : List ℕ} {k : ℕ} → Concluded file e → 4 * k < length e → Standing file e k
standing-concluded {k = k} w inside = record { laid = w.laid; term = begins-at k w.term inside; inside = inside; short = w.short }

-- A risky place: a variable, or what the search for a secret says.
module _ (c : Certificate) {t : List ℕ} (b : Begins t) where
  pub risky-variable : VariableTag (tag_at t) → Risky c (term_of t)
  risky-variable tag = go (first b.reads)
    where
      go : First (tag_at t) (value_at t) (drop 4 t) (b.term ∷ b.others) → Risky c (term_of t)
      go (first_variable g v n q k) = (risky-is c (term_of t)).1 (inl (_, term_of-reads (rw q at b.reads)))
      go (first_atom g q k) = absurd (omega arith)
      go (first_pair g n q k) = absurd (omega arith)
      go (first_wrapped {w = w} i g q k) = absurd (omega (arith, wrapping-symbol w i))

  no-variable : SymbolTag (tag_at t) → (x : Variable) → ¬ (term_of t ≡ variable x)
  no-variable tag x is = go x (term-reads b is)
    where
      go : (x : Variable) → Reads t (variable x ∷ b.others) → ⊥
      go (named s n) r = let high = sort-tag s (reads-variable r).0 in omega arith

  pub risky-secret : SymbolTag (tag_at t) → (r : Bool) → Says r (SharesListed c secret_kind (term_of t)) → Says r (Risky c (term_of t))
  risky-secret tag r says = says_same r (λ h. (risky-is c (term_of t)).1 (inr h)) (λ h. go ((risky-is c (term_of t)).0 h)) says
    where
      go : ((x : Variable) × (term_of t ≡ variable x)) ⊎ SharesListed c secret_kind (term_of t) → SharesListed c secret_kind (term_of t)
      go (inl w) = absurd (no-variable tag w.0 w.1)
      go (inr h) = h

pub concluded-entries : {file e : List ℕ} → Concluded file e → Entries e
concluded-entries w = record { some_term = λ n. w.term; whole = λ n. w.whole; short = w.short }

-- The entries with P that stand at places, as they are flagged.
pub entries-flags : {e : List ℕ} {flags : List Bool} {P : ℕ → Type 0} {n : ℕ} → Entries e → RaisedBelow flags (λ k. PlaceEntry e k × P k) n → length e / 4 ≡ n
    → Flags flags (EntryWith e P)
entries-flags {e} {n = n} entries w all = record {
  long = w.long;
  on = λ k. (
    λ o. (let v = (w.on k).0 o in record { inside = let l = v.0 in omega arith; place = v.1.0; holds = v.1.1 }),
    λ r. (w.on k).1 (below k r.inside, (r.place, r.holds)),
  );
}
  where
    below : (k : ℕ) → 4 * k < length e → k < n
    below k l = let whole = entries.whole (λ z. omega arith) in omega arith

-- One more place, and up to the next one no other.
pub places-more : {e : List ℕ} {flags : List Bool} {P : ℕ → Type 0} {k n : ℕ} → RaisedBelow flags (λ j. PlaceEntry e j × P j) k → PlaceEntry e k → k < 64 → (b : Bool)
    → Says b (P k) → k < n → ((j : ℕ) → k < j → j < n → ¬ PlaceEntry e j) → RaisedBelow (set flags k b) (λ j. PlaceEntry e j × P j) n
places-more w place small b says further between =
    raised-over (raised-more w small b (says_same b (λ p. (place, p)) (λ h. h.1) says)) (omega arith) (λ j low high h. between j (omega arith) high h.0)

pub entries-flagged : {e : List ℕ} {flags : List Bool} {P : ℕ → Type 0} → Entries e → Flags flags (EntryWith e P) → Flagged e flags
entries-flagged entries f = record { entries = entries; long = f.long; within = λ k o. ((f.on k).0 o).inside }

-- The risky entries, if they are asked for.
module _ {asked : Bool} {c : Certificate} {e : List ℕ} where
  pub asked-flags : {flags : List Bool} → asked ≡ true → Flags flags (RiskyEntry c e) → Flags flags (AskedEntry asked c e)
  asked-flags on f = record {
    long = f.long;
    on = λ k. (
      λ o. (let w = (f.on k).0 o in record { inside = w.inside; place = w.place; holds = (on, w.holds) }),
      λ w. (f.on k).1 (record { inside = w.inside; place = w.place; holds = w.holds.1 }),
    );
  }

  pub unasked-flags : asked ≡ false → Flags (replicate 64 false) (AskedEntry asked c e)
  unasked-flags off =
      record { long = refl; on = λ k. (λ o. absurd (none-at k o), λ w. absurd (false≢true (sym off ∙ w.holds.0))) }

  pub flags-asked : {flags : List Bool} → asked ≡ true → Flags flags (AskedEntry asked c e) → Flags flags (RiskyEntry c e)
  flags-asked on f = record {
    long = f.long;
    on = λ k. (
      λ o. (let w = (f.on k).0 o in record { inside = w.inside; place = w.place; holds = w.holds.1 }),
      λ w. (f.on k).1 (record { inside = w.inside; place = w.place; holds = (on, w.holds) }),
    );
  }

-- The wanted entries of the premise.
pub wanted-none : {c : Certificate} {premise conclusion : List ℕ} {risky : List Bool} {k : ℕ} → ¬ IsSecret c (sub_at premise k)
    → ¬ SomeFlagged conclusion risky (λ s. s ≡ sub_at premise k) → ¬ Wanted c premise conclusion risky k
wanted-none off empty (is_secret s) = off s
wanted-none off empty (is_risky w) = empty w

-- The premise's entries and the premise.
pub record PremiseIs (e : List ℕ) (premise : Option (Term Variable)) : Type 0 where
  pub entries : Entries e
  pub empty : length e ≡ 0 → premise ≡ none
  pub term : ¬ (length e ≡ 0) → premise ≡ some (term_of e)

-- Among the flags of open entries, those of a claim that makes an entry wanted are all that hold it.
pub open-flags : {c : Certificate} {e : List ℕ} {wanted opened : List Bool} → OpenFlags c e wanted opened → (P : Term Variable → Type 0)
    → ((k : ℕ) → On wanted k → PlaceEntry e k) → ((k : ℕ) → PlaceEntry e k → OpenEntry c e k → P (sub_at e k) → On wanted k)
    → SomeFlagged e opened P ↔ OpenHolds c e P
open-flags f P place want = (
  λ w. (let o = (f.on w.number).0 w.is.on in record { number = w.number; place = place w.number o.0; is_open = o.1; holds = w.is.holds }),
  λ w. record {
    number = w.number;
    is = record { on = (f.on w.number).1 (want w.number w.place w.is_open w.holds, w.is_open); holds = w.holds };
  },
)

open-inside : {c : Certificate} {e : List ℕ} → Entries e → {k : ℕ} → OpenEntry c e k → 4 * k < length e
open-inside {e = e} entries o = let l = o.is_open.inside in let whole = entries.whole o.some_entry in omega arith

module _ {file : List ℕ} (laid : Laid file) (rule : Rule) {e : List ℕ} (is : PremiseIs e rule.premise) where
  -- What stands at an open place stands at an open entry.
  at_open : (t : Term Variable) → AtOpenPlace (certificate_of file) rule t ↔ OpenHolds (certificate_of file) e (λ s. s ≡ t)
  at_open t = (λ w. to w (ℕ_discrete (length e) 0), back)
    where
      to : AtOpenPlace (certificate_of file) rule t → Dec (length e ≡ 0) → OpenHolds (certificate_of file) e (λ s. s ≡ t)
      to w (yes empty) = absurd (none-ne-some w.premise (sym (is.empty empty) ∙ w.given))
      to w (no some_entry) =
          let b = is.entries.some_term some_entry in
          let given : some (term_of e) ≡ some w.premise = sym (is.term some_entry) ∙ w.given in
          let same : w.premise ≡ term_of e = cc in
          let low = placed w.place (term_of e) (rw same at w.stands) in
          record {
            number = entry_at w.place (term_of e);
            place = (place-entry b (is.entries.whole some_entry) low).1 (rw same at w.is_place);
            is_open = record { some_entry = some_entry; is_open = (open-place b low).1 (rw same at w.is_open) };
            holds = subterm-at low (term-reads b refl);
          }

      back : OpenHolds (certificate_of file) e (λ s. s ≡ t) → AtOpenPlace (certificate_of file) rule t
      back w =
          let o = w.is_open in
          let b = is.entries.some_term o.some_entry in
          let q = spotted (term_of e) w.number o.is_open.inside in
          let term : q.subterm ≡ t = sym (subterm-at q.is (term-reads b refl)) ∙ w.holds in
          record {
            premise = term_of e;
            given = is.term o.some_entry;
            place = q.place;
            is_place = (place-entry b (is.entries.whole o.some_entry) q.is).0 w.place;
            stands = q.is.stands ∙ ap some term;
            is_open = (open-place b q.is).0 o.is_open;
          }

  -- Number 15, by the flags of the open entries among those that are wanted, with all secrets at places among them.
  module _ {conclusion : List ℕ} {risky wanted opened : List Bool} (f : OpenFlags (certificate_of file) e wanted opened)
      (want : Flags wanted (WantedEntry (certificate_of file) e conclusion risky)) where
    abbrev FlaggedSecret : ℕ → Type 0
    FlaggedSecret = FlaggedWith e opened (IsSecret (certificate_of file))

    -- A flagged secret stands at an open place.
    module _ (some_entry : ¬ (length e ≡ 0)) (k : ℕ) (inside : k < size (term_of e)) where
      spot : Placed (term_of e) k (spot_at (term_of e) k).0 (spot_at (term_of e) k).1
      spot = spot-stands (term_of e) k inside

      begins : Begins e
      begins = is.entries.some_term some_entry

      subterm : sub_at e k ≡ (spot_at (term_of e) k).1
      subterm = subterm-at spot (term-reads begins refl)

      flagged-open : FlaggedSecret k ↔ SecretOpenAt (certificate_of file) (term_of e) (spot_at (term_of e) k).0
      flagged-open = (to, back)
        where
          to : FlaggedSecret k → SecretOpenAt (certificate_of file) (term_of e) (spot_at (term_of e) k).0
          to w =
              let m = (secret-term (certificate_of file) (sub_at e k)).0 w.holds in
              let o = (f.on k).0 w.on in
              record {
                secret = m.0;
                listed = m.1;
                is_place = (place-entry begins (is.entries.whole some_entry) spot).0 ((want.on k).0 o.0).place;
                stands = spot.stands ∙ ap some (sym subterm ∙ m.2);
                is_open = (open-place begins spot).0 o.1.is_open;
              }

          back : SecretOpenAt (certificate_of file) (term_of e) (spot_at (term_of e) k).0 → FlaggedSecret k
          back w =
              let same : sub_at e k ≡ as_term w.secret = let x = spot.stands in let y = w.stands in cc (subterm) in
              let secret = (secret-term (certificate_of file) (sub_at e k)).1 (w.secret, w.listed, same) in
              let whole = is.entries.whole some_entry in
              let place = (place-entry begins whole spot).1 w.is_place in
              record {
                on = (f.on k).1 ((want.on k).1 (record { inside = omega arith; place = place; holds = is_secret secret }), record { some_entry = some_entry; is_open = (open-place begins spot).1 w.is_open });
                holds = secret;
              }

    pub secret-rule : {r : Found} → FirstNot (λ k. ¬ FlaggedSecret k) (length e / 4) r → r ≡ open_secret (certificate_of file) rule
    unfolding open_secret
    secret-rule {r} found = go (ℕ_discrete (length e) 0)
      where
        nothing : length e ≡ 0 → FirstNot (λ k. ¬ FlaggedSecret k) (length e / 4) r → r ≡ None
        nothing z (fails e l off all) = absurd (omega arith)
        nothing z (holds e all) = e

        go : Dec (length e ≡ 0) → r ≡ open_secret (certificate_of file) rule
        go (yes z) = rw (is.empty z, open_secret) (nothing z found)
        go (no some_entry) =
            let whole = is.entries.whole some_entry in
            let count : length e / 4 ≡ size (term_of e) = omega arith in
            rw (is.term some_entry, open_secret) (first-only (no_secret? (certificate_of file) (term_of e))
            (first-along (λ k inside. let same = flagged-open some_entry k inside in (λ off o. off (same.1 o), λ off w. off (same.0 w)))
            (rw count at found)))

  -- Number 12, by the flags of the open entries among the wanted ones.
  module _ {conclusion : List ℕ} {risky wanted opened : List Bool} (want : Flags wanted (WantedEntry (certificate_of file) e conclusion risky))
      (f : OpenFlags (certificate_of file) e wanted opened) where
    -- The places of the conclusion, entry by entry.
    module _ (concluded : Concluded file conclusion) (term : rule.conclusion ≡ term_of conclusion)
        (g : Flags risky (RiskyEntry (certificate_of file) conclusion)) where
      module _ (k : ℕ) {p : Place} {s : Term Variable} (low : Placed rule.conclusion k p s) where
        here : Placed (term_of conclusion) k p s
        here = rw term at low

        subterm-is : sub_at conclusion k ≡ s
        subterm-is = subterm-at here (term-reads concluded.term refl)

        place_here : PlaceEntry conclusion k ↔ IsPlace rule.conclusion p
        place_here = let w = place-entry concluded.term concluded.whole here in rw term w

        fine-entry : FineEntry (certificate_of file) e conclusion k
            ↔ (IsPlace rule.conclusion p → Risky (certificate_of file) s → Covered (certificate_of file) rule p s)
        fine-entry = (
          λ w place r. to (w.covered (place_here.1 place) (rw subterm-is r)),
          λ h. record { covered = λ place r. back (h (place_here.0 place) (rw subterm-is at r)) },
        )
          where
            to : HatBelow (certificate_of file) conclusion (size (term_of conclusion)) k ⊎ OpenHolds (certificate_of file) e (λ t. t ≡ sub_at conclusion k)
                → Covered (certificate_of file) rule p s
            to (inl w) = sure_hat (rw term ((hat-place laid concluded.term here).0 w))
            to (inr w) = in_premise ((at_open s).1 (rw subterm-is at w))

            back : Covered (certificate_of file) rule p s
                → HatBelow (certificate_of file) conclusion (size (term_of conclusion)) k ⊎ OpenHolds (certificate_of file) e (λ t. t ≡ sub_at conclusion k)
            back (sure_hat h) = inl ((hat-place laid concluded.term here).1 (rw term at h))
            back (in_premise h) = inr (rw subterm-is ((at_open s).0 h))

      fine-at : (k : ℕ) → k < size rule.conclusion → FineEntry (certificate_of file) e conclusion k ↔ FineSpot (certificate_of file) rule k
      unfolding spot_at
      fine-at k inside = fine-entry k (spot-placed rule.conclusion k ([], rule.conclusion) inside)

      -- A flag that is left on is at an entry that is not fine, and the others are at fine ones.
      module _ {bare left : List Bool} (b : Cleared risky bare (λ k. SomeFlagged e opened (λ s. s ≡ sub_at conclusion k)))
          (l : Cleared bare left (HatBelow (certificate_of file) conclusion (size (term_of conclusion)))) where
        stands-open : (k : ℕ) → On risky k → SomeFlagged e opened (λ s. s ≡ sub_at conclusion k) ↔ OpenHolds (certificate_of file) e (λ s. s ≡ sub_at conclusion k)
        stands-open k o = open-flags f (λ s. s ≡ sub_at conclusion k) (λ j on. ((want.on j).0 on).place) (λ j place w same. (want.on j).1 (record {
          inside = open-inside is.entries w;
          place = place;
          holds = is_risky (record { number = k; is = record { on = o; holds = sym same } });
        }))

        not-fine : (k : ℕ) → On left k → ¬ FineEntry (certificate_of file) e conclusion k
        not-fine k on w =
            let v = l.kept k on in let u = b.kept k v.0 in
            let r = (g.on k).0 u.0 in
            go v u (w.covered r.place r.holds)
          where
            go : On bare k × ¬ HatBelow (certificate_of file) conclusion (size (term_of conclusion)) k
                → On risky k × ¬ SomeFlagged e opened (λ s. s ≡ sub_at conclusion k)
                → HatBelow (certificate_of file) conclusion (size (term_of conclusion)) k ⊎ OpenHolds (certificate_of file) e (λ s. s ≡ sub_at conclusion k) → ⊥
            go v u (inl h) = v.1 h
            go v u (inr h) = u.1 ((stands-open k u.0).1 h)

        fine : (k : ℕ) → k < size (term_of conclusion) → ¬ On left k → FineEntry (certificate_of file) e conclusion k
        fine k inside off = record {
          covered = λ place r. (
              let on : On risky k = (g.on k).1 (record { inside = let w = concluded.whole in omega arith; place = place; holds = r }) in go on (on? bare k)
              );
        }
          where
            go : On risky k → Dec (On bare k)
                → HatBelow (certificate_of file) conclusion (size (term_of conclusion)) k ⊎ OpenHolds (certificate_of file) e (λ s. s ≡ sub_at conclusion k)
            go on (yes bare) = inl (l.gone k bare off)
            go on (no gone) = inr ((stands-open k on).0 (b.gone k on gone))

        -- An entry is fine if it is not left flagged.
        left-fine : (k : ℕ) → k < size (term_of conclusion) → (¬ On left k) ↔ FineSpot (certificate_of file) rule k
        left-fine k inside =
            let small : k < size rule.conclusion = rw term inside in
            (λ off. (fine-at k small).0 (fine k inside off), λ h on. not-fine k on ((fine-at k small).1 h))

        first_fine : {r : Found} → FirstNot (λ k. ¬ On left k) (size (term_of conclusion)) r
            → FirstNot (FineSpot (certificate_of file) rule) (size rule.conclusion) r
        first_fine {r} found =
            subst (λ (n : ℕ). FirstNot (FineSpot (certificate_of file) rule) n r) (sym (ap size term)) (first-along left-fine found)

        pub uncovered-rule : {r : Found} {n : ℕ} → n ≡ size (term_of conclusion) → FirstNot (λ k. ¬ On left k) n r
            → r ≡ uncovered (certificate_of file) rule
        unfolding uncovered
        uncovered-rule all found = first-only (fine? (certificate_of file) rule) (first_fine (rw all at found))

-- The premise and the conclusion of a rule block.
pub premise-is : {b e : List ℕ} → RuleBlock b → e ≡ first_entries b → length e ≡ 4 * first_count b → PremiseIs e (rule_of b).premise
unfolding rule_of
premise-is {b} {e} block part long = record {
  entries = record {
    some_term = λ off. rw part (block.premise (λ z. off (omega arith)));
    whole = λ off. rw part (block.premise_whole (λ z. off (omega arith)));
    short = let l = block.premise_short in omega arith;
  };
  empty = λ z. rw (eq-eqb (first_count b) 0 (omega arith)) refl;
  term = λ off. rw (ne_eqb (first_count b) 0 (λ z. off (omega arith)), part) refl;
}

pub conclusion-is : {b e : List ℕ} → RuleBlock b → e ≡ second_entries b → (rule_of b).conclusion ≡ term_of e
unfolding rule_of
conclusion-is block part = rw part refl

pub conclusion-concluded : {file b e : List ℕ} → Laid file → RuleBlock b → e ≡ second_entries b → length e ≡ 4 * second_count b → Concluded file e
conclusion-concluded laid block part long =
    record { laid = laid; term = rw part block.conclusion; whole = rw part block.conclusion_whole; short = let l = block.conclusion_short in omega arith }
