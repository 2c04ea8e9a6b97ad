-- Subterms by their entries: the k-th of `spots` is the one that stands at entry k (`entry_at` of the turns that lead to it is k),
-- and the entries from there on begin with it. So the place that number 12 reports is an entry's number, and the verdict goes
-- over the places as the meaning does.
use mathlib.Core.Path.{◌≡◌}
use mathlib.Core.List.{List, []}
use mathlib.Core.Logic.{◌↔◌}
use mathlib.Core.Option.{some}
use Prim.Native.Nat.{ℕ, ◌*◌, ◌<◌}
use lib.ListN.{drop}
use Rattle.terms.specs.Term.{Term, Variable}
use Rattle.terms.specs.Place.{Place, subterm_at, IsPlace}
use Rattle.terms.specs.Entry.{term_of, size, Placed}
use Rattle.terms.proofs.EntryLaws.{term_of-reads}
use Rattle.terms.specs.OneTerm.{OneTerm}
use Rattle.terms.proofs.OneTermLaws.{one-alone}
use Rattle.terms.proofs.PlacedLaws.{placed, spot-placed, placed-reads, one_place, one-subterm, placed-within}
use Rattle.judge.specs.Certificate.{Certificate, Rule}
use Rattle.judge.specs.Cover.{Risky, Covered, FineAt}
use Rattle.judge.specs.Verdict.{spot_at, FineSpot}

-- Of entries that are exactly one term: where a place stands, its subterm begins.
pub placed-entry : {e : List ℕ} → OneTerm e → {k : ℕ} {p : Place} {t : Term Variable} → Placed (term_of e) k p t → term_of (drop (4 * k) e) ≡ t
placed-entry o w = term_of-reads (placed-reads w (record { is = one-alone o })).1

pub spot-stands : (t : Term Variable) (k : ℕ) → k < size t → Placed t k (spot_at t k).0 (spot_at t k).1
unfolding spot_at
spot-stands t k inside = spot-placed t k ([], t) inside

module _ (certificate : Certificate) (rule : Rule) where
  pub fine-spot : (k : ℕ) → k < size rule.conclusion → FineSpot certificate rule k ↔ FineAt certificate rule k
  fine-spot k inside = (to, λ fine. fine _ _ (spot-stands rule.conclusion k inside))
    where
      to : FineSpot certificate rule k → FineAt certificate rule k
      to fine p t w is r =
          let here = spot-stands rule.conclusion k inside in
          let place : p ≡ (spot_at rule.conclusion k).0 = one_place w here in
          let subterm : t ≡ (spot_at rule.conclusion k).1 = one-subterm w here in
          rw (place, subterm) (fine (rw place at is) (rw subterm at r))

  -- Every entry's places are fine, and every place.
  pub all-places : ((k : ℕ) → k < size rule.conclusion → FineSpot certificate rule k) → (p : Place) (t : Term Variable)
      → subterm_at p rule.conclusion ≡ some t → IsPlace rule.conclusion p → Risky certificate t → Covered certificate rule p t
  all-places all p t stands =
      let w = placed p rule.conclusion stands in
      let inside = placed-within w in
      (fine-spot _ inside).0 (all _ inside) p t w

  pub each-entry : ((p : Place) (t : Term Variable) → subterm_at p rule.conclusion ≡ some t → IsPlace rule.conclusion p → Risky certificate t
      → Covered certificate rule p t)
      → (k : ℕ) → k < size rule.conclusion → FineSpot certificate rule k
  each-entry every k inside = every _ _ (spot-stands rule.conclusion k inside).stands
