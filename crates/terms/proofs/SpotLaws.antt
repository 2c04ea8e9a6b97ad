-- The subterms of a term, each with the turns that lead to it, are those of `spots`; so one of them is looked for there. The
-- decisions compute.
use Rattle.std.specs.Prelude.{◌≡◌, refl}
use Rattle.std.proofs.Common.{◌∙◌, ⊎_elim}
use mathlib.Core.List.Memᴰ
use mathlib.Core.List.{◌∷◌, [], ◌++◌, map, Memᴰ}
use Rattle.std.proofs.Math.Option.{some}
use Rattle.terms.specs.Term.{Term, variable, atom, pair, wrapped}
use Rattle.terms.specs.Place.{Turn, left, right, inside, Place, subterm_at, Spot, down, spots}
use Rattle.terms.specs.Decisions.{dec_map, dec_not, dec_all}
use Rattle.terms.specs.Turns.{by-turns}
use Rattle.terms.specs.Search.{any?, Stands}

-- Every way to a subterm is among them.
pub in-spots : {X : Type 0} (p : Place) (t : Term X) {s : Term X} → subterm_at p t ≡ some s → Memᴰ (p, s) (spots t)
unfolding spots
in-spots {X} p t e =
    by-turns (λ (p : Place) (t s : Term X). Memᴰ (p, s) (spots t)) root
    (λ p t u s h. Memᴰ.tail (Memᴰ.append_left (map (down right) (spots u)) (Memᴰ.map (down left) h)))
    (λ p t u s h. Memᴰ.tail (Memᴰ.append_right (map (down left) (spots t)) (Memᴰ.map (down right) h)))
    (λ p w k t s h. Memᴰ.tail (Memᴰ.map (down inside) h)) p t e
  where
    root : (t : Term X) → Memᴰ ([], t) (spots t)
    root (variable x) = Memᴰ.head refl
    root (atom a) = Memᴰ.head refl
    root (pair t u) = Memᴰ.head refl
    root (wrapped w k t) = Memᴰ.head refl

-- And nothing else is.
spots-down : {X : Type 0} (a : Turn) (t u : Term X) → ((q : Place) → subterm_at (a ∷ q) t ≡ subterm_at q u) →
    ((w : Spot X) → Memᴰ w (spots u) → Stands u w) → (w : Spot X) → Memᴰ w (map (down a) (spots u)) → Stands t w
spots-down a t u turn h w m =
    let o = Memᴰ.of_map (down a) (spots u) m in rw (← o.2) (turn o.0.0 ∙ h o.0 o.1)

pub spots-stand : {X : Type 0} (t : Term X) (w : Spot X) → Memᴰ w (spots t) → Stands t w
unfolding spots subterm_at
spots-stand (variable x) w m = rw (Memᴰ.eq_of_singleton m)
spots-stand (atom a) w m = rw (Memᴰ.eq_of_singleton m)
spots-stand {X} (pair t u) w m =
    ⊎_elim (λ (e : w ≡ ([], pair t u)). rw e)
    (λ (n : Memᴰ w (map (down left) (spots t) ++ map (down right) (spots u))).
    ⊎_elim (spots-down left (pair t u) t (λ q. refl) (λ v o. spots-stand t v o) w)
    (spots-down right (pair t u) u (λ q. refl) (λ v o. spots-stand u v o) w)
    (Memᴰ.append_cases (map (down left) (spots t)) n))
    (Memᴰ.cases_cons m)
spots-stand (wrapped wr k t) w m =
    ⊎_elim (λ (e : w ≡ ([], wrapped wr k t)). rw e)
    (spots-down inside (wrapped wr k t) t (λ q. refl) (λ v o. spots-stand t v o) w) (Memᴰ.cases_cons m)

unfoldable pub any_place? : {X : Type 0} (t : Term X) {P : Spot X → Type 0} → ((w : Spot X) → Dec (P w)) →
    Dec ((w : Spot X) × Stands t w × P w)
unfolding dec_map any? spots
any_place? t d =
    dec_map (λ w. (w.0, spots-stand t w.0 w.1, w.2)) (λ w. (w.0, in-spots w.0.0 t w.1, w.2))
    (any? (spots t) d)

unfoldable pub all_places? : {X : Type 0} (t : Term X) {P : Spot X → Type 0} → ((w : Spot X) → Dec (P w)) →
    Dec ((w : Spot X) → Stands t w → P w)
unfolding dec_all any_place? dec_not
all_places? t d = dec_all d (any_place? t (λ w. dec_not (d w)))
