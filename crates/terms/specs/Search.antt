-- Deciding: one of a list, one of the places above, a place. All of these compute. (One of a term's subterms: `any_place?` of
-- proofs/SpotLaws.antt.)
use Rattle.std.specs.Prelude.{◌≡◌, refl, ◌⊎◌, ℕ}
use Rattle.std.proofs.Common.{sym, subst, ◌∙◌, inl, inr, arith}
use mathlib.Core.List.Memᴰ
use mathlib.Core.List.{List, [], ◌∷◌, nil≢cons, Memᴰ}
use Rattle.std.proofs.Math.Option.{some, Option, none, none-ne-some}
use Rattle.terms.specs.Term.{Term, variable, atom, pair, wrapped, encryption, hash, signature}
use Rattle.terms.specs.Place.{Turn, Turn-discrete, Place, subterm_at, StrictlyAbove, AtOrAbove, IsPlace, Spot}
use Rattle.terms.specs.Decisions.{dec_map, dec_not, dec_and, dec_or, dec_all}
use Rattle.terms.specs.Turns.{nothing-above-root}

-- One of a list.
unfoldable pub any? : {A : Type 0} (l : List A) {P : A → Type 0} → ((a : A) → Dec (P a)) →
    Dec ((a : A) × Memᴰ a l × P a)
unfolding dec_map dec_or
any? [] d = no (λ w. Memᴰ.not-nil w.1)
any? {A} (x ∷ l) {P} d = dec_map to from (dec_or (d x) (λ n. any? l d))
  where
    to : P x ⊎ ((a : A) × Memᴰ a l × P a) → (a : A) × Memᴰ a (x ∷ l) × P a
    to (inl h) = (x, Memᴰ.head refl, h)
    to (inr w) = (w.0, Memᴰ.tail w.1, w.2)

    cases : (a : A) → (a ≡ x) ⊎ Memᴰ a l → P a → P x ⊎ ((a : A) × Memᴰ a l × P a)
    cases a (inl e) h = inl (subst P e h)
    cases a (inr m) h = inr (a, m, h)

    from : (a : A) × Memᴰ a (x ∷ l) × P a → P x ⊎ ((a : A) × Memᴰ a l × P a)
    from w = cases w.0 (Memᴰ.cases_cons w.1) w.2

unfoldable pub all? : {A : Type 0} (l : List A) {P : A → Type 0} → ((a : A) → Dec (P a)) →
    Dec ((a : A) → Memᴰ a l → P a)
unfolding dec_all any? dec_not
all? l d = dec_all d (any? l (λ a. dec_not (d a)))

unfoldable pub member? : {A : Type 0} → Discrete A → (a : A) (l : List A) → Dec (Memᴰ a l)
unfolding dec_map any?
member? {A} same? a l = dec_map (λ w. Memᴰ.cast w.2 w.1) (λ m. (a, m, refl)) (any? l (λ b. same? a b))

-- One of the places strictly above.
unfoldable pub any_above? : (p : Place) {P : Place → Type 0} → ((q : Place) → Dec (P q)) →
    Dec ((q : Place) × StrictlyAbove q p × P q)
unfolding dec_map dec_or
any_above? [] d = no (λ w. nothing-above-root w.1)
any_above? (a ∷ p) {P} d =
    dec_map to (λ w. from w.0 w.1 w.2) (dec_or (d []) (λ n. any_above? p (λ q. d (a ∷ q))))
  where
    to : P [] ⊎ ((q : Place) × StrictlyAbove q p × P (a ∷ q)) → (q : Place) × StrictlyAbove q (a ∷ p) × P q
    to (inl h) = ([], record { turn = a; rest = p; split = refl }, h)
    to (inr w) = (a ∷ w.0, record { turn = w.1.turn; rest = w.1.rest; split = cc w.1.split }, w.2)

    from : (q : Place) → StrictlyAbove q (a ∷ p) → P q → P [] ⊎ ((q : Place) × StrictlyAbove q p × P (a ∷ q))
    from [] x h = inl h
    from (b ∷ q) x h =
        let same : b ≡ a = cc in
        inr (q, record { turn = x.turn; rest = x.rest; split = cc }, subst (λ (b : Turn). P (b ∷ q)) same h)

unfoldable pub all_above? : (p : Place) {P : Place → Type 0} → ((q : Place) → Dec (P q)) →
    Dec ((q : Place) → StrictlyAbove q p → P q)
unfolding dec_all any_above? dec_not
all_above? p d = dec_all d (any_above? p (λ q. dec_not (d q)))

unfoldable pub at_or_above? : (q p : Place) → Dec (AtOrAbove q p)
unfolding dec_map dec_and
at_or_above? [] p = yes (record { rest = p; split = refl })
at_or_above? (a ∷ q) [] = no (λ x. nil≢cons x.split)
at_or_above? (a ∷ q) (b ∷ p) =
    dec_map (λ w. record { rest = w.1.rest; split = cc (w.0, w.1.split) })
    (λ x. (let e = x.split in cc, record { rest = x.rest; split = let e = x.split in cc }))
    (dec_and (Turn-discrete a b) (λ e. at_or_above? q p))

-- A place.
unfoldable pub is_place? : {X : Type 0} (t : Term X) (p : Place) → Dec (IsPlace t p)
unfolding subterm_at dec_map all_above?
is_place? {X} t p = dec_map (λ h. record { no_hash = h }) (λ h. h.no_hash) (all_above? p (λ q. here q (subterm_at q t) refl))
  where
    Clear : Place → Type 0
    Clear q = (n : ℕ) (s : Term X) → subterm_at q t ≡ some (wrapped hash n s) → ⊥

    other : (q : Place) {o : Option (Term X)} → subterm_at q t ≡ o → ((n : ℕ) (s : Term X) → o ≡ some (wrapped hash n s) → ⊥) → Dec (Clear q)
    other q e off = yes (λ n s f. off n s (sym e ∙ f))

    here : (q : Place) (o : Option (Term X)) → subterm_at q t ≡ o → Dec (Clear q)
    here q none e = other q e (λ n s f. none-ne-some _ f)
    here q (some (variable x)) e = other q e (λ n s f. let z : ◌≡◌ {A = ℕ} 0 1 = cc in omega arith)
    here q (some (atom a)) e = other q e (λ n s f. let z : ◌≡◌ {A = ℕ} 0 1 = cc in omega arith)
    here q (some (pair u w)) e = other q e (λ n s f. let z : ◌≡◌ {A = ℕ} 0 1 = cc in omega arith)
    here q (some (wrapped encryption k u)) e = other q e (λ n s f. let z : ◌≡◌ {A = ℕ} 0 1 = cc in omega arith)
    here q (some (wrapped signature k u)) e = other q e (λ n s f. let z : ◌≡◌ {A = ℕ} 0 1 = cc in omega arith)
    here q (some (wrapped hash k u)) e = no (λ clear. clear k u e)

abbrev pub Stands : {X : Type 0} → Term X → Spot X → Type 0
Stands t w = subterm_at w.0 t ≡ some w.1
