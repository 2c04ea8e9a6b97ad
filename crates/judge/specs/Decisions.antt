-- Each condition, decided. The decisions compute.
use Rattle.std.specs.Prelude.{◌≡◌, ◌⊎◌, List, ◌++◌, length, ℕ}
use Rattle.std.proofs.Math.Path.{refl, ap}
use Rattle.std.proofs.Common.{sym, subst, ◌∙◌, inl, inr, arith}
use Rattle.std.proofs.Math.Option.{Option, none, some, none-ne-some}
use Rattle.std.proofs.Math.Decide.{ℕ_discrete, dec_lt}
use Rattle.terms.specs.Term.{Term, variable, atom, pair, encrypted, Message, replace, as_term, Variable, sort, plain, marked, Range, named, wrapped, encryption, hash, signature}
use Rattle.terms.specs.declared.atom.Atom.{Atom}
use Rattle.terms.specs.Atom.{known_of, atom_at}
use Rattle.terms.specs.Place.{Place, subterm_at}
use Rattle.terms.specs.Decide as decide
use Rattle.terms.specs.Instance.{Matches, Share}
use Rattle.terms.specs.Decisions.{dec_map, dec_not, dec_and, dec_or}
use Rattle.terms.specs.Search.{any?, all?, member?, any_above?, all_above?, at_or_above?, is_place?}
use Rattle.terms.proofs.SpotLaws.{any_place?}
use Rattle.judge.specs.Certificate.{Rule, Certificate, Secret, Good, Bad, Known, inverse}
use Rattle.judge.specs.Hat.{mark_named, Mark, Marked, Cancels, everywhere, at_mark}
use Rattle.judge.specs.Cover.{MarkBelow, MayCancel, cancels, below_place, SureHat, NoHat, shares_no_good, is_bad, Open, AtOpenPlace, Risky, is_variable}
use Rattle.judge.specs.Cover.{SecretOpenAt, shares_secret, Covered, sure_hat, in_premise}
use Rattle.judge.specs.Conditions.{KnownAtom, WeaklyClosed, KeptKey}

unfoldable pub same_term? : (t u : Term Variable) → Dec (t ≡ u)
unfolding decide.term? decide.variable?
same_term? = decide.term? decide.variable?

unfoldable pub same_message? : (m n : Message) → Dec (m ≡ n)
unfolding decide.term?
same_message? = decide.term? (λ x. absurd x)

unfoldable pub secret? : (certificate : Certificate) (m : Message) → Dec (Secret certificate m)
unfolding member? same_message?
secret? certificate m = member? same_message? m certificate.secrets

-- 9
unfoldable pub known? : (certificate : Certificate) (a : ℕ) → Dec (Known certificate a)
unfolding dec_map dec_and dec_lt ℕ_discrete atom_at
known? certificate a =
    dec_map (λ w. record { listed = w.0; known = w.1 }) (λ h. (h.listed, h.known))
    (dec_and (dec_lt a (length certificate.atoms)) (λ l. ℕ_discrete (known_of certificate.atoms a) 1))

unfoldable pub known_atom? : (certificate : Certificate) (m : Message) → Dec (KnownAtom certificate m)
unfolding dec_map known?
known_atom? certificate (variable x) = absurd x
known_atom? certificate (atom a) =
    dec_map (λ h. record { number = a; same = refl; known = h })
    (λ h. let same : h.number ≡ a = cc in rw same at h.known) (known? certificate a)
known_atom? certificate (pair m n) = no (λ h. let e = h.same in let z : ◌≡◌ {A = ℕ} 0 1 = cc in omega arith)
known_atom? certificate (wrapped w k m) = no (λ h. let e = h.same in let z : ◌≡◌ {A = ℕ} 0 1 = cc in omega arith)

-- 10
unfoldable pub weakly_closed? : (certificate : Certificate) (m : Message) → Dec (WeaklyClosed certificate m)
unfolding dec_map dec_or secret?
weakly_closed? certificate (variable x) = absurd x
weakly_closed? certificate (atom a) = yes (record {
  of_pair = λ m n e. let z : ◌≡◌ {A = ℕ} 0 1 = cc in absurd (omega arith);
  of_encrypted = λ m k e. let z : ◌≡◌ {A = ℕ} 0 1 = cc in absurd (omega arith);
  of_hashed = λ m k e. let z : ◌≡◌ {A = ℕ} 0 1 = cc in absurd (omega arith);
  of_signed = λ m k e. let z : ◌≡◌ {A = ℕ} 0 1 = cc in absurd (omega arith);
})
weakly_closed? certificate (pair m n) =
    dec_map (λ h. record {
      of_pair = λ m' n' e. let a : m ≡ m' = cc in let b : n ≡ n' = cc in rw (a, b) at h;
      of_encrypted = λ m' k e. let z : ◌≡◌ {A = ℕ} 0 1 = cc in absurd (omega arith);
      of_hashed = λ m' k e. let z : ◌≡◌ {A = ℕ} 0 1 = cc in absurd (omega arith);
      of_signed = λ m' k e. let z : ◌≡◌ {A = ℕ} 0 1 = cc in absurd (omega arith);
    })
    (λ h. h.of_pair m n refl)
    (dec_or (secret? certificate m) (λ o. secret? certificate n))
weakly_closed? certificate (wrapped encryption k m) =
    dec_map (λ h. record {
      of_pair = λ m' n e. let z : ◌≡◌ {A = ℕ} 0 1 = cc in absurd (omega arith);
      of_encrypted = λ m' k' e. let a : m ≡ m' = cc in let b : k ≡ k' = cc in rw (a, b) at h;
      of_hashed = λ m' k' e. let z : ◌≡◌ {A = ℕ} 0 1 = cc in absurd (omega arith);
      of_signed = λ m' k' e. let z : ◌≡◌ {A = ℕ} 0 1 = cc in absurd (omega arith);
    })
    (λ h. h.of_encrypted m k refl)
    (dec_or (secret? certificate m) (λ o. secret? certificate (atom k)))
weakly_closed? certificate (wrapped hash k m) =
    dec_map (λ h. record {
      of_pair = λ m' n e. let z : ◌≡◌ {A = ℕ} 0 1 = cc in absurd (omega arith);
      of_encrypted = λ m' k' e. let z : ◌≡◌ {A = ℕ} 0 1 = cc in absurd (omega arith);
      of_hashed = λ m' k' e. let a : m ≡ m' = cc in rw a at h;
      of_signed = λ m' k' e. let z : ◌≡◌ {A = ℕ} 0 1 = cc in absurd (omega arith);
    })
    (λ h. h.of_hashed m k refl)
    (secret? certificate m)
weakly_closed? certificate (wrapped signature k m) =
    dec_map (λ h. record {
      of_pair = λ m' n e. let z : ◌≡◌ {A = ℕ} 0 1 = cc in absurd (omega arith);
      of_encrypted = λ m' k' e. let z : ◌≡◌ {A = ℕ} 0 1 = cc in absurd (omega arith);
      of_hashed = λ m' k' e. let z : ◌≡◌ {A = ℕ} 0 1 = cc in absurd (omega arith);
      of_signed = λ m' k' e. let a : m ≡ m' = cc in let b : k ≡ k' = cc in rw (a, b) at h;
    })
    (λ h. h.of_signed m k refl)
    (dec_or (secret? certificate m) (λ o. secret? certificate (atom k)))

-- 11
unfoldable pub kept_key? : (certificate : Certificate) (good : Term Variable) → Dec (KeptKey certificate good)
unfolding dec_map secret?
kept_key? certificate (wrapped encryption k t) =
    dec_map (λ h. record { key = k; inner = t; same = refl; kept = h })
    (λ h. let same : h.key ≡ k = cc in rw same at h.kept) (secret? certificate (atom (inverse certificate k)))
kept_key? certificate (variable x) = no (λ h. let e = h.same in let z : ◌≡◌ {A = ℕ} 0 1 = cc in omega arith)
kept_key? certificate (atom a) = no (λ h. let e = h.same in let z : ◌≡◌ {A = ℕ} 0 1 = cc in omega arith)
kept_key? certificate (pair t u) = no (λ h. let e = h.same in let z : ◌≡◌ {A = ℕ} 0 1 = cc in omega arith)
kept_key? certificate (wrapped hash k t) = no (λ h. let e = h.same in let z : ◌≡◌ {A = ℕ} 0 1 = cc in omega arith)
kept_key? certificate (wrapped signature k t) = no (λ h. let e = h.same in let z : ◌≡◌ {A = ℕ} 0 1 = cc in omega arith)

-- A mark of a pattern.
unfoldable pub marked? : (t : Term Variable) → Dec ((n : Range × ℕ) × (t ≡ variable (mark_named n)))
marked? (variable (named (sort plain r) n)) = no (λ w. let e = w.1 in let z : ◌≡◌ {A = ℕ} 0 1 = cc in omega arith)
marked? (variable (named (sort marked r) n)) = yes ((r, n), refl)
marked? (atom a) = no (λ w. let e = w.1 in let z : ◌≡◌ {A = ℕ} 0 1 = cc in omega arith)
marked? (pair t u) = no (λ w. let e = w.1 in let z : ◌≡◌ {A = ℕ} 0 1 = cc in omega arith)
marked? (wrapped wr k t) = no (λ w. let e = w.1 in let z : ◌≡◌ {A = ℕ} 0 1 = cc in omega arith)

unfoldable pub is_variable? : (t : Term Variable) → Dec ((x : Variable) × (t ≡ variable x))
is_variable? (variable x) = yes (x, refl)
is_variable? (atom a) = no (λ w. let e = w.1 in let z : ◌≡◌ {A = ℕ} 0 1 = cc in omega arith)
is_variable? (pair t u) = no (λ w. let e = w.1 in let z : ◌≡◌ {A = ℕ} 0 1 = cc in omega arith)
is_variable? (wrapped wr k t) = no (λ w. let e = w.1 in let z : ◌≡◌ {A = ℕ} 0 1 = cc in omega arith)

unfoldable pub mark? : (pattern : Term Variable) (q p : Place) → Dec (Mark pattern q p)
unfolding dec_map dec_and any_place? marked? at_or_above?
mark? pattern q p =
    dec_map (λ w. record { name = w.2.0.0; place = w.0.0; stands = w.1 ∙ ap some w.2.0.1; above = w.2.1 })
    (λ h. ((h.place, variable (mark_named h.name)), h.stands, ((h.name, refl), h.above)))
    (any_place? pattern (λ w. dec_and (marked? w.1) (λ m. at_or_above? (q ++ w.0) p)))

-- What a bad pattern cancels, and may cancel.
unfoldable pub is_marked? : (pattern : Term Variable) → Dec (Marked pattern)
unfolding dec_map any_place? marked?
is_marked? pattern =
    dec_map (λ w. record { name = w.2.0; place = w.0.0; stands = w.1 ∙ ap some w.2.1 })
    (λ h. ((h.place, variable (mark_named h.name)), h.stands, (h.name, refl))) (any_place? pattern (λ w. marked? w.1))

unfoldable pub mark_below? : (bad : Term Variable) (q p : Place) → Dec (MarkBelow bad q p)
unfolding dec_map dec_and any_place? marked? at_or_above?
mark_below? bad q p =
    dec_map (λ w. record { name = w.2.0.0; place = w.0.0; stands = w.1 ∙ ap some w.2.0.1; below = w.2.1 })
    (λ h. ((h.place, variable (mark_named h.name)), h.stands, ((h.name, refl), h.below)))
    (any_place? bad (λ w. dec_and (marked? w.1) (λ m. at_or_above? p (q ++ w.0))))

unfoldable pub cancels? : (bad : Term Variable) (q p : Place) → Dec (Cancels bad q p)
unfolding dec_map dec_or dec_not is_marked? mark?
cancels? bad q p = dec_map to from (dec_or (dec_not (is_marked? bad)) (λ n. mark? bad q p))
  where
    to : (¬ Marked bad) ⊎ Mark bad q p → Cancels bad q p
    to (inl off) = everywhere off
    to (inr m) = at_mark m

    from : Cancels bad q p → (¬ Marked bad) ⊎ Mark bad q p
    from (everywhere off) = inl off
    from (at_mark m) = inr m

unfoldable pub may_cancel? : (bad : Term Variable) (q p : Place) → Dec (MayCancel bad q p)
unfolding dec_map dec_or cancels? mark_below?
may_cancel? bad q p = dec_map to from (dec_or (cancels? bad q p) (λ n. mark_below? bad q p))
  where
    to : Cancels bad q p ⊎ MarkBelow bad q p → MayCancel bad q p
    to (inl h) = cancels h
    to (inr m) = below_place m

    from : MayCancel bad q p → Cancels bad q p ⊎ MarkBelow bad q p
    from (cancels h) = inl h
    from (below_place m) = inr m

-- A pattern with its variables replaced, and a shared instance, over the atoms of a file.
unfoldable pub matches? : (atoms : List Atom) (p t : Term Variable) → Dec (Matches atoms p t)
unfolding decide.match?
matches? atoms p t = decide.match? atoms p t

unfoldable pub shares? : (atoms : List Atom) (s t : Term Variable) → Dec (Share atoms s t)
unfolding decide.share?
shares? atoms s t = decide.share? atoms s t

module _ (certificate : Certificate) where
  -- No bad pattern that shares an instance with t, at place q, counts for place p.
  abbrev pub NotBad : Term Variable → Place → Place → Type 0
  NotBad t q p = (bad : Term Variable) → Bad certificate bad → Share certificate.atoms bad t → MayCancel bad q p → ⊥

  unfoldable pub not_bad? : (t : Term Variable) (q p : Place) → Dec (NotBad t q p)
  unfolding all? dec_map dec_not dec_and shares? may_cancel?
  not_bad? t q p =
      all? certificate.bads
      (λ bad. dec_map (λ n s m. n (s, m)) (λ n w. n w.0 w.1) (dec_not (dec_and (shares? certificate.atoms bad t) (λ s. may_cancel? bad q p))))

  -- Sure hat for a place p of t.
  unfoldable pub sure_hat? : (t : Term Variable) (p : Place) → Dec (SureHat certificate t p)
  unfolding subterm_at dec_map dec_and any? any_above? not_bad? mark? matches?
  sure_hat? t p =
      dec_map (λ w. record {
        place = w.0;
        above = w.1;
        subterm = w.2.0;
        stands = w.2.1;
        good = w.2.2.0;
        listed = w.2.2.1;
        match = w.2.2.2.0;
        mark = w.2.2.2.1.0;
        not_bad = w.2.2.2.1.1;
      })
      (λ h. (h.place, h.above, (h.subterm, h.stands, (h.good, h.listed, (h.match, (h.mark, h.not_bad))))))
      (any_above? p (λ q. here q (subterm_at q t) refl))
    where
      Fits : Place → Term Variable → Type 0
      Fits q u = (good : Term Variable) × Good certificate good × (Matches certificate.atoms good u × (Mark good q p × NotBad u q p))

      here : (q : Place) (o : Option (Term Variable)) → subterm_at q t ≡ o →
          Dec ((u : Term Variable) × (subterm_at q t ≡ some u) × Fits q u)
      here q none e = no (λ w. none-ne-some w.0 (sym e ∙ w.1))
      here q (some u) e =
          dec_map (λ w. (u, e, w)) (λ w. let same : w.0 ≡ u = cc in subst (Fits q) same w.2)
          (any? certificate.goods
          (λ good. dec_and (matches? certificate.atoms good u) (λ m. dec_and (mark? good q p) (λ k. not_bad? u q p))))

  unfoldable pub no_hat? : (t : Term Variable) (q p : Place) → Dec (NoHat certificate t q p)
  unfolding dec_map dec_or dec_and dec_not all? any? shares? matches? cancels?
  no_hat? t q p =
      dec_map to from
      (dec_or (all? certificate.goods (λ good. dec_not (shares? certificate.atoms good t)))
      (λ n. any? certificate.bads (λ bad. dec_and (matches? certificate.atoms bad t) (λ m. cancels? bad q p))))
    where
      Ways : Type 0
      Ways = ((good : Term Variable) → Good certificate good → Share certificate.atoms good t → ⊥) ⊎
          ((bad : Term Variable) × Bad certificate bad × (Matches certificate.atoms bad t × Cancels bad q p))

      to : Ways → NoHat certificate t q p
      to (inl h) = shares_no_good h
      to (inr w) = is_bad w.1 w.2.0 w.2.1

      from : NoHat certificate t q p → Ways
      from (shares_no_good h) = inl h
      from (is_bad {bad = bad} listed match over) = inr (bad, listed, (match, over))

  -- Open place of a premise.
  unfoldable pub open? : (premise : Term Variable) (p : Place) → Dec (Open certificate premise p)
  unfolding subterm_at dec_map all_above? no_hat?
  open? premise p =
      dec_map (λ h. record { every = h }) (λ h. h.every) (all_above? p (λ q. here q (subterm_at q premise) refl))
    where
      Fine : Place → Type 0
      Fine q = (k : ℕ) (t : Term Variable) → subterm_at q premise ≡ some (encrypted k t) →
          NoHat certificate (encrypted k t) q p

      other : (q : Place) {o : Option (Term Variable)} → subterm_at q premise ≡ o →
          ((k : ℕ) (t : Term Variable) → o ≡ some (encrypted k t) → ⊥) → Dec (Fine q)
      other q e n = yes (λ k t f. absurd (n k t (sym e ∙ f)))

      here : (q : Place) (o : Option (Term Variable)) → subterm_at q premise ≡ o → Dec (Fine q)
      here q none e = other q e (λ k t f. none-ne-some _ f)
      here q (some (variable x)) e = other q e (λ k t f. let z : ◌≡◌ {A = ℕ} 0 1 = cc in omega arith)
      here q (some (atom a)) e = other q e (λ k t f. let z : ◌≡◌ {A = ℕ} 0 1 = cc in omega arith)
      here q (some (pair u w)) e = other q e (λ k t f. let z : ◌≡◌ {A = ℕ} 0 1 = cc in omega arith)
      here q (some (wrapped encryption k t)) e =
          dec_map (λ h k' t' f. let a : k ≡ k' = cc in let b : t ≡ t' = cc in rw (a, b) at h) (λ h. h k t e)
          (no_hat? (encrypted k t) q p)
      here q (some (wrapped hash k t)) e = other q e (λ k' t' f. let z : ◌≡◌ {A = ℕ} 0 1 = cc in omega arith)
      here q (some (wrapped signature k t)) e = other q e (λ k' t' f. let z : ◌≡◌ {A = ℕ} 0 1 = cc in omega arith)

  -- The term, symbol for symbol, at an open place of the premise.
  unfoldable pub at_open_place? : (rule : Rule) (t : Term Variable) → Dec (AtOpenPlace certificate rule t)
  unfolding dec_map dec_and any_place? same_term? is_place? open?
  at_open_place? rule t = here rule.premise refl
    where
      here : (o : Option (Term Variable)) → rule.premise ≡ o → Dec (AtOpenPlace certificate rule t)
      here none e = no (λ h. none-ne-some h.premise (sym e ∙ h.given))
      here (some premise) e =
          dec_map (λ w. record {
            premise = premise;
            given = e;
            place = w.0.0;
            is_place = w.2.1.0;
            stands = w.1 ∙ ap some w.2.0;
            is_open = w.2.1.1;
          })
          (λ h. let same : h.premise ≡ premise = cc in
          ((h.place, t), (rw same at h.stands), (refl, ((rw same at h.is_place), (rw same at h.is_open)))))
          (any_place? premise (λ w. dec_and (same_term? w.1 t) (λ s. dec_and (is_place? premise w.0) (λ q. open? premise w.0))))

  -- A listed secret at this open place of a premise.
  unfoldable pub secret_open? : (premise : Term Variable) (p : Place) → Dec (SecretOpenAt certificate premise p)
  unfolding subterm_at dec_map dec_and any? same_term? is_place? open? as_term replace
  secret_open? premise p = here (subterm_at p premise) refl
    where
      here : (o : Option (Term Variable)) → subterm_at p premise ≡ o → Dec (SecretOpenAt certificate premise p)
      here none e = no (λ h. none-ne-some _ (sym e ∙ h.stands))
      here (some t) e =
          dec_map (λ w. record { secret = w.0; listed = w.1; is_place = w.2.1.0; stands = e ∙ ap some w.2.0; is_open = w.2.1.1 })
          (λ h. let f = h.stands in (h.secret, h.listed, (cc, (h.is_place, h.is_open))))
          (any? certificate.secrets (λ secret. dec_and (same_term? t (as_term secret)) (λ s. dec_and (is_place? premise p) (λ q. open? premise p))))

  -- Risky place of a conclusion.
  unfoldable pub risky? : (t : Term Variable) → Dec (Risky certificate t)
  unfolding dec_map dec_or any? is_variable? shares? as_term replace
  risky? t =
      dec_map to from
      (dec_or (is_variable? t) (λ n. any? certificate.secrets (λ secret. shares? certificate.atoms t (as_term secret))))
    where
      Ways : Type 0
      Ways = ((x : Variable) × (t ≡ variable x)) ⊎ ((secret : Message) × Secret certificate secret × Share certificate.atoms t (as_term secret))

      to : Ways → Risky certificate t
      to (inl w) = is_variable w.1
      to (inr w) = shares_secret w.1 w.2

      from : Risky certificate t → Ways
      from (is_variable {x = x} e) = inl (x, e)
      from (shares_secret {secret = secret} listed share) = inr (secret, listed, share)

  unfoldable pub covered? : (rule : Rule) (p : Place) (t : Term Variable) → Dec (Covered certificate rule p t)
  unfolding dec_map dec_or sure_hat? at_open_place?
  covered? rule p t = dec_map to from (dec_or (sure_hat? rule.conclusion p) (λ n. at_open_place? rule t))
    where
      to : SureHat certificate rule.conclusion p ⊎ AtOpenPlace certificate rule t → Covered certificate rule p t
      to (inl h) = sure_hat h
      to (inr h) = in_premise h

      from : Covered certificate rule p t → SureHat certificate rule.conclusion p ⊎ AtOpenPlace certificate rule t
      from (sure_hat h) = inl h
      from (in_premise h) = inr h
