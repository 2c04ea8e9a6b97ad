-- A step whose premise is safe adds a safe message.
use mathlib.Core.Path.{◌≡◌, refl, sym, ap, ◌∙◌}
use mathlib.Core.List.{[], ◌∷◌, ◌++◌}
use mathlib.Core.Logic.{◌⊎◌, inl, inr}
use mathlib.Core.Option.{some}
use Prim.Native.Nat.{ℕ}
use native.Mathlib.Omega.{arith}
use Rattle.terms.specs.Term.{Term, encrypted, Message, Variable, no_variable, replace, instance, encryption, hash, signature}
use Rattle.terms.specs.Place.{Place, subterm_at, StrictlyAbove, AtOrAbove, IsPlace}
use Rattle.terms.specs.Instance.{PutsNonces, Instance, Share}
use Rattle.terms.proofs.InstanceLaws.{replace-as_term, matches-replace, ground, ground-nonces}
use Rattle.terms.proofs.PlaceLaws.{subterm_at-replace, beginnings, strictly-above-below, at-or-above-below, OnTheWay, on-the-way, Composite, composite, is_pair, is_wrapped}
use Rattle.terms.proofs.PlaceLaws.{Edge, exact, below, Origin, origin}
use Rattle.terms.proofs.PlaceEntryLaws.{place-below, place-replace, place-instance}
use Rattle.judge.specs.Certificate.{Rule, Certificate, Secret}
use Rattle.judge.specs.Hat.{Cancels, everywhere, at_mark, Hat, Protected}
use Rattle.judge.specs.Cover.{MayCancel, cancels, below_place, SureHat, NoHat, shares_no_good, is_bad, Open, Risky, is_variable}
use Rattle.judge.specs.Cover.{SecretOpenAt, shares_secret, Covered, sure_hat, in_premise, Passes}
use Rattle.judge.specs.Conditions.{MeetsAll}
use Rattle.judge.proofs.Runs.Safe.{Safe, HatAbove, safe-no-secret, protected-under, safe-part}
use Rattle.judge.proofs.Runs.Derive.{HatRoot, hat-root}

module _ {certificate : Certificate} (meets : MeetsAll certificate) (by : Variable → Message) (nonces : PutsNonces certificate.atoms no_variable by) where
  -- A term and a pattern with the term's instance for an instance share it.
  shared : {pattern t : Term Variable} → Instance certificate.atoms pattern (instance by t) → Share certificate.atoms pattern t
  shared {t} match = record { message = instance by t; left = match; right = record { by = by; nonces = nonces; same = refl } }

  -- What is cancelled for a place is cancelled below it; and what is cancelled below it may be cancelled for the place.
  cancels-below : (r : Place) {bad : Term Variable} {q p : Place} → Cancels bad q p → Cancels bad q (p ++ r)
  cancels-below r (everywhere off) = everywhere off
  cancels-below r (at_mark m) =
      at_mark (record { name = m.name; place = m.place; stands = m.stands; above = at-or-above-below r m.above })

  cancelled-below : (r : Place) {bad : Term Variable} {q p : Place} → Cancels bad q (p ++ r) → MayCancel bad q p
  cancelled-below r (everywhere off) = cancels (everywhere off)
  cancelled-below r {bad} {q} {p} (at_mark m) = go (beginnings p (q ++ m.place) r m.above.rest m.above.split)
    where
      go : StrictlyAbove (q ++ m.place) p ⊎ AtOrAbove p (q ++ m.place) → MayCancel bad q p
      go (inl above) = cancels (at_mark (record {
        name = m.name;
        place = m.place;
        stands = m.stands;
        above = record { rest = above.turn ∷ above.rest; split = above.split };
      }))
      go (inr under) = below_place (record { name = m.name; place = m.place; stands = m.stands; below = under })

  -- What may stand above an open place becomes no hat, for the place and all below it.
  no-hat : {t good : Term Variable} {q p : Place} (r : Place) → NoHat certificate t q p → Hat certificate good (instance by t) q (p ++ r) → ⊥
  no-hat {good = good} r (shares_no_good no_good) hat = no_good good hat.listed (shared hat.match)
  no-hat r (is_bad {bad = bad} listed match over) hat = hat.not_bad bad listed (matches-replace by nonces match) (cancels-below r over)

  -- So no hat stands strictly above an open place of an instance.
  open-no-hat : {premise t : Term Variable} {p : Place} → Open certificate premise p → subterm_at p premise ≡ some t →
      HatAbove certificate (instance by premise) p → ⊥
  unfolding replace
  open-no-hat {premise} {t} {p} is_open stands x =
      go (composite x.above.turn x.above.rest way.subterm way.onward)
    where
      way : OnTheWay (subterm_at x.place premise) (x.above.turn ∷ x.above.rest) t
      way = on-the-way x.place (x.above.turn ∷ x.above.rest) premise (rw x.above.split at stands)

      same : x.message ≡ instance by way.subterm
      same = let there = subterm_at-replace by x.place premise way.stands in let found = x.stands in cc

      root : HatRoot certificate x.message
      root = hat-root meets x.hat

      -- What is no encryption becomes none, and a hat is one.
      no-root : {u : Term Variable} → way.subterm ≡ u → (instance by u ≡ encrypted root.key root.inner → ⊥) → ⊥
      no-root e off = off (sym (ap (instance by) e) ∙ sym same ∙ root.same)

      go : Composite way.subterm → ⊥
      go (is_pair e) = no-root e (λ f. let z : ◌≡◌ {A = ℕ} 0 1 = cc in omega arith)
      go (is_wrapped {w = encryption} {k = k} {u = u} e) =
          no-hat x.rest (is_open.every x.place x.above k u (way.stands ∙ ap some e)) (rw (same, e) at x.hat)
      go (is_wrapped {w = hash} e) = no-root e (λ f. let z : ◌≡◌ {A = ℕ} 0 1 = cc in omega arith)
      go (is_wrapped {w = signature} e) = no-root e (λ f. let z : ◌≡◌ {A = ℕ} 0 1 = cc in omega arith)

  -- What stands at an open place of a safe premise is safe itself.
  open-safe : {premise t : Term Variable} {p : Place} → Open certificate premise p → IsPlace premise p → subterm_at p premise ≡ some t →
      Safe certificate (instance by premise) → Safe certificate (instance by t)
  open-safe {premise} {p = p} is_open place stands =
      safe-part p (subterm_at-replace by p premise stands) (place-replace by stands place) (open-no-hat is_open stands)

  -- So a premise with a listed secret at an open place is not safe.
  pub secret-unsafe : {premise : Term Variable} {p : Place} → SecretOpenAt certificate premise p → Safe certificate (instance by premise) → ⊥
  secret-unsafe x safe =
      safe-no-secret (rw (replace-as_term by x.secret) at (open-safe x.is_open x.is_place x.stands safe)) x.listed

  -- The instance of a sure hat is a hat, and protects what lies at or below the place.
  sure-protected : {t : Term Variable} {p : Place} (r : Place) → SureHat certificate t p →
      Protected certificate (instance by t) (p ++ r)
  sure-protected {t} {p} r x = record {
    place = x.place;
    above = strictly-above-below r x.above;
    message = instance by x.subterm;
    stands = subterm_at-replace by x.place t x.stands;
    good = x.good;
    hat = record {
      listed = x.listed;
      match = matches-replace by nonces x.match;
      not_bad = λ bad listed match over. x.not_bad bad listed (shared match) (cancelled-below r over);
    };
    mark = record {
      name = x.mark.name;
      place = x.mark.place;
      stands = x.mark.stands;
      above = at-or-above-below r x.mark.above;
    };
  }

  -- A secret in an instance comes from a risky place.
  origin-risky : {t : Term Variable} {p : Place} {s : Message} → Secret certificate s → (x : Origin by t p s) →
      Risky certificate x.subterm
  unfolding subterm_at
  origin-risky {s} secret x = go x.edge
    where
      go : Edge x.subterm x.rest → Risky certificate x.subterm
      go (below e) = is_variable e
      go (exact e) =
          let found : subterm_at [] (instance by x.subterm) ≡ some s = rw e at x.found in
          shares_secret secret (record {
            message = s;
            left = record { by = by; nonces = nonces; same = cc };
            right = record { by = ground; nonces = ground-nonces certificate.atoms; same = replace-as_term ground s };
          })

  -- The conclusion of a rule that passes is safe if its premise is.
  pub safe-conclusion : (rule : Rule) → Passes certificate rule →
      ((premise : Term Variable) → rule.premise ≡ some premise → Safe certificate (instance by premise)) →
      Safe certificate (instance by rule.conclusion)
  safe-conclusion rule passes safe = record { safe = go }
    where
      go : (p : Place) (s : Message) → Secret certificate s → subterm_at p (instance by rule.conclusion) ≡ some s →
          IsPlace (instance by rule.conclusion) p → Protected certificate (instance by rule.conclusion) p
      go p s secret e is =
          rw o.split (shelter (passes.covered o.place o.subterm o.stands (place-instance by o.rest there) (origin-risky secret o)))
        where
          o : Origin by rule.conclusion p s
          o = origin by rule.conclusion p e

          there : IsPlace (instance by rule.conclusion) (o.place ++ o.rest)
          there = rw o.split at is

          stands : subterm_at o.place (instance by rule.conclusion) ≡ some (instance by o.subterm)
          stands = subterm_at-replace by o.place rule.conclusion o.stands

          shelter : Covered certificate rule o.place o.subterm →
              Protected certificate (instance by rule.conclusion) (o.place ++ o.rest)
          shelter (sure_hat x) = sure-protected o.rest x
          shelter (in_premise x) =
              protected-under o.place stands
              ((open-safe x.is_open x.is_place x.stands (safe x.premise x.given)).safe o.rest s secret o.found
              (place-below o.place stands there))
