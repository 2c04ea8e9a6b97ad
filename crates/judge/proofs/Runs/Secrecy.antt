-- The secrecy theorem (demand 3).
use mathlib.Core.Path.{◌≡◌, refl, sym, ◌∙◌}
use mathlib.Core.List.{List, [], ◌∷◌}
use mathlib.Core.Option.{some, none-ne-some}
use Prim.Native.Nat.{ℕ}
use Rattle.terms.specs.Term.{Term, atom, Message, Variable, no_variable, instance}
use Rattle.terms.specs.Place.{left, right, inside, Place, subterm_at, IsPlace}
use Rattle.terms.specs.Instance.{PutsNonces}
use Rattle.judge.specs.Certificate.{Rule, Certificate, Secret}
use Rattle.judge.specs.Run.{Derives, Start, known, foreign, Step, Enabled, no_premise, derivable, AfterStep, kept, added, after_from, after}
use Rattle.judge.specs.Hat.{Protected}
use Rattle.judge.specs.Cover.{HasOpenSecret}
use Rattle.judge.specs.Conditions.{MeetsAll}
use Rattle.judge.proofs.Runs.Safe.{Safe, safe-no-secret}
use Rattle.judge.proofs.Runs.Derive.{safe-derived}
use Rattle.judge.proofs.Runs.Steps.{secret-unsafe, safe-conclusion}

-- An atom that is no secret is safe.
safe-atom : {certificate : Certificate} (a : ℕ) → (Secret certificate (atom a) → ⊥) → Safe certificate (atom a)
unfolding subterm_at
safe-atom {certificate} a no_secret = record { safe = go }
  where
    go : (p : Place) (s : Message) → Secret certificate s → subterm_at p (atom a) ≡ some s → IsPlace {X = ⊥} (atom a) p →
        Protected certificate (atom a) p
    go [] s secret e is = let same : s ≡ atom a = cc in absurd (no_secret (rw same at secret))
    go (left ∷ p) s secret e is = absurd (none-ne-some s e)
    go (right ∷ p) s secret e is = absurd (none-ne-some s e)
    go (inside ∷ p) s secret e is = absurd (none-ne-some s e)

module _ {certificate : Certificate} (meets : MeetsAll certificate) where
  safe-start : (m : Message) → Start certificate m → Safe certificate m
  safe-start m (known {a = a} e k) =
      rw e (safe-atom a (λ secret. meets.not_known (atom a) secret (record { number = a; same = refl; known = k })))
  safe-start m (foreign {a = a} e f) = rw e (safe-atom a (λ secret. meets.not_foreign a secret f))

  safe-step : {has : Message → Type 0} (step : Step certificate) → ((m : Message) → has m → Safe certificate m) →
      (m : Message) → AfterStep has step m → Safe certificate m
  safe-step step base m (kept h) = base m h
  safe-step {has} step base m (added enabled e) =
      rw e (safe-conclusion meets step.by step.nonces step.rule (meets.passes step.rule step.listed) (premise enabled))
    where
      premise : Enabled has step → (t : Term Variable) → step.rule.premise ≡ some t →
          Safe certificate (instance step.by t)
      premise (no_premise f) t given = absurd (none-ne-some t (sym f ∙ given))
      premise (derivable {premise = u} f d) t given =
          let same : u ≡ t = cc in rw same at (safe-derived meets base d)

  -- Whatever the intruder has after a run is safe.
  safe-after : {has : Message → Type 0} (steps : List (Step certificate)) →
      ((m : Message) → has m → Safe certificate m) → (m : Message) → after_from has steps m → Safe certificate m
  unfolding after_from
  safe-after [] base = base
  safe-after {has = has} (step ∷ steps) base =
      safe-after {has = λ x. AfterStep {certificate = certificate} (λ x'. has x') step x} steps (safe-step step base)

-- For every certificate that meets the conditions and every list of steps, every listed secret at a place of what the intruder
-- derives is protected.
pub protection : (certificate : Certificate) → MeetsAll certificate → (steps : List (Step certificate)) (m : Message) →
    Derives certificate (after certificate steps) m → (p : Place) (s : Message) → Secret certificate s →
    subterm_at p m ≡ some s → IsPlace m p → Protected certificate m p
protection certificate meets steps m derived = (safe-derived meets (safe-after meets steps (safe-start meets)) derived).safe

-- And the intruder derives none.
pub secrecy : (certificate : Certificate) → MeetsAll certificate → (steps : List (Step certificate)) (s : Message) →
    Secret certificate s → Derives certificate (after certificate steps) s → ⊥
secrecy certificate meets steps s secret derived =
    safe-no-secret (safe-derived meets (safe-after meets steps (safe-start meets)) derived) secret

-- What number 15 refuses can never happen (02, No. 4): after no list of steps is the premise of a rule with a listed secret
-- at an open place derivable, whatever the replacement. The rule need not be listed: it is the one that was dropped.
pub never-enabled : (certificate : Certificate) → MeetsAll certificate → (steps : List (Step certificate)) (rule : Rule) →
    (x : HasOpenSecret certificate rule) → (by : Variable → Message) → PutsNonces certificate.atoms no_variable by →
    Derives certificate (after certificate steps) (instance by x.premise) → ⊥
never-enabled certificate meets steps rule x by nonces derived =
    secret-unsafe meets by nonces x.open_secret (safe-derived meets (safe-after meets steps (safe-start meets)) derived)
