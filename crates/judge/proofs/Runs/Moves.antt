-- The moves of request No. 7, with nothing asked besides: a hash is made from the message, a signature with a key that the
-- intruder has, and the message is read under any signature. So what a rule sends under a signature is derived.
use mathlib.Core.Path.{◌≡◌, sym, ap}
use mathlib.Core.List.{[], ◌∷◌}
use mathlib.Core.Option.{none}
use Prim.Native.Nat.{ℕ}
use Rattle.terms.specs.Term.{Term, atom, hashed, signed, Message, Variable, no_variable, replace, instance}
use Rattle.terms.specs.Instance.{PutsNonces}
use Rattle.judge.specs.Certificate.{Rule, Certificate, Listed}
use Rattle.judge.specs.Run.{Derives, had, hashes, signs, reads_signed, no_premise, added, after_from, after}

module _ {certificate : Certificate} {has : Message → Type 0} {m : Message} where
  -- "The intruder makes a hash from the message."
  pub makes-hash : Derives certificate has m → Derives certificate has (hashed 0 m)
  makes-hash d = hashes d

  -- "It signs with a key it has."
  pub signs-with-key : {k : ℕ} → Derives certificate has m → Derives certificate has (atom k) → Derives certificate has (signed k m)
  signs-with-key d e = signs d e

  -- "And reads the message under any signature."
  pub reads-any : (k : ℕ) → Derives certificate has (signed k m) → Derives certificate has m
  reads-any k d = reads_signed d

-- After one step of a rule without premise whose conclusion is a signature, the message is derived.
pub signature-shows : {certificate : Certificate} (rule : Rule) (listed : Listed certificate rule) (by : Variable → Message)
    (nonces : PutsNonces certificate.atoms no_variable by) → rule.premise ≡ none → {k : ℕ} {t : Term Variable} → rule.conclusion ≡ signed k t
    → Derives certificate (after certificate (record { rule = rule; listed = listed; by = by; nonces = nonces } ∷ [])) (instance by t)
unfolding after_from replace
signature-shows rule listed by nonces free is = reads-any _ (had (added (no_premise free) (sym (ap (instance by) is))))
