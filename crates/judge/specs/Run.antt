-- The intruder and runs (document 01, "Messages, intruder, runs", and 02, No. 7).
use Rattle.std.specs.Prelude.{◌≡◌, List, [], ◌∷◌, ℕ}
use Rattle.std.proofs.Math.Option.{none, some}
use Rattle.terms.specs.Term.{Term, atom, pair, encrypted, hashed, signed, Message, Variable, no_variable, Foreign, instance}
use Rattle.terms.specs.Instance.{PutsNonces}
use Rattle.judge.specs.Certificate.{Rule, Certificate, Listed, Known, inverse}

-- What the intruder derives: what it has, pairs of derived messages, {m}k from m and k, both halves of a pair, and m
-- from {m}k when it derives the inverse of k; "it makes a hash from the message and gets nothing out of one; it signs with a key
-- it has and reads the message under any signature" (02, No. 7). It makes any number of such moves, and nothing is derived
-- otherwise. (It may sign with any atom that it derives, and give a hash any number: an intruder that can do more.)
pub data Derives (certificate : Certificate) (has : Message → Type 0) : Message → Type 0 where
  had : {m : Message} → has m → Derives certificate has m
  pairs : {m n : Message} → Derives certificate has m → Derives certificate has n → Derives certificate has (pair m n)
  encrypts : {m : Message} {k : ℕ} → Derives certificate has m → Derives certificate has (atom k) →
      Derives certificate has (encrypted k m)
  left_half : {m n : Message} → Derives certificate has (pair m n) → Derives certificate has m
  right_half : {m n : Message} → Derives certificate has (pair m n) → Derives certificate has n
  decrypts : {m : Message} {k : ℕ} → Derives certificate has (encrypted k m) →
      Derives certificate has (atom (inverse certificate k)) → Derives certificate has m
  hashes : {m : Message} {n : ℕ} → Derives certificate has m → Derives certificate has (hashed n m)
  signs : {m : Message} {k : ℕ} → Derives certificate has m → Derives certificate has (atom k) →
      Derives certificate has (signed k m)
  reads_signed : {m : Message} {k : ℕ} → Derives certificate has (signed k m) → Derives certificate has m

-- At a run's start the intruder has the known and the foreign atoms.
pub data Start (certificate : Certificate) (m : Message) : Type 0 where
  known : {a : ℕ} → m ≡ atom a → Known certificate a → Start certificate m
  foreign : {a : ℕ} → m ≡ atom a → Foreign a → Start certificate m

-- A step picks a rule and a replacement, which gives every nonce variable a nonce (02, No. 3: "and runs do likewise"). (Elsewhere
-- any number may be an atom or a key: more runs than the file's own.)
pub record Step (certificate : Certificate) : Type 0 where
  pub rule : Rule
  pub listed : Listed certificate rule
  pub by : Variable → Message
  pub nonces : PutsNonces certificate.atoms no_variable by

-- The premise's instance is derivable from what the intruder has by then, or there is no premise.
pub data Enabled {certificate : Certificate} (has : Message → Type 0) (step : Step certificate) : Type 0 where
  no_premise : step.rule.premise ≡ none → Enabled has step
  derivable : {premise : Term Variable} → step.rule.premise ≡ some premise →
      Derives certificate has (instance step.by premise) → Enabled has step

-- What the intruder has after a step: what it had, and the conclusion's instance if the step is enabled; otherwise it
-- stays as it was. Nothing but the steps adds to it.
pub data AfterStep {certificate : Certificate} (has : Message → Type 0) (step : Step certificate) (m : Message)
    : Type 0 where
  kept : has m → AfterStep has step m
  added : Enabled has step → m ≡ instance step.by step.rule.conclusion → AfterStep has step m

-- A run is a list of steps, empty or of any length, in order: each finds what the one before left.
unfoldable pub after_from : {certificate : Certificate} → (Message → Type 0) → List (Step certificate) → Message → Type 0
after_from has [] = has
after_from has (step ∷ steps) = after_from (AfterStep has step) steps

-- What the intruder has after a run.
abbrev pub after : (certificate : Certificate) → List (Step certificate) → Message → Type 0
after certificate steps = after_from (Start certificate) steps
