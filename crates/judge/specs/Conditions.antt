-- What numbers 9 to 12 ask, block by block (document 01, "Verdicts", and 02, No. 7), and number 15 (02, No. 4).
use Rattle.std.specs.Prelude.{◌≡◌, ◌⊎◌, ℕ}
use Rattle.terms.specs.Term.{Term, atom, pair, encrypted, hashed, signed, Message, Variable, Foreign}
use Rattle.judge.specs.Certificate.{Rule, Certificate, Secret, Good, Listed, Known, inverse}
use Rattle.judge.specs.Cover.{HasOpenSecret, Passes}

-- 9: a secret is a known atom.
pub record KnownAtom (certificate : Certificate) (secret : Message) : Type 0 where
  pub number : ℕ
  pub same : secret ≡ atom number
  pub known : Known certificate number

-- 10: a secret is weakly closed. "With a pair, one half is listed; with {m}k, m or k is": the key itself, no inverse. "A listed
-- hash secret needs its message listed, a signed one its message or its key" (02, No. 7): the signing key itself.
pub record WeaklyClosed (certificate : Certificate) (secret : Message) : Type 0 where
  pub of_pair : (m n : Message) → secret ≡ pair m n → Secret certificate m ⊎ Secret certificate n
  pub of_encrypted : (m : Message) (k : ℕ) → secret ≡ encrypted k m → Secret certificate m ⊎ Secret certificate (atom k)
  pub of_hashed : (m : Message) (n : ℕ) → secret ≡ hashed n m → Secret certificate m
  pub of_signed : (m : Message) (k : ℕ) → secret ≡ signed k m → Secret certificate m ⊎ Secret certificate (atom k)

-- 11: the inverse of a good pattern's root key is a listed secret. (The root is an encryption, by layout.)
pub record KeptKey (certificate : Certificate) (good : Term Variable) : Type 0 where
  pub key : ℕ
  pub inner : Term Variable
  pub same : good ≡ encrypted key inner
  pub kept : Secret certificate (atom (inverse certificate key))

-- A certificate that meets them all.
pub record MeetsAll (certificate : Certificate) : Type 0 where
  -- By layout: foreign atoms are in no file.
  pub not_foreign : (a : ℕ) → Secret certificate (atom a) → Foreign a → ⊥
  -- 9: no secret is a known atom.
  pub not_known : (secret : Message) → Secret certificate secret → KnownAtom certificate secret → ⊥
  -- 10: every secret is weakly closed.
  pub weakly_closed : (secret : Message) → Secret certificate secret → WeaklyClosed certificate secret
  -- 11: of every good pattern, the inverse of the root key is listed.
  pub kept_keys : (good : Term Variable) → Good certificate good → KeptKey certificate good
  -- 15: no rule's premise has a listed secret at an open place.
  pub no_open_secret : (rule : Rule) → Listed certificate rule → ¬ HasOpenSecret certificate rule
  -- 12: every rule passes.
  pub passes : (rule : Rule) → Listed certificate rule → Passes certificate rule
