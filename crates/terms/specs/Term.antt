-- Messages and terms (document 01, "Messages, intruder, runs").
use Rattle.std.specs.Prelude.{ℕ, ◌≤◌}

-- What is put around a term, with a number: encryption, whose number is that of the key; and (02, No. 7) a hash, whose number
-- is 0, and a signature, whose number is that of the signing key.
pub data Wrapping : Type 0 where
  encryption : Wrapping
  hash : Wrapping
  signature : Wrapping
  deriving Discrete as Wrapping-discrete

-- A term over the variables X: a variable, an atom by its number, a pair (t, u), or a term with something around it. Any
-- number may stand as an atom, as a key, and with a hash: that only makes what is proved of runs stronger, and changes no answer
-- on shared instances (`built-answer` of proofs/BuiltLaws.antt).
pub data Term (X : Type 0) : Type 0 where
  variable : X → Term X
  atom : ℕ → Term X
  pair : Term X → Term X → Term X
  wrapped : Wrapping → ℕ → Term X → Term X
  deriving Discrete as Term-discrete

-- {t}k, t encrypted under the key atom k.
abbrev pub encrypted : {X : Type 0} → ℕ → Term X → Term X
encrypted k t = wrapped encryption k t

-- The hash of t (02, No. 7). The number n is 0 in every file.
abbrev pub hashed : {X : Type 0} → ℕ → Term X → Term X
hashed n t = wrapped hash n t

-- t, signed with the private key k (02, No. 7).
abbrev pub signed : {X : Type 0} → ℕ → Term X → Term X
signed k t = wrapped signature k t

-- A message is an atom, a pair (m, n), or {m}k, or (02, No. 7) a hash or a signature: a term that holds no variable. Terms and
-- messages are finite.
abbrev pub Message : Type 0
Message = Term ⊥

-- Foreign atoms, numbered from 1,000 up, are in no file; all are nonces and known.
abbrev pub Foreign : ℕ → Type 0
Foreign a = 1000 ≤ a

-- A variable is plain or marked.
pub data Marking : Type 0 where
  plain : Marking
  marked : Marking
  deriving Discrete as Marking-discrete

-- It stands for any message, or for one nonce (02, No. 3).
pub data Range : Type 0 where
  any_message : Range
  one_nonce : Range
  deriving Discrete as Range-discrete

-- The sorts of variables.
pub data Sort : Type 0 where
  sort : Marking → Range → Sort
  deriving Discrete as Sort-discrete

-- A variable of a file: variables of one number and of different sorts are never the same.
pub data Variable : Type 0 where
  named : Sort → ℕ → Variable
  deriving Discrete as Variable-discrete

-- What a variable stands for. A message has none, so there is nothing to tell.
unfoldable pub range_of : Variable → Range
range_of (named (sort m r) n) = r

unfoldable pub no_variable : ⊥ → Range
no_variable x = absurd x

-- A term with each variable replaced, by the same term at all its occurrences.
unfoldable pub replace : {X Y : Type 0} → (X → Term Y) → Term X → Term Y
replace by (variable x) = by x
replace by (atom a) = atom a
replace by (pair t u) = pair (replace by t) (replace by u)
replace by (wrapped w k t) = wrapped w k (replace by t)

-- A term with each variable replaced by a finite message, the same one at all its occurrences. It is an instance if nonce
-- variables get nonces: `Instance`, `PutsNonces` of specs/Instance.antt (02, No. 3).
abbrev pub instance : {X : Type 0} → (X → Message) → Term X → Message
instance by t = replace by t

-- A message, read as a term.
unfoldable pub as_term : {X : Type 0} → Message → Term X
as_term m = replace (λ x. absurd x) m
