-- Patterns with their variables replaced by terms, instances, and shared instances (document 01, "Hats and cover", and 02,
-- No. 3).
use Rattle.std.specs.Prelude.{◌≡◌, List}
use Rattle.terms.specs.declared.atom.Atom.{Atom}
use Rattle.terms.specs.Atom.{Nonce}
use Rattle.terms.specs.Term.{Term, variable, atom, pair, wrapped, Message, Variable, Range, one_nonce, range_of, no_variable, replace}

-- What may be put at a nonce variable (02, No. 3): "a term put there is a nonce atom or a nonce variable". The variables Y
-- of such a term have a range each.
unfoldable pub NonceTerm : List Atom → {Y : Type 0} → (Y → Range) → Term Y → Type 0
NonceTerm atoms range (variable y) = range y ≡ one_nonce
NonceTerm atoms range (atom a) = Nonce atoms a
NonceTerm atoms range (pair t u) = ⊥
NonceTerm atoms range (wrapped w k t) = ⊥

-- The replacement puts such a term at every nonce variable. At any other variable it may put every term.
abbrev pub PutsNonces : List Atom → {Y : Type 0} → (Y → Range) → (Variable → Term Y) → Type 0
PutsNonces atoms range by = (x : Variable) → range_of x ≡ one_nonce → NonceTerm atoms range (by x)

-- The term is the pattern with its variables replaced by terms. "Pattern and rule variables are always different
-- variables": the term's own are not replaced.
pub record Replaced (atoms : List Atom) {Y : Type 0} (range : Y → Range) (pattern : Term Variable) (term : Term Y) : Type 0 where
  pub by : Variable → Term Y
  pub nonces : PutsNonces atoms range by
  pub same : replace by pattern ≡ term

-- So of a term of a file.
abbrev pub Matches : List Atom → Term Variable → Term Variable → Type 0
Matches atoms pattern term = Replaced atoms range_of pattern term

-- So of a message: it is an instance. "An instance puts a nonce there, listed or foreign" (02, No. 3), as a message has no
-- variables.
abbrev pub Instance : List Atom → Term Variable → Message → Type 0
Instance atoms t m = Replaced atoms no_variable t m

-- Two terms share an instance: some finite message is an instance of both. Each side has its own replacement, so their
-- variables are always apart.
pub record Share (atoms : List Atom) (s t : Term Variable) : Type 0 where
  pub message : Message
  pub left : Instance atoms s message
  pub right : Instance atoms t message
