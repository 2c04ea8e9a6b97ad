-- Terms over given atoms and given keys. Restricting messages to these, as to the listed and foreign atoms, to key atoms under
-- encryptions, to private keys with signatures and to 0 with hashes, changes no answer.
use Rattle.std.specs.Prelude.{◌⊎◌, List, ℕ, ◌<◌, length}
use Rattle.terms.specs.Term.{Term, variable, atom, pair, Range, Variable, Foreign, wrapped, Wrapping}
use Rattle.terms.specs.Instance.{Replaced, Share}
use Rattle.terms.specs.declared.atom.Atom.{Atom}

-- Every atom a of the term has A a, and every number k with something that is put around a term, w, has K w k.
unfoldable pub Built : {X : Type 0} (A : ℕ → Type 0) (K : Wrapping → ℕ → Type 0) → Term X → Type 0
Built A K (variable x) = Unit {0}
Built A K (atom a) = A a
Built A K (pair t u) = Built A K t × Built A K u
Built A K (wrapped w k t) = K w k × Built A K t

-- A match by built terms alone.
pub record BuiltMatch (A : ℕ → Type 0) (K : Wrapping → ℕ → Type 0) (atoms : List Atom) {Y : Type 0} (range : Y → Range) (pattern : Term Variable) (term : Term Y) : Type 0 where
  pub match : Replaced atoms range pattern term
  pub built : (x : Variable) → Built A K (match.by x)

-- A shared instance that is built, by replacements that are built at every variable.
pub record BuiltShare (A : ℕ → Type 0) (K : Wrapping → ℕ → Type 0) (atoms : List Atom) (s t : Term Variable) : Type 0 where
  pub share : Share atoms s t
  pub message : Built A K share.message
  pub left : (x : Variable) → Built A K (share.left.by x)
  pub right : (y : Variable) → Built A K (share.right.by y)

-- Messages over the listed and the foreign atoms alone, with listed keys alone: two right terms share an instance if and
-- only if they share such a one, by such replacements.
abbrev pub MessageAtom : List Atom → ℕ → Type 0
MessageAtom atoms a = (a < length atoms) ⊎ Foreign a
