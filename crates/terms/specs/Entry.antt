-- The entries of a block as terms (document 01, "Term entry").
use Rattle.std.specs.Prelude.{◌≡◌, Bool, true, false, List, [], ◌∷◌, ◌++◌, ℕ, zero, suc, ◌+◌, ◌*◌, ◌/◌, ◌%◌, ◌≤◌, ◌-◌, ltb, length, get_or, drop, take}
use Rattle.std.proofs.Math.Option.{Option, none, some}
use Rattle.blocks.specs.Block.{word_at}
use Rattle.terms.specs.Term.{Term, variable, atom, pair, Variable, named, wrapped, Wrapping}
use Rattle.terms.specs.Place.{left, right, inside, Place, subterm_at}
use Rattle.terms.specs.Tag.{atom_tag, pair_tag, sort_tag, variables, Tagged, an_atom, a_pair, a_wrapping, a_variable, no_tag, tagged, wrapping_tag}

-- What one entry says: an atom, a pair, something around a term, or a variable.
pub data Symbol : Type 0 where
  atom_symbol : ℕ → Symbol
  pair_symbol : Symbol
  wrapper_symbol : Wrapping → ℕ → Symbol
  variable_symbol : Variable → Symbol

-- The tag of an entry.
unfoldable pub tag_of : Symbol → ℕ
unfolding sort_tag
tag_of (atom_symbol a) = atom_tag
tag_of pair_symbol = pair_tag
tag_of (wrapper_symbol w k) = wrapping_tag w
tag_of (variable_symbol (named s x)) = sort_tag s

-- The value: an atom's number, 0 for a pair, the number that goes with what is put around a term (a key's, or 0), a
-- variable's number.
unfoldable pub value_of : Symbol → ℕ
value_of (atom_symbol a) = a
value_of pair_symbol = 0
value_of (wrapper_symbol w k) = k
value_of (variable_symbol (named s x)) = x

-- A term entry: tag, a zero byte, value (two bytes, little-endian).
unfoldable pub entry_of : Symbol → List ℕ
entry_of s = tag_of s ∷ 0 ∷ value_of s % 256 ∷ value_of s / 256 ∷ []

-- The entries of a term: parents before children, left before right.
unfoldable pub term_entries : Term Variable → List ℕ
term_entries (variable x) = entry_of (variable_symbol x)
term_entries (atom a) = entry_of (atom_symbol a)
term_entries (pair t u) = entry_of pair_symbol ++ (term_entries t ++ term_entries u)
term_entries (wrapped w k t) = entry_of (wrapper_symbol w k) ++ term_entries t

-- How many entries a term has.
unfoldable pub size : {X : Type 0} → Term X → ℕ
size (variable x) = 1
size (atom a) = 1
size (pair t u) = 1 + (size t + size u)
size (wrapped w k t) = 1 + size t

-- Reading back: the variable of a number from 0 to 7.
abbrev pub numbered : Bool → Variable → Option Symbol
numbered true x = some (variable_symbol x)
numbered false x = none

-- The symbol of a tag and a value, if there is one.
abbrev pub symbol_by : {tag : ℕ} → Tagged tag → ℕ → Option Symbol
symbol_by (an_atom e) n = some (atom_symbol n)
symbol_by (a_pair e) zero = some pair_symbol
symbol_by (a_pair e) (suc n) = none
symbol_by (a_wrapping w e) n = some (wrapper_symbol w n)
symbol_by (a_variable s e) n = numbered (ltb n variables) (named s n)
symbol_by (no_tag e) n = none

unfoldable pub symbol_of : ℕ → ℕ → Option Symbol
unfolding tagged
symbol_of tag n = symbol_by (tagged tag) n

-- A symbol put before terms takes its children from their front.
unfoldable pub before : Symbol → List (Term Variable) → Option (List (Term Variable))
before (atom_symbol a) l = some (atom a ∷ l)
before (variable_symbol x) l = some (variable x ∷ l)
before pair_symbol [] = none
before pair_symbol (t ∷ []) = none
before pair_symbol (t ∷ u ∷ l) = some (pair t u ∷ l)
before (wrapper_symbol w k) [] = none
before (wrapper_symbol w k) (t ∷ l) = some (wrapped w k t ∷ l)

unfoldable pub before_all : Option Symbol → Option (List (Term Variable)) → Option (List (Term Variable))
before_all none l = none
before_all (some s) none = none
before_all (some s) (some l) = before s l

-- The second byte of an entry is zero.
unfoldable pub with_zero : ℕ → Option Symbol → Option Symbol
with_zero zero s = s
with_zero (suc n) s = none

-- The terms that the entries are, one after the other, if they are terms.
unfoldable pub terms_of : List ℕ → Option (List (Term Variable))
terms_of [] = some []
terms_of (a ∷ []) = none
terms_of (a ∷ b ∷ []) = none
terms_of (a ∷ b ∷ c ∷ []) = none
terms_of (tag ∷ zero_byte ∷ low ∷ high ∷ rest) = before_all (with_zero zero_byte (symbol_of tag (low + 256 * high))) (terms_of rest)

abbrev pub first_of : Option (List (Term Variable)) → Term Variable
first_of none = atom 0
first_of (some []) = atom 0
first_of (some (t ∷ l)) = t

-- The term that the entries begin with (atom 0 where they begin with none).
unfoldable pub term_of : List ℕ → Term Variable
term_of e = first_of (terms_of e)

-- The entries are these terms, one after the other.
pub record Reads (e : List ℕ) (l : List (Term Variable)) : Type 0 where
  pub is : terms_of e ≡ some l

-- The entries begin with a term, and more terms may follow.
pub record Begins (e : List ℕ) : Type 0 where
  pub term : Term Variable
  pub others : List (Term Variable)
  pub reads : Reads e (term ∷ others)
  pub room : 4 ≤ length e

-- Tag and value of the entry that stands first.
abbrev pub tag_at : List ℕ → ℕ
tag_at e = get_or e 0 0

abbrev pub value_at : List ℕ → ℕ
value_at e = word_at e 2

-- The number of the entry at which a place of the term stands: parents before children, left before right.
unfoldable pub entry_at : {X : Type 0} → Place → Term X → ℕ
entry_at [] t = 0
entry_at (left ∷ p) (pair t u) = suc (entry_at p t)
entry_at (right ∷ p) (pair t u) = suc (size t + entry_at p u)
entry_at (inside ∷ p) (wrapped w k t) = suc (entry_at p t)
entry_at (left ∷ p) (variable x) = 0
entry_at (left ∷ p) (atom a) = 0
entry_at (left ∷ p) (wrapped w k t) = 0
entry_at (right ∷ p) (variable x) = 0
entry_at (right ∷ p) (atom a) = 0
entry_at (right ∷ p) (wrapped w k t) = 0
entry_at (inside ∷ p) (variable x) = 0
entry_at (inside ∷ p) (atom a) = 0
entry_at (inside ∷ p) (pair t u) = 0

-- Entry k of the term stands at this place, and this subterm begins there.
pub record Placed {X : Type 0} (t : Term X) (k : ℕ) (place : Place) (subterm : Term X) : Type 0 where
  pub stands : subterm_at place t ≡ some subterm
  pub number : entry_at place t ≡ k

-- The entries from byte n on, as a part `&e[n..]` has them.
abbrev pub from : ℕ → List ℕ → List ℕ
from n e = take (length e - n) (drop n e)
