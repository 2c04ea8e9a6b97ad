-- The first terms of entries, compared entry by entry: what the walks of matching promise.
use Rattle.std.specs.Prelude.{◌≡◌, List, [], map, ◌↔◌, ℕ, ◌+◌, ◌*◌, ◌≤◌, length, get_or, take, Some, None}
use Rattle.std.proofs.Math.Option.{Option, none, some}
use Rattle.blocks.specs.Limits.{most_term_bytes}
use Rattle.terms.specs.declared.atom.Atom.{Atom}
use Rattle.terms.specs.Term.{Term, Variable, one_nonce, range_of, replace}
use Rattle.terms.specs.Instance.{NonceTerm, PutsNonces}
use Rattle.terms.specs.Tag.{SymbolTag}
use Rattle.terms.specs.Entry.{terms_of, term_of, Reads, Begins, tag_at, value_at, from}
use Rattle.terms.specs.Slot.{in_slot, Held, Bindings}

abbrev pub list_of : Option (List (Term Variable)) → List (Term Variable)
list_of none = []
list_of (some l) = l

-- The first n terms of the entries.
unfoldable pub front_of : ℕ → List ℕ → List (Term Variable)
front_of n e = take n (list_of (terms_of e))

-- The entries are terms, n or more of them.
pub record Front (n : ℕ) (e : List ℕ) : Type 0 where
  pub all : List (Term Variable)
  pub reads : Reads e all
  pub enough : n ≤ length all
  pub room : 4 * n ≤ length e

-- The replacement makes the first n terms of f from those of e.
pub record Takes (by : Variable → Term Variable) (n : ℕ) (e f : List ℕ) : Type 0 where
  pub same : map (replace by) (front_of n e) ≡ front_of n f

-- Both begin with the same entry.
pub record SameFirst (e f : List ℕ) : Type 0 where
  pub tag : tag_at e ≡ tag_at f
  pub value : value_at e ≡ value_at f

-- The first entry as one number: tag, second byte and value.
pub record Word (e : List ℕ) (n : ℕ) : Type 0 where
  pub is : n ≡ tag_at e + 256 * get_or e 1 0 + 65536 * value_at e
  pub low : tag_at e ≤ 255

-- The replacements, one for each side, make the first n terms of both the same.
pub record Alike (by by' : Variable → Term Variable) (n : ℕ) (e f : List ℕ) : Type 0 where
  pub same : map (replace by) (front_of n e) ≡ map (replace by') (front_of n f)

-- With `need` terms to compare, the first `count` entries of both are the same symbols; behind them `left` terms are left.
pub record Ran (need : ℕ) (e f : List ℕ) (count left : ℕ) : Type 0 where
  pub inside : 4 * count ≤ length e
  pub other_inside : 4 * count ≤ length f
  pub front : Front left (from (4 * count) e)
  pub other_front : Front left (from (4 * count) f)
  pub takes : (by : Variable → Term Variable) → Takes by need e f ↔ Takes by left (from (4 * count) e) (from (4 * count) f)
  pub alike : (by by' : Variable → Term Variable) → Alike by by' need e f ↔ Alike by by' left (from (4 * count) e) (from (4 * count) f)

-- It goes on: a term is left, and both go on with the same symbol.
pub record Goes (e f : List ℕ) (count left : ℕ) : Type 0 where
  pub some_left : ¬ (left ≡ 0)
  pub symbol : SymbolTag (tag_at (from (4 * count) e))
  pub same : SameFirst (from (4 * count) e) (from (4 * count) f)

-- Slot i is bound to entry k of t.
abbrev pub Bound : Bindings → ℕ → ℕ → Type 0
Bound bound i k = get_or bound i None ≡ Some k

-- The replacement is the one of the bindings, where a variable is bound.
pub record Agrees (t : List ℕ) (bound : Bindings) (by : Variable → Term Variable) : Type 0 where
  pub held : (i k : ℕ) → Bound bound i k → by (in_slot i) ≡ term_of (from (4 * k) t)

-- Two terms of t can be compared: one that a slot holds, if it holds one, and the one at entry `at`.
pub record Comparable (t : List ℕ) (old : Held) (at : ℕ) : Type 0 where
  pub held : (k : ℕ) → old ≡ Some k → Begins (from (4 * k) t)
  pub here : Begins (from (4 * at) t)
  pub inside : 4 * at ≤ length t

-- The term at entry `at` may be bound in a slot that holds `old`: nothing is bound there, or the same term.
pub record Bindable (t : List ℕ) (old : Held) (at : ℕ) : Type 0 where
  pub same : (k : ℕ) → old ≡ Some k → term_of (from (4 * k) t) ≡ term_of (from (4 * at) t)

-- What the walk may suppose: need terms are left on both sides, and every binding points at a term.
pub record Ready (p t : List ℕ) (at need : ℕ) (bound : Bindings) : Type 0 where
  pub pattern : Front need p
  pub subject : Front need (from (4 * at) t)
  pub held : (i k : ℕ) → Bound bound i k → Begins (from (4 * k) t)
  pub inside : 4 * (at + need) ≤ length t
  pub small : length t ≤ most_term_bytes

-- The term at entry `at` may be put at the variable of slot i.
abbrev pub MayTake : List Atom → ℕ → List ℕ → ℕ → Type 0
MayTake atoms i t at = range_of (in_slot i) ≡ one_nonce → NonceTerm atoms range_of (term_of (from (4 * at) t))

-- Every bound term may be put at its variable.
pub record NoncesBound (atoms : List Atom) (t : List ℕ) (bound : Bindings) : Type 0 where
  pub each : (i k : ℕ) → Bound bound i k → MayTake atoms i t k

-- What the walk says: some replacement that puts nonces at nonce variables and agrees with the bindings makes the first
-- terms of t from its entry `at` on from the first terms of p.
pub record Made (atoms : List Atom) (p t : List ℕ) (at need : ℕ) (bound : Bindings) : Type 0 where
  pub by : Variable → Term Variable
  pub nonces : PutsNonces atoms range_of by
  pub agrees : Agrees t bound by
  pub takes : Takes by need p (from (4 * at) t)
