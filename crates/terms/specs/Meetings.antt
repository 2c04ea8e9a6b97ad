-- Two terms walked side by side: where a variable stands on either side, the two entries are noted, in the array m.
use Rattle.std.specs.Prelude.{◌≡◌, List, Option, Some, None, ◌↔◌, ℕ, ◌+◌, ◌*◌, ◌<◌, ◌≤◌, length, get_or}
use Rattle.blocks.specs.Limits.{most_term_entries}
use Rattle.terms.specs.declared.sharing.Beside.{Beside}
use Rattle.terms.specs.Term.{Term, Message, Variable, replace}
use Rattle.terms.specs.Tag.{SymbolTag}
use Rattle.terms.specs.Entry.{term_of, tag_at, from}
use Rattle.terms.specs.declared.atom.Atom.{Atom}
use Rattle.terms.specs.Slot.{slot_count, any_slots, slot_of}
use Rattle.terms.specs.Graph.{NonceNode}
use Rattle.terms.specs.Front.{Front, SameFirst, Alike}
use Rattle.terms.specs.TermGraph.{right_nodes, variable_nodes, right_variables, home, node_of}

-- Both begin with symbols, and not with the same one.
pub record RootsDiffer (s t : List ℕ) : Type 0 where
  pub left : SymbolTag (tag_at s)
  pub right : SymbolTag (tag_at t)
  pub differ : ¬ SameFirst s t

-- The k-th noted entry of the first term, and of the second.
abbrev pub left_noted : List Beside → ℕ → ℕ
left_noted m k = (get_or m k (record { i = 0; j = 0 })).i

abbrev pub right_noted : List Beside → ℕ → ℕ
right_noted m k = (get_or m k (record { i = 0; j = 0 })).j

-- n entries of each side are noted.
pub record Noted (s t : List ℕ) (m : List Beside) (n : ℕ) : Type 0 where
  pub few : n ≤ most_term_entries
  pub left : (k : ℕ) → k < n → 4 * (left_noted m k + 1) ≤ length s
  pub right : (k : ℕ) → k < n → 4 * (right_noted m k + 1) ≤ length t

-- Those of the first side alone.
pub record NotedIn (s : List ℕ) (m : List Beside) (n : ℕ) : Type 0 where
  pub few : n ≤ most_term_entries
  pub inside : (k : ℕ) → k < n → 4 * (left_noted m k + 1) ≤ length s

-- The slot of the term at the k-th noted entry of the first side: its variable's, or 32.
abbrev pub noted_slot : List ℕ → List Beside → ℕ → ℕ
noted_slot s m k = slot_of (term_of (from (4 * left_noted m k) s))

-- Variables for any message stand at the first n noted entries of the first side, each another one.
pub record Distinct (s : List ℕ) (m : List Beside) (n : ℕ) : Type 0 where
  pub variables : (k : ℕ) → k < n → noted_slot s m k < any_slots
  pub apart : (j k : ℕ) → j < k → k < n → ¬ (noted_slot s m j ≡ noted_slot s m k)

-- The replacements, one for each side, make the terms at entries i and j the same.
pub record Same (by by' : Variable → Term Variable) (s t : List ℕ) (i j : ℕ) : Type 0 where
  pub same : replace by (term_of (from (4 * i) s)) ≡ replace by' (term_of (from (4 * j) t))

-- And so the first n noted ones, two and two.
pub record AllSame (by by' : Variable → Term Variable) (s t : List ℕ) (m : List Beside) (n : ℕ) : Type 0 where
  pub each : (k : ℕ) → k < n → Same by by' s t (left_noted m k) (right_noted m k)

-- The walk has come to entries i and j, with `need` terms left: the two terms become the same just where the noted entries do
-- and the terms left do.
pub record Walking (s t : List ℕ) (m : List Beside) (n i j need : ℕ) : Type 0 where
  pub noted : Noted s t m n
  pub passed : n ≤ i
  pub inside : 4 * i ≤ length s
  pub other_inside : 4 * j ≤ length t
  pub front : Front need (from (4 * i) s)
  pub other_front : Front need (from (4 * j) t)
  pub same : (by by' : Variable → Term Variable)
      → (replace by (term_of s) ≡ replace by' (term_of t)) ↔ (AllSame by by' s t m n × Alike by by' need (from (4 * i) s) (from (4 * j) t))

-- Entries i and j are not the same symbol.
pub record Stops (s t : List ℕ) (i j : ℕ) : Type 0 where
  pub differ : SymbolTag (tag_at (from (4 * i) s)) → ¬ SameFirst (from (4 * i) s) (from (4 * j) t)

-- The two terms become the same just where the noted entries do.
pub record Reduced (s t : List ℕ) (m : List Beside) (n : ℕ) : Type 0 where
  pub noted : Noted s t m n
  pub same : (by by' : Variable → Term Variable) → (replace by (term_of s) ≡ replace by' (term_of t)) ↔ AllSame by by' s t m n

-- What the walk says at its end: the terms are apart, or so many entries are noted.
abbrev pub WalkSays : List ℕ → List ℕ → List Beside → Option ℕ → Type 0
WalkSays s t m None = (by by' : Variable → Term Variable) → ¬ (replace by (term_of s) ≡ replace by' (term_of t))
WalkSays s t m (Some n) = Reduced s t m n

-- A valuation gives the nodes of the first n noted entries equal messages, two and two.
abbrev pub AllEqual : List ℕ → List ℕ → List Beside → ℕ → (ℕ → Message) → Type 0
AllEqual s t m n v = (k : ℕ) → k < n → v (home s 0 variable_nodes (left_noted m k)) ≡ v (home t right_nodes right_variables (right_noted m k))

-- The class of every nonce variable is named by a variable or by a nonce: on the side whose variables' nodes begin at `slots`;
-- on both sides.
abbrev pub SideKeeps : List Atom → List ℕ → List ℕ → (ℕ → ℕ) → ℕ → Type 0
SideKeeps atoms s t name slots = (k : ℕ) → any_slots ≤ k → k < slot_count → NonceNode atoms (node_of s t (name (slots + k)))

pub record NoncesKept (atoms : List Atom) (s t : List ℕ) (name : ℕ → ℕ) : Type 0 where
  pub left : SideKeeps atoms s t name variable_nodes
  pub right : SideKeeps atoms s t name right_variables

-- Every nonce variable names its own class.
pub record NoncesAlone (name : ℕ → ℕ) : Type 0 where
  pub left : (k : ℕ) → any_slots ≤ k → k < slot_count → name (variable_nodes + k) ≡ variable_nodes + k
  pub right : (k : ℕ) → any_slots ≤ k → k < slot_count → name (right_variables + k) ≡ right_variables + k
