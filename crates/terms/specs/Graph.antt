-- Two terms as one graph of nodes, and classes of nodes that must get equal messages: what the steps of the test for a
-- shared instance promise. A node is a number; a class is named by one of its own nodes.
use Rattle.std.specs.Prelude.{◌≡◌, ◌⊎◌, Bool, true, false, List, ℕ}
use Rattle.terms.specs.declared.atom.Atom.{Atom}
use Rattle.terms.specs.Atom.{Nonce}
use Rattle.terms.specs.Term.{atom, pair, Message, wrapped, Wrapping}

-- What stands at a node: a free node (a variable, or nothing), or a symbol with its children's nodes.
pub data Node : Type 0 where
  free : Node
  atom_node : ℕ → Node
  pair_node : ℕ → ℕ → Node
  wrapper_node : Wrapping → ℕ → ℕ → Node

abbrev pub IsSymbol : Node → Type 0
IsSymbol free = ⊥
IsSymbol (atom_node a) = Unit {0}
IsSymbol (pair_node l r) = Unit {0}
IsSymbol (wrapper_node w k c) = Unit {0}

-- What may stand at a node whose class holds a nonce variable (02, No. 3): no symbol but a nonce.
abbrev pub NonceNode : List Atom → Node → Type 0
NonceNode atoms free = Unit {0}
NonceNode atoms (atom_node a) = Nonce atoms a
NonceNode atoms (pair_node l r) = ⊥
NonceNode atoms (wrapper_node w k c) = ⊥

-- The message that a node's symbol makes of its children's messages; a free node gets a foreign atom.
unfoldable pub made : (ℕ → Message) → Node → Message
made v free = atom 1000
made v (atom_node a) = atom a
made v (pair_node l r) = pair (v l) (v r)
made v (wrapper_node w k c) = wrapped w k (v c)

-- A child of a node.
abbrev pub Child : ℕ → Node → Type 0
Child i free = ⊥
Child i (atom_node a) = ⊥
Child i (pair_node l r) = (i ≡ l) ⊎ (i ≡ r)
Child i (wrapper_node w k c) = i ≡ c

-- A valuation gives each node a message. It is valid if every symbol node gets what it makes.
pub record Valid (node : ℕ → Node) (v : ℕ → Message) : Type 0 where
  pub makes : (i : ℕ) → IsSymbol (node i) → v i ≡ made v (node i)

-- It respects the classes if every node gets what its class's name gets.
pub record Respects (name : ℕ → ℕ) (v : ℕ → Message) : Type 0 where
  pub same : (i : ℕ) → v i ≡ v (name i)

-- The classes are closed for it if every symbol node makes what its class's name makes.
pub record ClosedFor (node : ℕ → Node) (name : ℕ → ℕ) (v : ℕ → Message) : Type 0 where
  pub makes : (i : ℕ) → IsSymbol (node i) → made v (node i) ≡ made v (node (name i))

-- Names name themselves, and a symbol node's class is named by a symbol node.
pub record Classes (node : ℕ → Node) (name : ℕ → ℕ) : Type 0 where
  pub named : (i : ℕ) → name (name i) ≡ name i
  pub kept : (i : ℕ) → IsSymbol (node i) → IsSymbol (node (name i))

-- A step took the classes `name` to the classes `next`, in which the equations P hold: what respects the old classes
-- and meets P respects the new ones, and the other way round. Q is what the step may suppose of a valuation to say that
-- P holds.
pub record ClassStep (node : ℕ → Node) (Q : (ℕ → Message) → Type 0) (name next : ℕ → ℕ) (P : (ℕ → Message) → Type 0) : Type 0 where
  pub classes : Classes node next
  pub forth : (v : ℕ → Message) → Valid node v → Respects name v → P v → Respects next v
  pub back : (v : ℕ → Message) → Respects next v → Respects name v
  pub holds : (v : ℕ → Message) → Respects next v → Q v → P v
  pub closes : (v : ℕ → Message) → Respects next v → ClosedFor node name v → ClosedFor node next v

-- No valid valuation that respects the classes meets P.
pub record Clash (node : ℕ → Node) (name : ℕ → ℕ) (P : (ℕ → Message) → Type 0) : Type 0 where
  pub never : (v : ℕ → Message) → Valid node v → Respects name v → P v → ⊥

-- The answer r of a step: yes, and the step was made; no, and there is a clash.
pub record Outcome (node : ℕ → Node) (Q : (ℕ → Message) → Type 0) (name next : ℕ → ℕ) (P : (ℕ → Message) → Type 0) (r : Bool) : Type 0 where
  pub stepped : r ≡ true → ClassStep node Q name next P
  pub clashed : r ≡ false → Clash node name P

-- A node from which every way down over the classes ends.
pub data Finite (node : ℕ → Node) (name : ℕ → ℕ) : ℕ → Type 0 where
  finite : {i : ℕ} → ((j : ℕ) → Child j (node (name i)) → Finite node name j) → Finite node name i

-- Nothing is supposed of a valuation.
abbrev pub Any : (ℕ → Message) → Type 0
Any v = Unit {0}
