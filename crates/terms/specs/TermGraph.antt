-- The graph of two terms: the entries of one from node 0, of the other from node 64, and the variables of each side as
-- nodes of their own from 128 and from 160. The entry of a variable is found at its variable's node.
use Rattle.std.specs.Prelude.{List, ◌⊎◌, ◌≡◌, ℕ, ◌+◌, ◌*◌, ◌-◌, ◌%◌, ◌<◌, ◌≤◌, ltb, length, get_or, drop}
use Rattle.blocks.specs.Limits.{most_term_bytes}
use Rattle.blocks.specs.Block.{word_at}
use Rattle.terms.specs.Tag.{pair_tag, WrapperTag, variables, Tagged, an_atom, a_pair, a_wrapping, a_variable, no_tag, tagged}
use Rattle.terms.specs.Decisions.{pick}
use Rattle.terms.specs.Slot.{slot_count, slot_in}
use Rattle.terms.specs.Entry.{term_of, size, Begins}
use Rattle.terms.specs.Graph.{Node, free, atom_node, pair_node, wrapper_node, IsSymbol}

-- Where the nodes of the second term's entries begin, those of the first term's variables and of the second's; and how
-- many numbers there are for nodes.
abbrev pub right_nodes : ℕ
right_nodes = 64

abbrev pub variable_nodes : ℕ
variable_nodes = 128

abbrev pub right_variables : ℕ
right_variables = variable_nodes + slot_count

abbrev pub all_nodes : ℕ
all_nodes = 256

-- Tag and value of entry k.
abbrev pub tag_in : List ℕ → ℕ → ℕ
tag_in e k = get_or e (4 * k) 0

abbrev pub value_in : List ℕ → ℕ → ℕ
value_in e k = word_at e (4 * k + 2)

-- The node of an entry of this tag and value: its variable's, or the entry's own.
abbrev pub home_for : {tag : ℕ} → Tagged tag → ℕ → ℕ → ℕ → ℕ
home_for (an_atom e) n slots own = own
home_for (a_pair e) n slots own = own
home_for (a_wrapping w e) n slots own = own
home_for (a_variable s e) n slots own = slots + slot_in s (n % variables)
home_for (no_tag e) n slots own = own

unfoldable pub home_by : ℕ → ℕ → ℕ → ℕ → ℕ
unfolding tagged slot_in
home_by tag n slots own = home_for (tagged tag) n slots own

-- The node of entry k, on the side whose entries' nodes begin at base and whose variables' nodes begin at slots.
unfoldable pub home : List ℕ → ℕ → ℕ → ℕ → ℕ
home e base slots k = home_by (tag_in e k) (value_in e k) slots (base + k)

-- The entry of the right half of a pair at entry k.
unfoldable pub right_in : List ℕ → ℕ → ℕ
right_in e k = k + 1 + size (term_of (drop (4 * (k + 1)) e))

-- What stands at an entry of this tag and value, with these children.
abbrev pub node_for : {tag : ℕ} → Tagged tag → ℕ → ℕ → ℕ → Node
node_for (an_atom e) n l r = atom_node n
node_for (a_pair e) n l r = pair_node l r
node_for (a_wrapping w e) n l r = wrapper_node w n l
node_for (a_variable s e) n l r = free
node_for (no_tag e) n l r = free

unfoldable pub node_by : ℕ → ℕ → ℕ → ℕ → Node
unfolding tagged
node_by tag n l r = node_for (tagged tag) n l r

-- One of three, by the part of the graph that a node lies in.
abbrev pub region : {A : Type 0} → ℕ → A → A → A → A
region i x y z = pick (ltb i right_nodes) x (pick (ltb i variable_nodes) y z)

unfoldable pub node_tag : List ℕ → List ℕ → ℕ → ℕ
node_tag s t i = region i (tag_in s i) (tag_in t (i - right_nodes)) 0

unfoldable pub node_value : List ℕ → List ℕ → ℕ → ℕ
node_value s t i = region i (value_in s i) (value_in t (i - right_nodes)) 0

-- The first child, and the second.
unfoldable pub first_child : List ℕ → List ℕ → ℕ → ℕ
first_child s t i = region i (home s 0 variable_nodes (i + 1)) (home t right_nodes right_variables (i - right_nodes + 1)) 0

unfoldable pub second_child : List ℕ → List ℕ → ℕ → ℕ
second_child s t i = region i (home s 0 variable_nodes (right_in s i)) (home t right_nodes right_variables (right_in t (i - right_nodes))) 0

unfoldable pub node_of : List ℕ → List ℕ → ℕ → Node
node_of s t i = node_by (node_tag s t i) (node_value s t i) (first_child s t i) (second_child s t i)

-- Both lists of entries begin with a term, and have at most 63 entries.
pub record TwoTerms (s t : List ℕ) : Type 0 where
  pub left : Begins s
  pub right : Begins t
  pub left_short : length s ≤ most_term_bytes
  pub right_short : length t ≤ most_term_bytes

-- The size of the term at entry k.
abbrev pub size_in : List ℕ → ℕ → ℕ
size_in e k = size (term_of (drop (4 * k) e))

-- The sizes of the terms at e's entries, entry by entry.
pub record SizesOf (e z : List ℕ) : Type 0 where
  pub inside : (k : ℕ) → 4 * (k + 1) ≤ length e → k < length z
  pub at : (k : ℕ) → 4 * (k + 1) ≤ length e → get_or z k 0 ≡ size_in e k

-- A variable's node, or one where a symbol stands: every entry of a term is found at such a node.
pub record AtHome (s t : List ℕ) (i : ℕ) : Type 0 where
  pub small : i < all_nodes
  pub is : (variable_nodes ≤ i) ⊎ IsSymbol (node_of s t i)

-- The node is an entry's own.
pub record OwnEntry (s t : List ℕ) (i : ℕ) : Type 0 where
  pub low : i < variable_nodes
  pub left : i < right_nodes → 4 * (i + 1) ≤ length s
  pub right : right_nodes ≤ i → 4 * (i - right_nodes + 1) ≤ length t

-- A pair stands at the node, or something around a term.
abbrev pub HasChild : List ℕ → List ℕ → ℕ → Type 0
HasChild s t i = (node_tag s t i ≡ pair_tag) ⊎ WrapperTag (node_tag s t i)
