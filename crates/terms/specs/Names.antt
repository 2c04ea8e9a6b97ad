-- The classes in an array of 256 bytes: every node leads to a lower node of its class, and the lowest names the class.
use Rattle.std.specs.Prelude.{◌≡◌, Bool, true, false, List, [], ◌∷◌, ◌⊎◌, ℕ, zero, suc, ◌+◌, ◌<◌, eqb, length, get_or}
use Rattle.terms.specs.TermGraph.{all_nodes, AtHome}

-- Where node i leads; a node past the array leads to itself.
abbrev pub link_of : List ℕ → ℕ → ℕ
link_of c i = get_or c i i

-- The node that n links lead to.
unfoldable pub links_on : ℕ → List ℕ → ℕ → ℕ
links_on zero c i = i
links_on (suc n) c i = links_on n c (link_of c i)

-- The name of node i's class: no way has 256 links.
unfoldable pub name_of : List ℕ → ℕ → ℕ
name_of c i = links_on all_nodes c i

-- Every node leads to itself, or to a lower one that is a variable's node or a symbol's.
pub record Linked (s t c : List ℕ) : Type 0 where
  pub long : length c ≡ all_nodes
  pub falls : (i : ℕ) → (link_of c i ≡ i) ⊎ ((link_of c i < i) × AtHome s t (link_of c i))

-- How many nodes from i on lead to themselves: how many classes there are.
abbrev one : Bool → ℕ
one true = 1
one false = 0

unfoldable pub count_from : ℕ → List ℕ → ℕ
count_from i [] = 0
count_from i (x ∷ c) = one (eqb x i) + count_from (suc i) c

unfoldable pub class_count : List ℕ → ℕ
class_count c = count_from 0 c
