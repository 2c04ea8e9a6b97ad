-- How the names of two classes meet, a above b.
use Rattle.std.specs.Prelude.{◌≡◌, false, List, ◌⊎◌, ℕ, ◌≤◌}
use Rattle.terms.specs.declared.classes.How.{How}
use Rattle.terms.specs.declared.classes.How.TheVariants.{Free, Differ, Atoms, Wrappers, Pairs}
use Rattle.terms.specs.Tag.{pair_tag, WrapperTag, free_tag}
use Rattle.terms.specs.TermGraph.{variable_nodes, node_tag, node_value}

-- Both nodes are symbols.
pub record Symbols (s t : List ℕ) (a b : ℕ) : Type 0 where
  pub left : free_tag (node_tag s t a) ≡ false
  pub right : free_tag (node_tag s t b) ≡ false

-- What each answer says of the nodes a and b: a is a variable's; or both are symbols, which differ, or are equal atoms,
-- the same around a term each, or pairs.
abbrev pub MeetAs : List ℕ → List ℕ → ℕ → ℕ → How → Type 0
MeetAs s t a b Free = variable_nodes ≤ a
MeetAs s t a b Differ =
    Symbols s t a b × ((node_tag s t a ≡ node_tag s t b → ⊥) ⊎
    ((node_tag s t a ≡ node_tag s t b) × (node_tag s t a ≡ pair_tag → ⊥) × (node_value s t a ≡ node_value s t b → ⊥)))
MeetAs s t a b Atoms =
    Symbols s t a b × (node_tag s t a ≡ node_tag s t b) × (node_tag s t a ≡ pair_tag → ⊥) × ¬ WrapperTag (node_tag s t a)
    × (node_value s t a ≡ node_value s t b)
MeetAs s t a b Wrappers = Symbols s t a b × (node_tag s t a ≡ node_tag s t b) × WrapperTag (node_tag s t a) × (node_value s t a ≡ node_value s t b)
MeetAs s t a b Pairs = Symbols s t a b × (node_tag s t a ≡ node_tag s t b) × (node_tag s t a ≡ pair_tag)
