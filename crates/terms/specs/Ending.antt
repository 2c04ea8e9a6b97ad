-- The test whether every way down over the classes comes to an end: a walk goes down once from every class and marks it, open
-- while the walk is below it and ended once every way down from it has ended. A way that leads back to an open class never ends.
use Rattle.std.specs.Prelude.{◌≡◌, Bool, true, false, List, [], ◌∷◌, ℕ, ◌+◌, ◌<◌, ◌≤◌, get_or}
use Rattle.terms.specs.declared.ending.Mark.{Mark}
use Rattle.terms.specs.declared.ending.Mark.TheVariants.{Unmet, Open, Ended}
use Rattle.terms.specs.Term.{Message}
use Rattle.terms.specs.Entry.{size}
use Rattle.terms.specs.Graph.{Child, Valid, Respects, Finite}
use Rattle.terms.specs.TermGraph.{variable_nodes, node_of}
use Rattle.terms.specs.Names.{name_of}

-- Every way down from the children of node a ends.
pub record ChildrenEnd (s t c : List ℕ) (a : ℕ) : Type 0 where
  pub child : (j : ℕ) → Child j (node_of s t a) → Finite (node_of s t) (name_of c) j

-- Every way down from node k ends, if it has children.
pub record ParentEnds (s t c : List ℕ) (k : ℕ) : Type 0 where
  pub parent : (j : ℕ) → Child j (node_of s t k) → Finite (node_of s t) (name_of c) k

-- A class's mark.
abbrev pub mark_of : List Mark → ℕ → Mark
mark_of m a = get_or m a Unmet

-- From every class marked as ended all ways down end.
pub record Sound (s t c : List ℕ) (m : List Mark) : Type 0 where
  pub ends : (a : ℕ) → a < variable_nodes → mark_of m a ≡ Ended → ChildrenEnd s t c a

-- Node i is below every open class: a valid valuation that respects the classes gives it a smaller message.
pub record Below (s t c : List ℕ) (m : List Mark) (i : ℕ) : Type 0 where
  pub smaller : (v : ℕ → Message) → Valid (node_of s t) v → Respects (name_of c) v → (a : ℕ) → a < variable_nodes → mark_of m a ≡ Open → size (v i) < size (v a)

-- Every child of node a is below every open class.
pub record ChildrenBelow (s t c : List ℕ) (m : List Mark) (a : ℕ) : Type 0 where
  pub child : (j : ℕ) → Child j (node_of s t a) → Below s t c m j

-- How many are not met.
abbrev not_met : Mark → ℕ
not_met Unmet = 1
not_met Open = 0
not_met Ended = 0

unfoldable pub unmet : List Mark → ℕ
unmet [] = 0
unmet (x ∷ m) = not_met x + unmet m

-- The marks n after a walk that began with the marks m: sound, no more that are not met, and no class open that was not before.
pub record MarksKept (s t c : List ℕ) (m n : List Mark) : Type 0 where
  pub sound : Sound s t c n
  pub fewer : unmet n ≤ unmet m
  pub open_before : (a : ℕ) → a < variable_nodes → mark_of n a ≡ Open → mark_of m a ≡ Open

-- The answer r of a walk: yes, and what it looked for, P, holds; no, and no valid valuation respects the classes.
pub record Walked (s t c : List ℕ) (m n : List Mark) (P : Type 0) (r : Bool) : Type 0 where
  pub ends : r ≡ true → P × MarksKept s t c m n
  pub never : r ≡ false → (v : ℕ → Message) → Valid (node_of s t) v → Respects (name_of c) v → ⊥

-- P holds from `low` up to `high`.
pub record EachFrom (P : ℕ → Type 0) (low high : ℕ) : Type 0 where
  pub each : (k : ℕ) → low ≤ k → k < high → P k
