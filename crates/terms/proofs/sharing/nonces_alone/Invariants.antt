use mathlib.Core.Path.{◌≡◌}
use mathlib.Core.Bool.{true}
use Prim.Native.Nat.{ℕ, ◌+◌, ◌≤◌, ◌<◌}
use lib.ListN.{get_or}
use Rattle.terms.specs.Slot.{any_slots}
use Rattle.terms.specs.TermGraph.{variable_nodes, right_variables}
use Rattle.terms.proofs.sharing.nonces_alone.Given as goal

abbrev pub invariant-loop-k : goal.invariant-loop-k
invariant-loop-k l = l.alone ≡ true → (j : ℕ) → any_slots ≤ j → j < l.k
    → (get_or l.c (variable_nodes + j) 0 ≡ variable_nodes + j) × (get_or l.c (right_variables + j) 0 ≡ right_variables + j)
