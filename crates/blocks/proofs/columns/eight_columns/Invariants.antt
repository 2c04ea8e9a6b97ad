use mathlib.Core.Path.{◌≡◌}
use Prim.Native.Nat.{◌+◌}
use lib.ListN.{length}
use Rattle.blocks.specs.Columns.{FirstOf, column_sum, column_below}
use Rattle.blocks.proofs.columns.eight_columns.Given as goal

abbrev pub invariant-loop-k : goal.invariant-loop-k
invariant-loop-k l =
    ((length l.sums ≡ 8) × (length l.below ≡ 8))
    × (FirstOf l.k (λ i. column_sum l.block (l.from + i)) l.sums × FirstOf l.k (λ i. column_below l.block (l.from + i)) l.below)
