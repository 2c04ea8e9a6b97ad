use mathlib.Core.Path.{◌≡◌}
use Prim.Native.Nat.{◌+◌, ◌-◌, ◌*◌, ◌≤◌}
use Rattle.blocks.specs.Columns.{sum_of, column_sum, column_weighted}
use Rattle.blocks.proofs.columns.eight_sums.Given as goal

abbrev pub invariant-loop-k : goal.invariant-loop-k
invariant-loop-k l =
    (l.a ≡ sum_of (λ i. column_sum l.block (l.from + i)) l.k)
    × ((l.b + (16 - l.from) * l.a ≡ sum_of (λ i. column_weighted l.block (l.from + i)) l.k)
    × ((l.a ≤ 65535 * l.k) × (l.b ≤ 2097120 * l.k)))
