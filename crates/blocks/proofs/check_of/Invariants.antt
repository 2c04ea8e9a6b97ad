use mathlib.Core.Path.{◌≡◌}
use Prim.Native.Nat.{◌+◌, ◌*◌, ◌≤◌}
use Rattle.blocks.specs.Block.{byte_at}
use Rattle.blocks.specs.Check.{weight_of}
use Rattle.blocks.specs.Columns.{sum_of, column_sum, column_weighted}
use Rattle.blocks.proofs.check_of.Given as goal

abbrev pub invariant-loop-turn : goal.invariant-loop-turn
invariant-loop-turn l =
    (l.a ≡ sum_of (λ i. byte_at l.block i) 4 + sum_of (column_sum l.block) (8 * l.turn))
    × ((l.b ≡ sum_of (λ i. weight_of i * byte_at l.block i) 4 + sum_of (column_weighted l.block) (8 * l.turn))
    × ((l.a ≤ 1020 + 524280 * l.turn) × (l.b ≤ 516630 + 25165440 * l.turn)))
