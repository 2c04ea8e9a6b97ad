use mathlib.Core.Path.{◌≡◌}
use Prim.Native.Nat.{◌*◌, ◌≤◌}
use Rattle.blocks.specs.Columns.{sum_of, cell}
use Rattle.blocks.proofs.columns.column.Given as goal

abbrev pub invariant-loop-row : goal.invariant-loop-row
invariant-loop-row l =
    (l.sum ≡ sum_of (cell l.block l.k) l.row)
    × ((l.below ≡ sum_of (sum_of (cell l.block l.k)) l.row)
    × ((l.sum ≤ 255 * l.row) × (2 * l.below ≤ 255 * (l.row * l.row))))
