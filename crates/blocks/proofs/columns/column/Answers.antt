-- `blocks::columns::column` meets its contract: after some rows the sums are those of these rows, and small enough to fit.
-- Assumes nothing.
use mathlib.Core.Path.{◌≡◌, ap, ◌∙◌}
use Prim.Native.Nat.{ℕ, ◌+◌, ◌*◌, ◌≤◌}
use native.Mathlib.Nat.{add-mul, mul-add, mul-le-mul}
use native.Mathlib.Omega.{arith}
use Rattle.blocks.specs.Block.{byte_at}
use Rattle.blocks.specs.Columns.{sum_of, place_of, cell, column_sum, column_below}
use Rattle.blocks.proofs.ColumnLaws.{sum_step}
use borrow.Author.Rules.{rules}
use Rattle.blocks.proofs.columns.column.Goals as goal

-- The square of the number of rows, which bounds `below`.
square-small : {n : ℕ} → n ≤ 20 → n * n ≤ 400
square-small h = mul-le-mul h h

square-more : (n : ℕ) → (n + 1) * (n + 1) ≡ n * n + 2 * n + 1
square-more n = omega (arith, add-mul n 1 (n + 1), mul-add n n 1)

pub loop-row-init : goal.loop-row-init
unfolding sum_of
loop-row-init c = search rules

pub overflow_add-below : goal.overflow_add-below
unfolding sum_of
overflow_add-below c = omega (arith, square-small {n = c.loop-row.row} (omega arith))

pub loop-row-preserved : goal.loop-row-preserved
loop-row-preserved c =
    let args = c.args in let column : ℕ → ℕ = cell args.block.now args.k in
    let place : 4 + 24 * c.loop-row.row + args.k ≡ place_of args.k c.loop-row.row = omega arith in
    let byte : c.from-sum.result ≡ column c.loop-row.row = c.from-sum.ensures ∙ ap (byte_at args.block.now) place in (
      sum_step column c.loop-row.row c.loop-row.invariant.0 byte,
      (
        sum_step (sum_of column) c.loop-row.row c.loop-row.invariant.1.0 c.loop-row.invariant.0,
        (search rules, omega (arith, square-more c.loop-row.row)),
      ),
    )

pub returns : goal.returns
unfolding column_sum column_below
returns c =
    let inv = c.loop-row.invariant in let all : c.loop-row.row ≡ 21 = omega arith in record { sum = rw all at inv.0; below = rw all at inv.1.0 }
