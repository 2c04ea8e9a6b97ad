-- `blocks::columns::eight_sums` meets its contract. Assumes nothing.
use mathlib.Core.Path.{◌≡◌, ◌∙◌}
use mathlib.Core.List.{List}
use Prim.Native.Nat.{ℕ, ◌+◌, ◌-◌, ◌*◌, ◌≤◌}
use native.Mathlib.Nat.{add-mul, mul-add}
use native.Mathlib.Numerals.{add-one}
use native.Mathlib.Omega.{arith}
use Rattle.blocks.specs.Columns.{sum_of, column_sum, column_below, column_weighted}
use Rattle.blocks.proofs.ColumnLaws.{sum_step, column-weights}
use borrow.Author.Rules.{rules}
use Rattle.blocks.proofs.columns.eight_sums.Goals as goal

-- A column more of the eight, where all of them still lack what the columns behind them weigh.
eight-step : (b : List ℕ) (from k a s : ℕ) {sum below : ℕ} → from ≤ 16 → k ≤ 8
    → s + (16 - from) * a ≡ sum_of (λ i. column_weighted b (from + i)) k
    → sum ≡ column_sum b (from + k) → below ≡ column_below b (from + k)
    → s + (24 * below + (8 - k) * sum) + (16 - from) * (a + sum) ≡ sum_of (λ i. column_weighted b (from + i)) (k + 1)
unfolding sum_of
eight-step b from k a s {sum} {below} few h p q r =
    let here : column_weighted b (from + k) ≡ 24 * below + (24 - (from + k)) * sum =
    rw (q, r) (column-weights b (from + k) (omega arith)) in
    let apart : 24 - (from + k) ≡ 8 - k + (16 - from) = omega arith in
    rw (add-one k) (omega (arith, rw apart at here, add-mul (8 - k) (16 - from) sum, mul-add (16 - from) a sum))

pub loop-k-init : goal.loop-k-init
unfolding sum_of
loop-k-init c = search rules

pub loop-k-preserved : goal.loop-k-preserved
loop-k-preserved c =
    let args = c.args in let eight = c.eight_columns-columns.ensures in let k = c.loop-k.k in
    let sum = c.from-sum.ensures ∙ eight.sums k (omega arith) in
    let below = c.from.ensures ∙ eight.below k (omega arith) in (
      sum_step (λ i. column_sum args.block.now (args.from + i)) k c.loop-k.invariant.0 sum,
      (
        eight-step args.block.now args.from k c.loop-k.a c.loop-k.b (omega arith) (omega arith) c.loop-k.invariant.1.0 sum below,
        (search rules, search rules),
      ),
    )
