-- `blocks::check_of` meets its contract: the sums are those of the header and of eight columns for each turn. Assumes nothing.
use mathlib.Core.Path.{◌≡◌, ap, ◌∙◌}
use Prim.Native.Nat.{ℕ, ◌+◌, ◌*◌, ◌%◌}
use native.Mathlib.Omega.{arith}
use Rattle.blocks.specs.Columns.{sum_of, column_sum, column_weighted}
use Rattle.blocks.proofs.ColumnLaws.{sum-split, columns-a, columns-b}
use borrow.Author.Rules.{rules}
use Rattle.blocks.proofs.check_of.Goals as goal

-- Eight columns more.
eight-more : (f : ℕ → ℕ) (header i : ℕ) {s x : ℕ} → s ≡ header + sum_of f (8 * i) → x ≡ sum_of (λ k. f (8 * i + k)) 8
    → s + x ≡ header + sum_of f (8 * (i + 1))
eight-more f header i p q =
    let next : 8 * (i + 1) ≡ 8 * i + 8 = omega arith in
    rw next (omega (arith, sum-split f (8 * i) 8))

pub loop-turn-init : goal.loop-turn-init
unfolding sum_of
loop-turn-init c = search rules

pub loop-turn-preserved : goal.loop-turn-preserved
loop-turn-preserved c =
    let i = c.loop-turn.turn in let inv = c.loop-turn.invariant in let block = c.args.block.now in
    let eight = c.eight_sums-eight.ensures in (
      eight-more (column_sum block) _ i inv.0 eight.a,
      (eight-more (column_weighted block) _ i inv.1.0 eight.b, (omega arith, omega arith)),
    )

pub returns-clause-a : goal.returns-clause-a
returns-clause-a c =
    let all : c.loop-turn.turn ≡ 3 = omega arith in
    ap (λ (n : ℕ). n % 65521) (rw all at c.loop-turn.invariant.0) ∙ columns-a c.args.block.now (omega arith)

pub returns-clause-b : goal.returns-clause-b
returns-clause-b c =
    let all : c.loop-turn.turn ≡ 3 = omega arith in
    ap (λ (n : ℕ). n % 65521) (rw all at c.loop-turn.invariant.1.0) ∙ columns-b c.args.block.now (omega arith)
