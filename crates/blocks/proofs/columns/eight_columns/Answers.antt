-- `blocks::columns::eight_columns` meets its contract: the first k sums of either kind are those of k columns. Assumes nothing.
use mathlib.Core.Path.{◌≡◌, ◌∙◌}
use mathlib.Core.List.{List}
use Prim.Native.Nat.{ℕ, ◌+◌, ◌<◌}
use native.Mathlib.Nat.{not-suc-le-zero}
use native.Mathlib.Decide.{ℕ_discrete}
use native.Mathlib.Omega.{arith}
use lib.ListN.{length, get_or, set, length-set}
use lib.Seq.{get_or-set_same, get_or-set_other}
use Rattle.blocks.specs.Columns.{FirstOf, column_sum, column_below}
use borrow.Author.Rules.{rules}
use Rattle.blocks.proofs.columns.eight_columns.Goals as goal

-- A list is filled by one.
first_step : (f : ℕ → ℕ) (l : List ℕ) (n : ℕ) {x : ℕ} → n < length l → FirstOf n f l → x ≡ f n
    → FirstOf (n + 1) f (set l n x)
first_step f l n {x} inside first p i h = go (ℕ_discrete i n)
  where
    go : Dec (i ≡ n) → get_or (set l n x) i 0 ≡ f i
    go (yes e) = rw e (get_or-set_same l n x 0 inside ∙ p)
    go (no d) = get_or-set_other l n i x 0 d ∙ first i (omega arith)

pub loop-k-init : goal.loop-k-init
loop-k-init c = (
  (search rules, search rules),
  (λ i h. absurd (not-suc-le-zero h), λ i h. absurd (not-suc-le-zero h)),
)

pub loop-k-preserved : goal.loop-k-preserved
loop-k-preserved c =
    let args = c.args in let long = c.loop-k.invariant.0 in let sum : ℕ → ℕ = λ i. column_sum args.block.now (args.from + i) in
    let below : ℕ → ℕ = λ i. column_below args.block.now (args.from + i) in (
      (simp length-set long.0, simp length-set long.1),
      (
        first_step sum c.loop-k.sums c.loop-k.k (omega arith) c.loop-k.invariant.1.0 c.column-one.ensures.sum,
        first_step below c.loop-k.below c.loop-k.k (omega arith) c.loop-k.invariant.1.1 c.column-one.ensures.below,
      ),
    )

pub returns : goal.returns
returns c =
    let inv = c.loop-k.invariant in let all : c.loop-k.k ≡ 8 = omega arith in record { sums = rw all at inv.1.0; below = rw all at inv.1.1 }
