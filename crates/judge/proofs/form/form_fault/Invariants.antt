use mathlib.Core.Path.{◌≡◌}
use Prim.Native.Nat.{ℕ, ◌-◌, ◌<◌}
use Rattle.blocks.specs.Block.{block_at, Fitting}
use Rattle.judge.specs.File.{block_count}
use Rattle.judge.specs.Verdict.{block_fault, first_fault, form_fault}
use Rattle.judge.proofs.form.form_fault.Given as goal

abbrev pub invariant-loop-i : goal.invariant-loop-i
invariant-loop-i l =
    (first_fault (block_fault l.file) l.i (block_count l.file - l.i) ≡ form_fault l.file) × ((j : ℕ) → j < l.i → Fitting (block_at l.file j))
