use Prim.Native.Nat.{ℕ, ◌<◌}
use Rattle.judge.specs.CoverEntries.{On}
use Rattle.judge.proofs.flag.first_on.Given as goal

abbrev pub invariant-loop-k : goal.invariant-loop-k
invariant-loop-k l = (j : ℕ) → j < l.k → ¬ On l.flags j
