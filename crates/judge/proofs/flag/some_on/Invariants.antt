use Prim.Native.Nat.{ℕ, ◌≤◌, ◌<◌}
use Rattle.judge.specs.CoverEntries.{On}
use Rattle.judge.proofs.flag.some_on.Given as goal

abbrev pub invariant-loop-k : goal.invariant-loop-k
invariant-loop-k l = (j : ℕ) → l.low ≤ j → j < l.k → ¬ On l.flags j
