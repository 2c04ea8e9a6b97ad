use Prim.Native.Nat.{ℕ, ◌<◌}
use Rattle.judge.specs.File.{certificate_of}
use Rattle.judge.specs.Listed.{IsSecret}
use Rattle.judge.specs.CoverEntries.{FlaggedWith}
use Rattle.judge.proofs.cover.first_secret.Given as goal

abbrev pub invariant-loop-k : goal.invariant-loop-k
invariant-loop-k l = (j : ℕ) → j < l.k → ¬ FlaggedWith l.e l.opened (IsSecret (certificate_of l.tables.file.now)) j
