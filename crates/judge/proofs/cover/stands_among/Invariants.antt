use Prim.Native.Nat.{ℕ, ◌<◌}
use mathlib.Core.Path.{◌≡◌}
use Rattle.terms.specs.Entry.{term_of}
use Rattle.judge.specs.CoverEntries.{FlaggedWith}
use Rattle.judge.proofs.cover.stands_among.Given as goal

abbrev pub invariant-loop-k : goal.invariant-loop-k
invariant-loop-k l = (j : ℕ) → j < l.k → ¬ FlaggedWith l.e l.flags (λ s. s ≡ term_of l.t) j
