use mathlib.Core.Path.{◌≡◌}
use Rattle.judge.specs.CoverEntries.{sub_at, SomeFlagged}
use Rattle.judge.proofs.Covering.Flags.{ClearedBelow}
use Rattle.judge.proofs.cover.bare_places.Given as goal

abbrev pub invariant-loop-k : goal.invariant-loop-k
invariant-loop-k l = ClearedBelow l.risky l.bare (λ k. SomeFlagged l.premise l.opened (λ s. s ≡ sub_at l.conclusion k)) l.k
