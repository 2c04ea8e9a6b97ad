use Prim.Native.Nat.{ℕ, ◌*◌, ◌≤◌, ◌<◌}
use lib.ListN.{get_or}
use Rattle.terms.specs.Tag.{MarkedTag}
use Rattle.judge.proofs.listed.has_mark.Given as goal

abbrev pub invariant-loop-k : goal.invariant-loop-k
invariant-loop-k l = (j : ℕ) → l.low ≤ j → j < l.k → ¬ MarkedTag (get_or l.e (4 * j) 0)
