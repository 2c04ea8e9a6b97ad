use Prim.Native.Nat.{ℕ, ◌≤◌, ◌*◌}
use lib.ListN.{get_or}
use Rattle.terms.specs.Tag.{MarkedTag}
use Rattle.judge.proofs.listed.last_mark.Given as goal

abbrev pub invariant-loop-last : goal.invariant-loop-last
invariant-loop-last l = (k : ℕ) → l.last ≤ k → ¬ MarkedTag (get_or l.e (4 * k) 0)
