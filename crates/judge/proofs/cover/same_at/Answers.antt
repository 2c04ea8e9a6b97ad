-- `judge::cover::same_at` meets its contract. Assumes nothing.
use native.Mathlib.Omega.{arith}
use Rattle.judge.proofs.Covering.Covers.{begins-at}
use Rattle.judge.proofs.cover.same_at.Goals as goal

pub same-requires : goal.same-requires
same-requires c = let pre = c.requires in (begins-at _ (pre.0.entries.some_term (omega arith)) pre.1, pre.2)
