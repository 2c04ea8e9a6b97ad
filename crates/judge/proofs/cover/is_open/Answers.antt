-- `judge::cover::is_open` meets its contract. Assumes nothing.
use Rattle.judge.proofs.Covering.Covers.{flagged-begins}
use Rattle.judge.proofs.cover.is_open.Goals as goal

pub stands_at-requires : goal.stands_at-requires
stands_at-requires c = let pre = c.requires in (pre.0, pre.3, flagged-begins _ pre.1 pre.2)
