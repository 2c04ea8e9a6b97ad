-- `judge::cover::index_of` meets its contract: the flagged entries before entry k are noted. Assumes nothing.
use Rattle.judge.proofs.Covering.Indexes.{index-none}
use Rattle.judge.proofs.cover.index_of.Goals as goal

pub loop-k-init : goal.loop-k-init
loop-k-init c = index-none
