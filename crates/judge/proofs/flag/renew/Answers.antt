-- `judge::flag::renew` meets its contract. Assumes nothing.
use Rattle.judge.proofs.Covering.Repeats.{all-forgotten, renewed-gone}
use Rattle.judge.proofs.flag.renew.Goals as goal

pub returns-then-not-keep : goal.returns-then-not-keep
returns-then-not-keep c = renewed-gone _ c.if-not-keep.true all-forgotten
