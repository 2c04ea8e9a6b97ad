-- `judge::cover::marked_places` meets its contract. Assumes nothing.
use Rattle.judge.proofs.Covering.Hats.{marked-flags}
use Rattle.judge.proofs.cover.marked_places.Goals as goal

pub returns : goal.returns
returns c = marked-flags c.lay_patterns.ensures
