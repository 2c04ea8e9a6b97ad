-- `judge::cover::asked_places` meets its contract. Assumes nothing.
use Rattle.judge.proofs.Covering.Covers.{asked-flags, unasked-flags}
use Rattle.judge.proofs.cover.asked_places.Goals as goal

pub returns-then-asked : goal.returns-then-asked
returns-then-asked c = asked-flags c.if-asked.true c.risky_places.ensures

pub returns-else-asked : goal.returns-else-asked
returns-else-asked c = unasked-flags c.if-asked.false
