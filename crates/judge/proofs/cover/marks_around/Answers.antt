-- `judge::cover::marks_around` meets its contract. Assumes nothing.
use Rattle.judge.proofs.Covering.Hats.{marked-flags}
use Rattle.judge.proofs.cover.marks_around.Goals as goal

pub returns : goal.returns
returns c = marked-flags c.mark_around.ensures.flags
