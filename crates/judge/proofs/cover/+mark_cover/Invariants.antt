use lib.ListN.{length}
use Rattle.judge.proofs.cover.+mark_cover.Given as goal

abbrev pub decreases-mark_cover : goal.decreases-mark_cover
decreases-mark_cover l = length l.p.now
