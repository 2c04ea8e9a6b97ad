use lib.ListN.{length}
use Rattle.terms.proofs.matching.+same_front.Given as goal

abbrev pub decreases-same_front : goal.decreases-same_front
decreases-same_front l = length l.s.now
