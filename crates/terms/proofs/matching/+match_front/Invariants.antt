use lib.ListN.{length}
use Rattle.terms.proofs.matching.+match_front.Given as goal

abbrev pub decreases-match_front : goal.decreases-match_front
decreases-match_front l = length l.p.now
