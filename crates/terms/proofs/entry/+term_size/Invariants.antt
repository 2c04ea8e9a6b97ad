use lib.ListN.{length}
use Rattle.terms.proofs.entry.+term_size.Given as goal

abbrev pub decreases-term_size : goal.decreases-term_size
decreases-term_size l = length l.e.now
