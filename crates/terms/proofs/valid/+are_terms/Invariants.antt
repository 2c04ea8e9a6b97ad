use Prim.Native.Nat.{◌-◌}
use Rattle.terms.proofs.valid.+are_terms.Given as goal

abbrev pub decreases-are_terms : goal.decreases-are_terms
decreases-are_terms l = l.count - l.at
