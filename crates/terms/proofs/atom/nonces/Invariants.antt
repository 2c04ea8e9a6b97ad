use Rattle.terms.specs.Atom.{joined_atoms}
use Rattle.terms.proofs.NonceLaws.{FlaggedTo}
use Rattle.terms.proofs.atom.nonces.Given as goal

abbrev pub invariant-loop-n : goal.invariant-loop-n
invariant-loop-n l = FlaggedTo (joined_atoms l.atoms l.more) l.n l.flags
