-- `terms::atom::nonces` meets its contract. Assumes nothing.
use native.Mathlib.Omega.{arith}
use Rattle.terms.proofs.AtomLaws.{joined_length}
use Rattle.terms.proofs.NonceLaws.{no-flags, all-flagged}
use Rattle.terms.proofs.atom.nonces.Goals as goal

pub loop-n-init : goal.loop-n-init
loop-n-init c = no-flags _

pub returns : goal.returns
returns c = let a = c.args in all-flagged c.loop-n.invariant (omega (arith, joined_length a.atoms.now a.more.now)) (omega arith)
