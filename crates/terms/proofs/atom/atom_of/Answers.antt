-- `terms::atom::atom_of` meets its contract. Assumes nothing.
use native.Mathlib.Omega.{arith}
use Rattle.terms.proofs.AtomLaws.{atom-none, atom-entry}
use Rattle.terms.proofs.atom.atom_of.Goals as goal

pub returns-then-atoms-n : goal.returns-then-atoms-n
returns-then-atoms-n c = let zero = c.default.ensures in (atom-none _ _ c.if-atoms-n.true zero.0 zero.1.0 zero.1.1, omega arith)

pub returns : goal.returns
returns c = (atom-entry _ _ c.if-atoms-n.false c.value.ensures.0, c.value.ensures.1)
