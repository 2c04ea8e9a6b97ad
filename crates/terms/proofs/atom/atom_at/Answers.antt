-- `terms::atom::atom_at` meets its contract. Assumes nothing.
use mathlib.Core.Path.{◌∙◌}
use Rattle.terms.proofs.AtomLaws.{joined-first, joined-second}
use Rattle.terms.proofs.atom.atom_at.Goals as goal

pub returns-then-n-count : goal.returns-then-n-count
returns-then-n-count c = (c.atom_of.ensures.0 ∙ joined-first _ _ _ c.if-n-count.true, c.atom_of.ensures.1)

pub returns-else-n-count : goal.returns-else-n-count
returns-else-n-count c =
    (c.atom_of-else-n-count.ensures.0 ∙ joined-second _ _ _ c.if-n-count.false, c.atom_of-else-n-count.ensures.1)
