-- `terms::valid::Atoms::count` meets its contract. Assumes nothing.
use mathlib.Core.Path.{sym}
use Rattle.terms.proofs.AtomLaws.{joined_length}
use Rattle.terms.proofs.valid.Atoms.count.Goals as goal

pub returns : goal.returns
returns c = sym (joined_length _ _)
