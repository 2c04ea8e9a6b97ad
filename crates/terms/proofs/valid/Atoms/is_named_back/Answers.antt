-- `terms::valid::Atoms::is_named_back` meets its contract. Assumes nothing.
use Rattle.terms.proofs.AtomLaws.{back-named}
use Rattle.terms.proofs.valid.Atoms.is_named_back.Goals as goal

pub returns-then-partner-other : goal.returns-then-partner-other
returns-then-partner-other c =
    back-named _ _ _ c.at.ensures c.at-partner.ensures c.requires c.if-partner-other.true
