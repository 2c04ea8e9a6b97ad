-- `terms::entry::sizes` meets its contract. Assumes nothing.
use Rattle.terms.proofs.SizeLaws.{sizes-filled}
use Rattle.terms.proofs.entry.sizes.Goals as goal

pub returns : goal.returns
returns c = sizes-filled c.fill_sizes.ensures.0
