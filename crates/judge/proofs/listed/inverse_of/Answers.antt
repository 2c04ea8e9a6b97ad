-- `judge::listed::inverse_of` meets its contract. Assumes nothing.
use Rattle.judge.specs.File.{certificate_of}
use Rattle.judge.proofs.Stages.Numbers.{inverse-at}
use Rattle.judge.proofs.listed.inverse_of.Goals as goal

pub returns : goal.returns
unfolding certificate_of
returns c = (inverse-at (certificate_of c.args.file.now) _ c.atom_at.ensures.0, c.atom_at.ensures.1)
