-- `terms::entry::end_of` meets its contract. Assumes nothing.
use native.Mathlib.Omega.{arith}
use Rattle.terms.proofs.SizeLaws.{size-at}
use Rattle.terms.proofs.entry.end_of.Goals as goal

pub returns : goal.returns
returns c =
    let s = size-at c.args.h c.requires.0 c.requires.1 c.wide.ensures.0 in (let is = s.0 in omega arith, s.1)
