-- `blocks::counts_right` meets its contract: a byte that names no kind allows no counts. Assumes nothing.
use Rattle.std.proofs.Common.{rules}
use Rattle.blocks.specs.Layout.{counts_right}
use Rattle.blocks.proofs.counts_right.Goals as goal

pub returns-in-Err : goal.returns-in-Err
unfolding counts_right
returns-in-Err c = let none = c.in-Err.ensures in search rules
