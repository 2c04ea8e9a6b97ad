-- `blocks::zero_from` meets its contract. Assumes nothing.
use mathlib.Core.Path.{sym, ◌∙◌}
use native.Mathlib.Omega.{arith}
use borrow.Author.Tests.{le-leb}
use Rattle.blocks.proofs.Layouts.{zero-end, zero_part}
use Rattle.blocks.proofs.zero_from.Goals as goal

pub returns-then-from-ge508 : goal.returns-then-from-ge508
returns-then-from-ge508 c = le-leb _ _ c.if-from-ge508.true ∙ sym (zero-end _ _ c.if-from-ge508.true)

pub returns-else-from-ge508 : goal.returns-else-from-ge508
returns-else-from-ge508 c = c.all_zero.ensures ∙ zero_part _ _ (omega (arith, c.if-from-ge508.false))
