use mathlib.Core.Path.{◌≡◌}
use lib.Dec.{eqb}
use lib.ListN.{take}
use Rattle.blocks.specs.Layout.{all_zero}
use Rattle.blocks.proofs.all_zero.Given as goal

abbrev pub invariant-loop-i : goal.invariant-loop-i
invariant-loop-i l = eqb l.seen 0 ≡ all_zero (take l.i l.bytes)
