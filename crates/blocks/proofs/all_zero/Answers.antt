-- `blocks::all_zero` meets its contract: the first i bytes have been asked. Assumes nothing.
use mathlib.Core.Path.{refl, sym, ap, ◌∙◌}
use mathlib.Core.Bool.{Bool, ◌&&◌}
use native.Mathlib.Omega.{arith}
use lib.Dec.{eqb}
use lib.ListN.{get_or}
use lib.Seq.{take_all}
use Prim.Native.Nat.{ℕ}
use Rattle.std.proofs.lemmas.List.Folds.{list_all_more}
use Rattle.blocks.specs.Layout.{all_zero}
use Rattle.blocks.proofs.Layouts.{or-zero}
use Rattle.blocks.proofs.all_zero.Goals as goal

pub loop-i-init : goal.loop-i-init
unfolding all_zero
loop-i-init c = refl

pub loop-i-preserved : goal.loop-i-preserved
unfolding all_zero
loop-i-preserved c =
    or-zero c.loop-i.seen (get_or c.args.bytes.now c.loop-i.i 0)
    ∙ ap (λ (t : Bool). t && eqb (get_or c.args.bytes.now c.loop-i.i 0) 0) c.loop-i.invariant
    ∙ sym (list_all_more (λ (x : ℕ). eqb x 0) c.args.bytes.now c.loop-i.i 0 c.loop-i-test.true)

pub returns : goal.returns
returns c = c.loop-i.invariant ∙ ap all_zero (take_all c.loop-i.i c.args.bytes.now (omega arith))
