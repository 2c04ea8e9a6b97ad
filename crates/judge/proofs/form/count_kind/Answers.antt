-- `judge::form::count_kind` meets its contract: what is counted and what is left make the whole. Assumes nothing.
use Rattle.blocks.specs.Kinds.{byte_of}
use mathlib.Core.Path.{sym, ap, ◌∙◌}
use native.Mathlib.Omega.{arith}
use Rattle.blocks.specs.Block.{kind_of}
use Rattle.judge.proofs.Stages.FormLaws.{not-kind, left-all, left-none, left_one, left_other}
use Rattle.judge.proofs.form.count_kind.Goals as goal
use Rattle.judge.proofs.form.count_kind.Goals.{then-is_kind, else-is_kind}

pub loop-i-init : goal.loop-i-init
loop-i-init c = omega (arith, left-all (byte_of c.args.kind) c.args.file.now)

pub loop-i-preserved : goal.loop-i-preserved
loop-i-preserved c =
    let kind = byte_of c.args.kind in let file = c.args.file.now in
    let same = sym (ap kind_of c.block.ensures.part) in
    elim c.if-is_kind.branch [
      | then-is_kind w ↦ omega (arith, left_one kind file c.loop-i.i c.loop-i-test.true (same ∙ c.is_kind.ensures.0 w.if-is_kind.true))
      | else-is_kind w ↦ omega (arith, left_other kind file c.loop-i.i c.loop-i-test.true (λ e. not-kind c.is_kind.ensures w.if-is_kind.false (sym same ∙ e)))
    ]

pub returns : goal.returns
returns c = omega (arith, left-none (byte_of c.args.kind) c.args.file.now c.loop-i.i c.loop-i-test.false)
