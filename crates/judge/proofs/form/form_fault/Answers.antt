-- `judge::form::form_fault` meets its contract: what is left answers as the whole does. Assumes nothing.
use mathlib.Core.Path.{sym, ◌∙◌}
use borrow.Author.Count.{below_more}
use Rattle.judge.proofs.Files.LaidLaws.{block_fits}
use Rattle.judge.proofs.Stages.FormLaws.{none_of, first_step}
use Rattle.judge.proofs.form.form_fault.Goals as goal

pub loop-i-preserved : goal.loop-i-preserved
loop-i-preserved c =
    let inv = c.loop-i.invariant in let fine = none_of _ c.in_ok-block_fault.ensures in
    (rw fine at (sym (first_step _ _ _ c.loop-i-test.true) ∙ inv.0), below_more _ _ inv.1 (block_fits _ _ fine))
