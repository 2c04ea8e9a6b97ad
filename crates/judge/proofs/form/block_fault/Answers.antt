-- `judge::form::block_fault` meets its contract. Assumes nothing.
use Rattle.judge.proofs.Stages.FormLaws.{reach}
use Rattle.judge.proofs.form.block_fault.Goals as goal

pub entries_fault-requires : goal.entries_fault-requires
entries_fault-requires c =
    let pre = c.requires in reach _ _ pre.0 pre.1.0 pre.1.1.0 pre.1.1.1 c.if-not-kind_right.ensures c.if-not-laid_out.ensures
