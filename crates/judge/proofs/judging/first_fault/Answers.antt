-- `judge::judging::first_fault` meets its contract. Assumes nothing.
use mathlib.Core.Path.{sym}
use Rattle.judge.proofs.Files.LaidLaws.{layout-laid}
use Rattle.judge.proofs.Stages.FormLaws.{none_of}
use Rattle.judge.proofs.judging.first_fault.Goals as goal

pub certificate_fault-requires : goal.certificate_fault-requires
certificate_fault-requires c = layout-laid _ (sym c.if-not-length_right.ensures) (none_of _ c.in_ok-form_fault.ensures)
