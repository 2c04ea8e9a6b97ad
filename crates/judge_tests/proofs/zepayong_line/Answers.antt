-- `judge_tests::zepayong_line` meets its contract. Assumes nothing.
use Rattle.judge_tests.proofs.AskedLaws.{printed}
use Rattle.judge_tests.proofs.zepayong_line.Goals as goal

pub returns : goal.returns
returns c =
    record { answer = (printed _ _ c.judge.ensures.verdict c.print_line.ensures.answer c.print_line.ensures.bytes c.writing.ensures).0; bytes = (printed _ _ c.judge.ensures.verdict c.print_line.ensures.answer c.print_line.ensures.bytes c.writing.ensures).1 }
