-- `judge_tests::zepayong_part` meets its contract. Assumes nothing.
use Rattle.judge_tests.proofs.AskedLaws.{too_short, copied, room}
use Rattle.judge_tests.proofs.zepayong_part.Goals as goal

pub returns-then-buffer-part : goal.returns-then-buffer-part
returns-then-buffer-part c =
    let short = too_short _ _ c.verdict_from.ensures c.refused_part-part.ensures.part c.if-buffer-part.true in
    record { answer = short.0; bytes = short.1 }

pub copy-requires : goal.copy-requires
copy-requires c = room _ _ c.if-buffer-part.false

pub returns : goal.returns
returns c =
    let done = copied _ _ c.verdict_from.ensures c.refused_part-part.ensures.part c.if-buffer-part.false c.copy.ensures in
    record { answer = done.0; bytes = done.1 }
