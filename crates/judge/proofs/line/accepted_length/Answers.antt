-- `judge::line::accepted_length` meets its contract. Assumes nothing.
use Rattle.judge.proofs.Answering.Printing.{length-accepted}
use Rattle.judge.proofs.line.accepted_length.Goals as goal

pub returns : goal.returns
returns c =
    length-accepted _ c.decimal_length.ensures.0
    c.decimal_length-2.ensures.0
    c.decimal_length-3.ensures.0 c.decimal_length-4.ensures.0
    c.decimal_length-5.ensures.0
