-- `judge::line::refused_length` meets its contract. Assumes nothing.
use Rattle.judge.proofs.Answering.Printing.{length-refused}
use Rattle.judge.proofs.line.refused_length.Goals as goal

pub returns : goal.returns
returns c =
    length-refused _ _ _ c.decimal_length.ensures.0 c.decimal_length-2.ensures.0
    c.decimal_length-3.ensures.0
