-- `judge::line::put_line` meets its contract. Assumes nothing.
use Rattle.judge.proofs.Answering.Printing.{line-accepted, line_refused}
use Rattle.judge.proofs.line.put_line.Goals as goal

pub put_accepted-requires : goal.put_accepted-requires
put_accepted-requires c = rw (line-accepted c.in-Accepted.is) at c.requires

pub put_refused-requires : goal.put_refused-requires
put_refused-requires c =
    let pre = c.requires in rw (line_refused c.in-Refused.is c.number.ensures.0 c.block_of.ensures c.place_of.ensures) at pre

pub returns-in-Accepted : goal.returns-in-Accepted
returns-in-Accepted c =
    rw (line-accepted c.in-Accepted.is)
    c.put_accepted.ensures

pub returns-in-Refused : goal.returns-in-Refused
returns-in-Refused c =
    rw (line_refused c.in-Refused.is c.number.ensures.0 c.block_of.ensures c.place_of.ensures) c.put_refused.ensures
