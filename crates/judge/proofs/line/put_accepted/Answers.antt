-- `judge::line::put_accepted` meets its contract. Assumes nothing.
use Rattle.judge.specs.Line.{accepted_line}
use Rattle.judge.proofs.Answering.Printing.{room-first, room-rest, put_then}
use Rattle.judge.proofs.line.put_accepted.Goals as goal

pub put_field-past_first-requires : goal.put_field-past_first-requires
unfolding accepted_line
put_field-past_first-requires c = room-first _ _ c.requires

pub put_field-past_second-requires : goal.put_field-past_second-requires
unfolding accepted_line
put_field-past_second-requires c = room-first _ _ (room-rest c.put_field-past_first.ensures c.requires)

pub put_three-requires : goal.put_three-requires
unfolding accepted_line
put_three-requires c =
    let r1 = room-rest c.put_field-past_first.ensures c.requires in
    room-rest c.put_field-past_second.ensures r1

pub returns : goal.returns
unfolding accepted_line
returns c =
    let r1 = room-rest c.put_field-past_first.ensures c.requires in
    put_then c.put_field-past_first.ensures c.requires (put_then c.put_field-past_second.ensures r1 c.put_three.ensures)
