-- `judge::line::put_three` meets its contract. Assumes nothing.
use Rattle.judge.specs.Line.{newline, three_fields}
use Rattle.judge.proofs.Answering.Printing.{room-first, room-rest, put_then}
use Rattle.judge.proofs.line.put_three.Goals as goal

pub put_field-past_first-requires : goal.put_field-past_first-requires
unfolding newline three_fields
put_field-past_first-requires c = room-first _ _ c.requires

pub put_field-past_second-requires : goal.put_field-past_second-requires
unfolding newline three_fields
put_field-past_second-requires c = room-first _ _ (room-rest c.put_field-past_first.ensures c.requires)

pub put_field-past_third-requires : goal.put_field-past_third-requires
unfolding newline three_fields
put_field-past_third-requires c =
    let r1 = room-rest c.put_field-past_first.ensures c.requires in
    room-first _ _ (room-rest c.put_field-past_second.ensures r1)

pub put-requires : goal.put-requires
unfolding newline three_fields
put-requires c =
    let r1 = room-rest c.put_field-past_first.ensures c.requires in
    let r2 = room-rest c.put_field-past_second.ensures r1 in
    room-rest c.put_field-past_third.ensures r2

pub returns : goal.returns
unfolding newline three_fields
returns c =
    let r1 = room-rest c.put_field-past_first.ensures c.requires in
    let r2 = room-rest c.put_field-past_second.ensures r1 in
    put_then c.put_field-past_first.ensures c.requires
    (put_then c.put_field-past_second.ensures r1
    (put_then c.put_field-past_third.ensures r2 c.put.ensures))
