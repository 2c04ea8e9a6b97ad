-- `judge::line::put_field` meets its contract. Assumes nothing.
use Rattle.judge.specs.Line.{field_of}
use Rattle.judge.proofs.Answering.Printing.{room-first, room-rest, put_then}
use Rattle.judge.proofs.line.put_field.Goals as goal

pub put-next-requires : goal.put-next-requires
unfolding field_of
put-next-requires c = room-first _ _ c.requires

pub put_decimal-requires : goal.put_decimal-requires
unfolding field_of
put_decimal-requires c =
    room-rest c.put-next.ensures
    c.requires

pub returns : goal.returns
unfolding field_of
returns c =
    put_then c.put-next.ensures
    c.requires
    c.put_decimal.ensures
