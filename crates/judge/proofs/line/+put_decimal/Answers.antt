-- `judge::line::put_decimal` meets its contract; the measure is the number. Assumes nothing.
use Rattle.judge.proofs.Answering.Printing.{room-digit, put-digit, room-tenth, room-last, put_last}
use native.Mathlib.Omega.{arith}
use borrow.Author.Rules.{rules}
use Rattle.judge.proofs.line.+put_decimal.Goals as goal

pub bounds-buffer-at : goal.bounds-buffer-at
bounds-buffer-at t c = room-digit c.requires c.if-n-lt10.true

pub returns-then-n-lt10 : goal.returns-then-n-lt10
returns-then-n-lt10 t c = put-digit c.requires c.if-n-lt10.true

pub put_decimal-last-requires : goal.put_decimal-last-requires
put_decimal-last-requires t c = (search rules, room-tenth c.requires c.if-n-lt10.false)

pub bounds-buffer-last : goal.bounds-buffer-last
bounds-buffer-last t c = room-last c.requires c.if-n-lt10.false c.put_decimal-last.ensures

pub overflow_add-result-2 : goal.overflow_add-result-2
overflow_add-result-2 t c = omega (arith, room-last c.requires c.if-n-lt10.false c.put_decimal-last.ensures)

pub returns : goal.returns
returns t c = put_last c.requires c.if-n-lt10.false c.put_decimal-last.ensures
