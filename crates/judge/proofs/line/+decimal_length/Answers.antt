-- `judge::line::decimal_length` meets its contract; the measure is the number. Assumes nothing.
use Rattle.judge.proofs.Answering.Digits.{length-one, length_more, at-most-ten}
use native.Mathlib.Omega.{arith}
use borrow.Author.Rules.{rules}
use Rattle.judge.proofs.line.+decimal_length.Goals as goal

pub returns-then-n-lt10 : goal.returns-then-n-lt10
returns-then-n-lt10 t c = (length-one _ c.if-n-lt10.true, search rules)

pub returns : goal.returns
returns t c =
    let e = length_more _ c.if-n-lt10.false c.decimal_length.ensures.0 in
    (e, omega (arith, at-most-ten _ c.ranges.n.fits))
