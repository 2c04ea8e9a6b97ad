-- `judge::listed::listed_sizes` meets its contract: after i blocks their rows are filled in. Assumes nothing.
use borrow.Author.Rules.{rules}
use native.Mathlib.Omega.{arith}
use Rattle.judge.proofs.Stages.Tables.{some_more, rows_all}
use Rattle.judge.proofs.listed.listed_sizes.Goals as goal

pub loop-i-init : goal.loop-i-init
loop-i-init c =
    (record { long = search rules; at = λ j low lists. absurd (omega arith); marks = λ j low lists. absurd (omega arith) }, record { some = λ j low. absurd (omega arith) })

pub loop-i-preserved : goal.loop-i-preserved
loop-i-preserved c =
    (c.fill_row-some.ensures.rows, some_more c.loop-i.invariant.1 c.fill_row-some.result c.fill_row-some.ensures.marked)

pub returns : goal.returns
returns c =
    let put = c.put_nonces.ensures in rows_all c.requires (omega arith) c.loop-i.invariant.0 c.loop-i.invariant.1 c.from.ensures put.1 put.0
