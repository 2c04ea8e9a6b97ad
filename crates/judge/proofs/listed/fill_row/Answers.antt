-- `judge::listed::fill_row` meets its contract. Assumes nothing.
use Rattle.terms.proofs.AnswerLaws.{says-yes, says-no}
use Rattle.judge.proofs.Stages.Tables.{row_more, row_other}
use Rattle.judge.proofs.listed.fill_row.Goals as goal

pub returns-then-lists_term-clause-rows : goal.returns-then-lists_term-clause-rows
returns-then-lists_term-clause-rows c =
    let pre = c.requires in let filled = c.fill_sizes.ensures in
    row_more pre.0 pre.1 pre.2 (says-yes c.lists_term.result c.lists_term.ensures c.if-lists_term.true) c.term_at.ensures.part filled.0 filled.1 c.marks_of-marks.ensures

pub returns-else-lists_term-clause-rows : goal.returns-else-lists_term-clause-rows
returns-else-lists_term-clause-rows c = row_other c.requires.2 (says-no c.lists_term.result c.lists_term.ensures c.if-lists_term.false)
