-- `blocks::columns::header_sums` meets its contract. Assumes nothing.
use Rattle.blocks.specs.Columns.{sum_of}
use borrow.Author.Rules.{rules}
use Rattle.blocks.proofs.columns.header_sums.Goals as goal

pub returns-clause-a : goal.returns-clause-a
unfolding sum_of
returns-clause-a c = search rules

pub returns-clause-b : goal.returns-clause-b
unfolding sum_of
returns-clause-b c = search rules
