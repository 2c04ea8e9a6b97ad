-- `blocks::second_entries` meets its contract. Assumes nothing.
use Rattle.blocks.proofs.Parts.{second-part}
use Rattle.blocks.proofs.second_entries.Goals as goal

pub returns-clause-part : goal.returns-clause-part
returns-clause-part c = second-part _ c.requires _ _ c.first_count.ensures.0 c.second_count.ensures.0
