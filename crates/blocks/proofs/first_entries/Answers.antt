-- `blocks::first_entries` meets its contract. Assumes nothing.
use Rattle.blocks.proofs.Parts.{first_part}
use Rattle.blocks.proofs.first_entries.Goals as goal

pub returns-clause-part : goal.returns-clause-part
returns-clause-part c = first_part _ c.requires _ c.first_count.ensures.0
