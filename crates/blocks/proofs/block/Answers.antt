-- `blocks::block` meets its contract. Assumes nothing.
use Rattle.blocks.proofs.Parts.{block-part}
use Rattle.blocks.proofs.block.Goals as goal

pub returns-clause-part : goal.returns-clause-part
returns-clause-part c = block-part c.args.file.now c.args.i
