-- `blocks::seal` meets its contract. Assumes nothing.
use mathlib.Core.Path.{ap, ◌∙◌}
use Rattle.blocks.specs.Check.{bytes_of}
use Rattle.blocks.proofs.Sealing.{words-put}
use Rattle.blocks.proofs.seal.Goals as goal

pub returns-clause-bytes : goal.returns-clause-bytes
returns-clause-bytes c =
    let check = c.check_of-check.ensures in
    words-put _ c.if-block-ne-BLOCK_SIZE.false
    (c.copy_from_slice.ensures.after ∙ c.to_le_bytes.ensures ∙ ap bytes_of check.a)
    (c.copy_from_slice-2.ensures.after ∙ c.to_le_bytes-2.ensures ∙ ap bytes_of check.b)
