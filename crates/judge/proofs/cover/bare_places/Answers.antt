-- `judge::cover::bare_places` meets its contract: the flags before entry k are put off where its subterm stands at a flagged entry of the premise. Assumes nothing.
use Rattle.judge.proofs.Covering.Flags.{below_more}
use borrow.Author.Rules.{rules}
use Rattle.judge.proofs.cover.bare_places.Goals as goal

pub loop-k-preserved : goal.loop-k-preserved
loop-k-preserved c =
    let short = c.requires.1.entries.short in below_more c.loop-k.invariant (search rules) c.is_open.result (search rules) c.is_open.ensures
