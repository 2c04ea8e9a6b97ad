-- `judge::cover::note` meets its contract. Assumes nothing.
use Rattle.judge.proofs.Covering.Covers.{flagged-begins}
use Rattle.judge.proofs.Covering.Indexes.{index-more}
use Rattle.judge.proofs.cover.note.Goals as goal

pub returns-then-flags-k : goal.returns-then-flags-k
returns-then-flags-k c =
    index-more c.requires.2 c.root_slot.ensures.0 c.root_slot.ensures.1 c.if-flags-k.true

pub root_slot-requires : goal.root_slot-requires
root_slot-requires c = flagged-begins _ c.requires.0 c.requires.1
