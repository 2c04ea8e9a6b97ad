-- `judge::cover::stands_at` meets its contract. Assumes nothing.
use Rattle.judge.proofs.Covering.Covers.{flagged-begins}
use Rattle.judge.proofs.Covering.Indexes.{index-absent, index-points}
use borrow.Author.Rules.{rules}
use Rattle.judge.proofs.cover.stands_at.Goals as goal

pub returns-else-n-ne0 : goal.returns-else-n-ne0
returns-else-n-ne0 c =
    let none = c.if-n-ne0.false in rw none (index-absent c.requires.0 c.requires.1 c.requires.2 {n = c.wide-n.result} (search rules) none)

pub same-requires : goal.same-requires
same-requires c =
    let at = index-points c.requires.0 c.requires.1 c.requires.2 {n = c.wide-n.result} (search rules) c.if-n-ne0.true in (flagged-begins _ c.requires.0 at.1, c.requires.2)
