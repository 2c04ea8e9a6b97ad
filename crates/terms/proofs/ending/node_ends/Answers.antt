-- `terms::ending::node_ends` meets its contract. Assumes nothing.
use Rattle.terms.proofs.TermGraphLaws.{two_terms}
use Rattle.terms.proofs.NodeLaws.{own-tag}
use Rattle.terms.proofs.TagLaws.{has-child, no-pair, no-wrapper}
use Rattle.terms.proofs.EndingLaws.{yes-at-once, parent-home, no-parent}
use Rattle.terms.proofs.ending.node_ends.Goals as goal

pub children-requires : goal.children-requires
children-requires c = rw c.tag_at.ensures (own-tag (two_terms c.args.g.now.terms) c.requires.1)

pub ends-requires : goal.ends-requires
ends-requires c =
    let pre = c.requires in (pre.0, parent-home pre.1 (has-child c.tag_at.ensures c.children.ensures.0 c.if-children-eq0.false), pre.2, pre.3)

pub returns-then-children-eq0 : goal.returns-then-children-eq0
returns-then-children-eq0 c =
    let tag = c.tag_at.ensures in let count = c.children.ensures.0 in let none = c.if-children-eq0.true in
    rw none (yes-at-once c.requires.2 (no-parent (no-pair tag count none) (no-wrapper tag count none)))
