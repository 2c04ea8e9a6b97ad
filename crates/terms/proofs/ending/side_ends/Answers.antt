-- `terms::ending::side_ends` meets its contract: every way down from the nodes from k on ends, and the marks are kept. Assumes nothing.
use Rattle.terms.proofs.EndingLaws.{each_none, each-down, each-up, yes-kept, kept_same, kept-both, below-kept}
use borrow.Author.Rules.{rules}
use Rattle.terms.proofs.ending.side_ends.Goals as goal

pub loop-k-init : goal.loop-k-init
loop-k-init c = (kept_same c.requires.2, each_none _ _)

pub node_ends-requires : goal.node_ends-requires
node_ends-requires c =
    let pre = c.requires in let kept = c.loop-k.invariant.0 in
    (pre.0, pre.1.each _ (search rules) (search rules), kept.sound, below-kept kept (pre.3 _))

pub loop-k-preserved : goal.loop-k-preserved
loop-k-preserved c =
    let ended = c.node_ends.ensures.ends c.if-not-node_ends.false in
    (kept-both c.loop-k.invariant.0 ended.1, each-down c.loop-k.invariant.1 ended.0)

pub returns : goal.returns
returns c = yes-kept c.loop-k.invariant.0 (each-up c.loop-k.invariant.1 c.loop-k-test.false)
