-- `terms::node::Graph::tag_at` meets its contract. Assumes nothing.
use mathlib.Core.Path.{sym}
use Rattle.terms.proofs.NodeLaws.{left-tag, right-tag}
use Rattle.terms.proofs.node.Graph.tag_at.Goals as goal

pub returns-then-i-lt-RIGHT_NODES : goal.returns-then-i-lt-RIGHT_NODES
returns-then-i-lt-RIGHT_NODES c =
    let args = c.args in sym (left-tag args.self.now.s.now args.self.now.t.now c.if-i-lt-RIGHT_NODES.true)

pub returns-else-i-lt-RIGHT_NODES : goal.returns-else-i-lt-RIGHT_NODES
returns-else-i-lt-RIGHT_NODES c =
    sym (right-tag c.args.self.now.s.now c.args.self.now.t.now c.if-i-lt-RIGHT_NODES.false c.requires.low)
