-- `terms::node::Graph::value_at` meets its contract. Assumes nothing.
use mathlib.Core.Path.{sym, ◌∙◌}
use Prim.Native.Nat.{◌-◌}
use Rattle.terms.proofs.TermGraphLaws.{value-part}
use Rattle.terms.proofs.NodeLaws.{left-value, right-value}
use Rattle.terms.proofs.node.Graph.value_at.Goals as goal

pub returns-then-i-lt-RIGHT_NODES : goal.returns-then-i-lt-RIGHT_NODES
returns-then-i-lt-RIGHT_NODES c =
    let args = c.args in value-part args.self.now.s.now args.i c.value.ensures.0 ∙ sym (left-value args.self.now.s.now args.self.now.t.now c.if-i-lt-RIGHT_NODES.true)

pub returns-else-i-lt-RIGHT_NODES : goal.returns-else-i-lt-RIGHT_NODES
returns-else-i-lt-RIGHT_NODES c =
    let args = c.args in value-part args.self.now.t.now (args.i - 64) c.value-else-i-lt-RIGHT_NODES.ensures.0
    ∙ sym (right-value args.self.now.s.now args.self.now.t.now c.if-i-lt-RIGHT_NODES.false c.requires.low)
