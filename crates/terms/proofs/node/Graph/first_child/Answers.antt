-- `terms::node::Graph::first_child` meets its contract. Assumes nothing.
use mathlib.Core.Path.{◌∙◌}
use Rattle.terms.proofs.TermGraphLaws.{two_terms}
use Rattle.terms.proofs.NodeLaws.{child-inside, left-first-fits, right-first-fits, first-on-left, first-on-right}
use Rattle.terms.proofs.node.Graph.first_child.Goals as goal

pub left_home-requires : goal.left_home-requires
left_home-requires c = left-first-fits (two_terms c.args.self.now.terms) c.requires c.if-i-lt-RIGHT_NODES.true

pub right_home-requires : goal.right_home-requires
right_home-requires c =
    let two = two_terms c.args.self.now.terms in right-first-fits two c.requires c.if-i-lt-RIGHT_NODES.false (child-inside two c.requires).low

pub returns-then-i-lt-RIGHT_NODES : goal.returns-then-i-lt-RIGHT_NODES
returns-then-i-lt-RIGHT_NODES c = (c.left_home.ensures.0 ∙ first-on-left _ _ _ c.if-i-lt-RIGHT_NODES.true, c.left_home.ensures.1)

pub returns-else-i-lt-RIGHT_NODES : goal.returns-else-i-lt-RIGHT_NODES
returns-else-i-lt-RIGHT_NODES c =
    let low = (child-inside (two_terms c.args.self.now.terms) c.requires).low in
    (c.right_home.ensures.0 ∙ first-on-right _ _ _ c.if-i-lt-RIGHT_NODES.false low, c.right_home.ensures.1)
