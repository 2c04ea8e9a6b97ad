-- `terms::node::Graph::right_home` meets its contract. Assumes nothing.
use mathlib.Core.Path.{sym, subst}
use Rattle.terms.specs.TermGraph.{AtHome}
use Rattle.terms.proofs.TermGraphLaws.{two_terms}
use Rattle.terms.proofs.NodeLaws.{home-right}
use Rattle.terms.proofs.node.Graph.right_home.Goals as goal

pub returns : goal.returns
returns c =
    let graph = c.args.self.now in
    (c.home.ensures.0, subst (AtHome graph.s.now graph.t.now) (sym c.home.ensures.0) (home-right _ _ _ (two_terms graph.terms) c.requires))
