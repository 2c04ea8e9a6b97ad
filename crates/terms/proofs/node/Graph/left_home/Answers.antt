-- `terms::node::Graph::left_home` meets its contract. Assumes nothing.
use mathlib.Core.Path.{sym, subst}
use Rattle.terms.specs.TermGraph.{AtHome}
use Rattle.terms.proofs.TermGraphLaws.{two_terms}
use Rattle.terms.proofs.NodeLaws.{home-left}
use Rattle.terms.proofs.node.Graph.left_home.Goals as goal

pub returns : goal.returns
returns c =
    let graph = c.args.self.now in
    (c.home.ensures.0, subst (AtHome graph.s.now graph.t.now) (sym c.home.ensures.0) (home-left _ _ _ (two_terms graph.terms) c.requires))
