use Rattle.terms.specs.Graph.{ClassStep, Any}
use Rattle.terms.specs.TermGraph.{node_of}
use Rattle.terms.specs.Names.{name_of, Linked}
use Rattle.terms.specs.Meetings.{AllEqual}
use Rattle.terms.proofs.sharing.unite_noted.Given as goal

abbrev pub invariant-loop-k : goal.invariant-loop-k
invariant-loop-k l =
    let s = l.g.s.now in let t = l.g.t.now in Linked s t l.c × ClassStep (node_of s t) Any (name_of l.initial.c) (name_of l.c) (AllEqual s t l.m l.k)
