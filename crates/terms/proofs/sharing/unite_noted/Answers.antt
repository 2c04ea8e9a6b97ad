-- `terms::sharing::unite_noted` meets its contract: the classes of the first k noted entries are united. Assumes nothing.
use mathlib.Core.Path.{ap, ◌∙◌}
use Rattle.terms.specs.TermGraph.{home, right_nodes, variable_nodes, right_variables}
use Rattle.terms.proofs.NameLaws.{classes-of}
use Rattle.terms.proofs.ShareLaws.{united-none, united-more}
use Rattle.terms.proofs.sharing.unite_noted.Goals as goal

pub loop-k-init : goal.loop-k-init
loop-k-init c = (c.requires.1, united-none _ _ c.args.m.now (classes-of c.requires.1))

pub loop-k-preserved : goal.loop-k-preserved
loop-k-preserved c =
    let g = c.args.g.now in (
      c.unite.ensures.0,
      united-more _ _ c.args.m.now c.loop-k.k c.loop-k.invariant.1 (c.left_home-i.ensures.0 ∙ ap (home g.s.now 0 variable_nodes) c.wide.ensures.0)
          (c.right_home-j.ensures.0 ∙ ap (home g.t.now right_nodes right_variables) c.wide-in-loop-k.ensures.0)
          (c.unite.ensures.2.stepped (c.if-not-unite.false)),
    )
