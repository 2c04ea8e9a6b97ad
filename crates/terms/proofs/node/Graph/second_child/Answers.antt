-- `terms::node::Graph::second_child` meets its contract. Assumes nothing.
use mathlib.Core.Path.{ap, ◌∙◌}
use mathlib.Core.Logic.{inl}
use Prim.Native.Nat.{ℕ, ◌+◌, ◌-◌, ◌<◌}
use native.Mathlib.Omega.{arith}
use Rattle.terms.specs.TermGraph.{home, right_nodes, variable_nodes, right_variables}
use Rattle.terms.proofs.TermGraphLaws.{two_terms}
use Rattle.terms.proofs.NodeLaws.{RightThere, child-inside, left-right-there, right-right-there, second-on-left, second-on-right}
use Rattle.terms.proofs.node.Graph.second_child.Goals as goal
use Rattle.terms.proofs.node.Graph.second_child.Goals.{Else-i-lt-RIGHT_NODES, Then-i-lt-RIGHT_NODES}

-- The pair stands on the first side, or on the second: where its right half does.
left_there : (c : Then-i-lt-RIGHT_NODES) → RightThere c.args.self.now.s.now c.args.self.now.zs.now c.args.i
left_there c = let g = c.args.self.now in left-right-there (two_terms g.terms) c.requires g.left c.if-i-lt-RIGHT_NODES.true

low : (c : Else-i-lt-RIGHT_NODES) → c.args.i < 128
low c = (child-inside (two_terms c.args.self.now.terms) (inl c.requires)).low

right_there : (c : Else-i-lt-RIGHT_NODES) → RightThere c.args.self.now.t.now c.args.self.now.zt.now (c.args.i - 64)
right_there c = let g = c.args.self.now in right-right-there (two_terms g.terms) c.requires g.right c.if-i-lt-RIGHT_NODES.false (low c)

pub bounds-self-i : goal.bounds-self-i
bounds-self-i c = omega (arith, (left_there (goal.at.bounds-self-i c).Then-i-lt-RIGHT_NODES).inside)

pub left_home-requires : goal.left_home-requires
left_home-requires c =
    let there = left_there (goal.at.left_home-requires c).Then-i-lt-RIGHT_NODES in omega (arith, there.fits, there.read, c.wide.ensures.0)

pub bounds-self-k : goal.bounds-self-k
bounds-self-k c = (right_there (goal.at.bounds-self-k c).Else-i-lt-RIGHT_NODES).inside

pub right_home-requires : goal.right_home-requires
right_home-requires c =
    let there = right_there (goal.at.right_home-requires c).Else-i-lt-RIGHT_NODES in
    omega (arith, there.fits, there.read, c.wide-else-i-lt-RIGHT_NODES.ensures.0)

pub returns-then-i-lt-RIGHT_NODES : goal.returns-then-i-lt-RIGHT_NODES
returns-then-i-lt-RIGHT_NODES c =
    let args = c.args in let there = left_there (goal.at.returns-then-i-lt-RIGHT_NODES c).Then-i-lt-RIGHT_NODES in (
      c.left_home.ensures.0
          ∙ ap (λ (n : ℕ). home args.self.now.s.now 0 variable_nodes (args.i + 1 + n)) c.wide.ensures.0
          ∙ ap (home args.self.now.s.now 0 variable_nodes) there.read ∙ second-on-left _ _ _ c.if-i-lt-RIGHT_NODES.true,
      c.left_home.ensures.1,
    )

pub returns-else-i-lt-RIGHT_NODES : goal.returns-else-i-lt-RIGHT_NODES
returns-else-i-lt-RIGHT_NODES c =
    let args = c.args in let side = (goal.at.returns-else-i-lt-RIGHT_NODES c).Else-i-lt-RIGHT_NODES in (
      c.right_home.ensures.0
          ∙ ap (λ (n : ℕ). home args.self.now.t.now right_nodes right_variables (args.i - 64 + 1 + n)) c.wide-else-i-lt-RIGHT_NODES.ensures.0
          ∙ ap (home args.self.now.t.now right_nodes right_variables) (right_there side).read
          ∙ second-on-right _ _ _ c.if-i-lt-RIGHT_NODES.false (low side),
      c.right_home.ensures.1,
    )
