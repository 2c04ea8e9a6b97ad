-- `terms::classes::meeting` meets its contract. Assumes nothing.
use mathlib.Core.Path.{sym, ◌∙◌}
use mathlib.Core.Logic.{inl, inr}
use native.Mathlib.Omega.{arith}
use Rattle.terms.specs.Meeting.{Symbols}
use Rattle.terms.proofs.TermGraphLaws.{two_terms}
use Rattle.terms.proofs.TagLaws.{one_tag, one-child}
use Rattle.terms.proofs.ClassLaws.{both-symbols}
use Rattle.terms.specs.TermGraph.{OwnEntry}
use Rattle.terms.proofs.NodeLaws.{symbol-inside, home-symbol, own-tag}
use Rattle.terms.proofs.classes.meeting.Goals as goal
use Rattle.terms.proofs.classes.meeting.Goals.{Else-a-ge-VARIABLE_NODES}

-- Both names are symbols, and stand at entries.
both : (c : Else-a-ge-VARIABLE_NODES) → let args = c.args in Symbols args.g.now.s.now args.g.now.t.now args.a args.b
both c = let pre = c.requires in both-symbols pre.0 pre.1 pre.2 c.if-a-ge-VARIABLE_NODES.false

first : (c : Else-a-ge-VARIABLE_NODES) → let args = c.args in OwnEntry args.g.now.s.now args.g.now.t.now args.a
first c = let pre = c.requires in symbol-inside (two_terms c.args.g.now.terms) (home-symbol pre.0 c.if-a-ge-VARIABLE_NODES.false)

second : (c : Else-a-ge-VARIABLE_NODES) → let args = c.args in OwnEntry args.g.now.s.now args.g.now.t.now args.b
second c = let pre = c.requires in symbol-inside (two_terms c.args.g.now.terms) (home-symbol pre.1 (omega (arith, pre.2, c.if-a-ge-VARIABLE_NODES.false)))

pub tag_at-tag-requires : goal.tag_at-tag-requires
tag_at-tag-requires c = first (goal.at.tag_at-tag-requires c).Else-a-ge-VARIABLE_NODES

pub tag_at-requires : goal.tag_at-requires
tag_at-requires c = second (goal.at.tag_at-requires c).Else-a-ge-VARIABLE_NODES

pub returns-then-tag-tag_at : goal.returns-then-tag-tag_at
returns-then-tag-tag_at c =
    let a-tag = c.tag_at-tag.ensures in let b-tag = c.tag_at.ensures in (both (goal.at.returns-then-tag-tag_at c).Else-a-ge-VARIABLE_NODES, inl (λ e. c.if-tag-tag_at.true (a-tag ∙ e ∙ sym b-tag)))

pub returns-then-tag-eq-PAIR : goal.returns-then-tag-eq-PAIR
returns-then-tag-eq-PAIR c =
    let a-tag = c.tag_at-tag.ensures in (both (goal.at.returns-then-tag-eq-PAIR c).Else-a-ge-VARIABLE_NODES, sym a-tag ∙ c.if-tag-tag_at.false ∙ c.tag_at.ensures, sym a-tag ∙ c.if-tag-eq-PAIR.true)

pub value_at-requires : goal.value_at-requires
value_at-requires c = first (goal.at.value_at-requires c).Else-a-ge-VARIABLE_NODES

pub value_at-requires-2 : goal.value_at-requires-2
value_at-requires-2 c = second (goal.at.value_at-requires-2 c).Else-a-ge-VARIABLE_NODES

pub returns-then-value_at : goal.returns-then-value_at
returns-then-value_at c =
    let a-tag = c.tag_at-tag.ensures in (
      both (goal.at.returns-then-value_at c).Else-a-ge-VARIABLE_NODES,
      inr (
        sym a-tag ∙ c.if-tag-tag_at.false ∙ c.tag_at.ensures,
        (λ e. c.if-tag-eq-PAIR.false (a-tag ∙ e)),
        (λ e. c.if-value_at.true (c.value_at.ensures ∙ e ∙ sym c.value_at-2.ensures)),
      ),
    )

pub children-requires : goal.children-requires
children-requires c =
    rw c.tag_at-tag.ensures (own-tag (two_terms c.args.g.now.terms) (first (goal.at.children-requires c).Else-a-ge-VARIABLE_NODES))

pub returns-then-children-eq1 : goal.returns-then-children-eq1
returns-then-children-eq1 c =
    let a-tag = c.tag_at-tag.ensures in (
      both (goal.at.returns-then-children-eq1 c).Else-a-ge-VARIABLE_NODES,
      sym a-tag ∙ c.if-tag-tag_at.false ∙ c.tag_at.ensures,
      rw (← a-tag) (one_tag _ (sym c.children.ensures.0 ∙ c.if-children-eq1.true)),
      sym c.value_at.ensures ∙ c.if-value_at.false ∙ c.value_at-2.ensures,
    )

pub returns : goal.returns
returns c =
    let a-tag = c.tag_at-tag.ensures in (
      both (goal.at.returns c).Else-a-ge-VARIABLE_NODES,
      sym a-tag ∙ c.if-tag-tag_at.false ∙ c.tag_at.ensures,
      (λ e. c.if-tag-eq-PAIR.false (a-tag ∙ e)),
      rw (← a-tag) (λ w. c.if-children-eq1.false (c.children.ensures.0 ∙ sym (one-child w))),
      sym c.value_at.ensures ∙ c.if-value_at.false ∙ c.value_at-2.ensures,
    )
