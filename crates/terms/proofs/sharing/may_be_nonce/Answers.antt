-- `terms::sharing::may_be_nonce` meets its contract. Assumes nothing.
use mathlib.Core.Path.{sym, ◌∙◌}
use borrow.Author.Tests.{le-leb, ne_eqb}
use Rattle.terms.proofs.TermGraphLaws.{two_terms}
use Rattle.terms.proofs.NodeLaws.{home-symbol, symbol-inside}
use Rattle.terms.proofs.NonceLaws.{variable-node, atom-node, other-node}
use borrow.Author.Rules.{rules}
use Rattle.terms.proofs.sharing.may_be_nonce.Goals as goal

pub tag_at-requires : goal.tag_at-requires
tag_at-requires c = symbol-inside (two_terms c.args.g.now.terms) (home-symbol c.requires (search rules))

pub value_at-requires : goal.value_at-requires
value_at-requires c = symbol-inside (two_terms c.args.g.now.terms) (home-symbol c.requires (search rules))

pub returns-then-a-ge-VARIABLE_NODES : goal.returns-then-a-ge-VARIABLE_NODES
returns-then-a-ge-VARIABLE_NODES c =
    λ atoms told. let far = c.if-a-ge-VARIABLE_NODES.true in rw (le-leb 128 c.args.a far) (variable-node atoms _ _ c.args.a far)

pub returns-then-tag_at-eq-ATOM : goal.returns-then-tag_at-eq-ATOM
returns-then-tag_at-eq-ATOM c =
    λ atoms told. atom-node atoms _ _ _ (sym c.tag_at.ensures ∙ c.if-tag_at-eq-ATOM.true) c.value_at.ensures c.is_nonce.result (c.is_nonce.ensures atoms told)

pub returns-else-tag_at-eq-ATOM : goal.returns-else-tag_at-eq-ATOM
returns-else-tag_at-eq-ATOM c =
    λ atoms told. let off = c.if-tag_at-eq-ATOM.false in
    rw (ne_eqb c.tag_at.result 1 off) (other-node atoms _ _ c.args.a (home-symbol c.requires (search rules)) (λ e. off (c.tag_at.ensures ∙ e)))
