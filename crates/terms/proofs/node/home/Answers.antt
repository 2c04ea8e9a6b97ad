-- `terms::node::home` meets its contract. Assumes nothing.
use Rattle.terms.proofs.TermGraphLaws.{value-part}
use Rattle.terms.proofs.NodeLaws.{home-variable, home-own, home-past}
use Rattle.terms.proofs.AnswerLaws.{says-yes, says-no}
use mathlib.Core.Path.{ap, ◌∙◌}
use Prim.Native.Nat.{ℕ, ◌+◌, ◌%◌}
use native.Mathlib.Omega.{arith}
use Rattle.terms.specs.Tag.{variables}
use borrow.Author.Rules.{rules}
use Rattle.terms.proofs.node.home.Goals as goal

pub returns-then-not-is_variable : goal.returns-then-not-is_variable
returns-then-not-is_variable c =
    let args = c.args in (home-own args.e.now args.base args.slots args.k (says-no c.is_variable.result c.is_variable.ensures (c.if-not-is_variable.true)), search rules)

pub returns-then-wide-gt-LAST : goal.returns-then-wide-gt-LAST
returns-then-wide-gt-LAST c =
    let args = c.args in let is = c.wide.ensures.0 in (home-past args.e.now args.base args.slots args.k (omega (arith, c.if-wide-gt-LAST.true)), search rules)

pub returns : goal.returns
returns c =
    let args = c.args in let first = c.first_slot.ensures.0 in let is = c.wide.ensures.0 in let few = c.if-wide-gt-LAST.false in (
      ap (λ (n : ℕ). args.slots + n + c.value.result % variables) first
          ∙ home-variable args.e.now args.base args.slots args.k (says-yes c.is_variable.result c.is_variable.ensures (c.if-not-is_variable.false)) (omega (arith, few, is))
          (value-part args.e.now args.k c.value.ensures.0),
      search rules,
    )
