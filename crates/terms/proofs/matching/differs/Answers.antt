-- `terms::matching::differs` meets its contract. Assumes nothing.
use mathlib.Core.Path.{◌≡◌}
use Prim.Native.Nat.{◌*◌}
use native.Mathlib.Omega.{arith}
use borrow.Author.Tests.{not-true}
use borrow.Author.Rules.{rules}
use Rattle.terms.specs.Tag.{VariableTag}
use Rattle.terms.proofs.AnswerLaws.{says-no}
use Rattle.terms.proofs.RunLaws.{differ-alike, apart-common}
use Rattle.terms.proofs.TermGraphLaws.{tag-from}
use lib.ListN.{get_or}
use Rattle.terms.proofs.matching.differs.Goals as goal

pub returns-then-not-is_variable : goal.returns-then-not-is_variable
returns-then-not-is_variable c =
    λ e.
    let args = c.args in let pre = c.requires in
    let some_left : ¬ (args.run.left ≡ 0) = search rules in
    let low : ¬ VariableTag (get_or args.p.now (4 * args.run.count) 0) = search rules in
    let low' = says-no c.is_variable-then-not-is_variable.result c.is_variable-then-not-is_variable.ensures (not-true c.is_variable-then-not-is_variable.result e) in
    apart-common pre.0 pre.1 (differ-alike pre.3 some_left (omega (arith, tag-from args.p.now args.run.count))
    (omega (arith, tag-from args.t.now args.run.count)) pre.4)
