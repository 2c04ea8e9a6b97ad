-- `terms::matching::goes_on` meets its contract. Assumes nothing.
use mathlib.Core.Path.{◌≡◌}
use Rattle.terms.proofs.FrontLaws.{front-begins}
use borrow.Author.Rules.{rules}
use Rattle.terms.proofs.matching.goes_on.Goals as goal

pub same_entry-requires : goal.same_entry-requires
same_entry-requires c =
    let pre = c.requires in let some_left : ¬ (c.args.left ≡ 0) = search rules in (front-begins pre.2 some_left, front-begins pre.3 some_left)
