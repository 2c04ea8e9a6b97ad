-- `terms::classes::find` meets its contract: node k is on the way to the name, with so many links at most left to follow.
-- Assumes nothing.
use native.Mathlib.Omega.{arith}
use Rattle.terms.proofs.NameLaws.{way-starts, way-arrives, way-goes-on, way-ends}
use borrow.Author.Rules.{rules}
use Rattle.terms.proofs.classes.find.Goals as goal

pub loop-init : goal.loop-init
loop-init c = (search rules, way-starts _ _)

pub returns-then-next-k : goal.returns-then-next-k
returns-then-next-k c =
    (way-arrives c.loop.invariant.1 (search rules) c.wide-next.ensures.0 c.if-next-k.true, search rules)

pub loop-preserved : goal.loop-preserved
loop-preserved c = (search rules, way-goes-on c.loop.invariant.1 (search rules) c.wide-next.ensures.0 (omega arith))

pub returns : goal.returns
returns c = (way-ends c.loop.invariant.1 (omega arith), search rules)
