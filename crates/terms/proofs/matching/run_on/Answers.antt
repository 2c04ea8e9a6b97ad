-- `terms::matching::run_on` meets its contract: the first `count` entries of both are the same symbols. Assumes nothing.
use mathlib.Core.Path.{ap, ◌∙◌}
use Rattle.terms.specs.Tag.{children_of}
use Rattle.terms.proofs.AnswerLaws.{says-yes}
use Rattle.terms.proofs.RunLaws.{ran-more, front-tag}
use Rattle.terms.proofs.TermGraphLaws.{tag-from}
use Rattle.terms.proofs.matching.run_on.Goals as goal

pub children-requires : goal.children-requires
children-requires c =
    let goes = says-yes c.goes_on.result c.goes_on.ensures c.loop-left-test.true in
    front-tag c.args.p.now c.loop-left.count c.loop-left.invariant.front goes.some_left

pub loop-left-preserved : goal.loop-left-preserved
loop-left-preserved c =
    ran-more c.loop-left.invariant (says-yes c.goes_on.result c.goes_on.ensures c.loop-left-test.true) (c.children.ensures.0 ∙ ap children_of (tag-from c.args.p.now c.loop-left.count))
