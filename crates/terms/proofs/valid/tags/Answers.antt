-- `terms::valid::tags` meets its contract: the first k tags are taken. Assumes nothing.
use lib.ListN.{length-set}
use Rattle.terms.proofs.CountLaws.{tag-stored, tags-stored}
use borrow.Author.Rules.{rules}
use Rattle.terms.proofs.valid.tags.Goals as goal

pub loop-k-preserved : goal.loop-k-preserved
loop-k-preserved c =
    let l = c.loop-k in (simp length-set l.invariant.0, tag-stored c.args.e.now l.tags l.k c.loop-k-test.true (search rules) l.invariant.1)

pub returns : goal.returns
returns c = tags-stored c.args.e.now c.loop-k.tags c.loop-k.k (search rules) c.loop-k.invariant.1
