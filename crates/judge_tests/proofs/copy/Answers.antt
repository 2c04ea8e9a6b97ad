-- `judge_tests::copy` meets its contract: the first i bytes of the part are copied. Assumes nothing.
use native.Mathlib.Nat.{zero-add}
use lib.ListN.{length-set}
use Rattle.judge.proofs.Answering.Printing.{pasted-none, pasted-more, put_all}
use borrow.Author.Rules.{rules}
use Rattle.judge_tests.proofs.copy.Goals as goal

pub loop-i-init : goal.loop-i-init
loop-i-init c = (pasted-none _ _, search rules)

pub loop-i-preserved : goal.loop-i-preserved
loop-i-preserved c =
    let inv = c.loop-i.invariant in (rw zero-add at (pasted-more inv.0 c.requires inv.1 c.loop-i-test.true), simp length-set inv.1)

pub returns : goal.returns
returns c = rw zero-add at (put_all c.loop-i.invariant.0 c.requires c.loop-i-test.false)
