use Rattle.judge.specs.Listed.{SizesBelow}
use Rattle.judge.proofs.Stages.Tables.{SomeBelow}
use Rattle.judge.proofs.listed.listed_sizes.Given as goal

abbrev pub invariant-loop-i : goal.invariant-loop-i
invariant-loop-i l = SizesBelow l.file l.i l.sizes × SomeBelow l.file l.i l.some
