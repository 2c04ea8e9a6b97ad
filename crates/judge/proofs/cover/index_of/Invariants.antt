use Rattle.judge.specs.CoverEntries.{IndexedBelow}
use Rattle.judge.proofs.cover.index_of.Given as goal

abbrev pub invariant-loop-k : goal.invariant-loop-k
invariant-loop-k l = IndexedBelow l.e l.flags l.k l.index
