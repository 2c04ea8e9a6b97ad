use Rattle.judge.specs.CoverEntries.{On}
use Rattle.judge.proofs.Covering.Flags.{ClearedBelow}
use Rattle.judge.proofs.flag.clear.Given as goal

abbrev pub invariant-loop-k : goal.invariant-loop-k
invariant-loop-k l = ClearedBelow l.initial.flags l.flags (On l.off) l.k
