use Rattle.terms.specs.Sizes.{SizedFrom, KeptBelow}
use Rattle.terms.proofs.entry.fill_sizes.Given as goal

abbrev pub invariant-loop-k : goal.invariant-loop-k
invariant-loop-k l = SizedFrom l.e l.z l.base l.k × KeptBelow l.base l.initial.z l.z
