use mathlib.Core.Path.{◌≡◌}
use lib.ListN.{length, take}
use Rattle.terms.specs.Count.{tags_of}
use Rattle.terms.proofs.valid.tags.Given as goal

abbrev pub invariant-loop-k : goal.invariant-loop-k
invariant-loop-k l = (length l.tags ≡ 128) × (take l.k l.tags ≡ take l.k (tags_of l.e))
