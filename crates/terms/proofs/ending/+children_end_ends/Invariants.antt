use Rattle.terms.specs.Ending.{unmet}
use Prim.Native.Nat.{◌*◌, ◌+◌}
use Rattle.terms.proofs.ending.+children_end_ends.Given as goal

abbrev pub decreases-children_end : goal.decreases-children_end
decreases-children_end l = 2 * unmet l.marks.now + 1

abbrev pub decreases-ends : goal.decreases-ends
decreases-ends l = 2 * unmet l.marks.now
