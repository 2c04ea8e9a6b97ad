-- `terms::matching::bindable` meets its contract. Assumes nothing.
use Prim.Native.Nat.{◌*◌}
use native.Mathlib.Omega.{arith}
use Rattle.terms.proofs.MatchLaws.{begins-within}
use Rattle.terms.proofs.matching.bindable.Goals as goal

pub slice_bounds-same-count : goal.slice_bounds-same-count
slice_bounds-same-count c = omega (arith, begins-within (4 * c.in-Some.old) c.args.t.now (c.requires.held _ c.in-Some.is))

pub slice_bounds-same-start : goal.slice_bounds-same-start
slice_bounds-same-start c = omega (arith, begins-within (4 * c.in-Some.old) c.args.t.now (c.requires.held _ c.in-Some.is))
