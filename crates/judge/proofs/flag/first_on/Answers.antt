-- `judge::flag::first_on` meets its contract: no flag before flag k is on. Assumes nothing.
use mathlib.Core.Path.{refl}
use Rattle.terms.specs.First.{fails}
use Rattle.judge.proofs.flag.first_on.Goals as goal

pub returns-then-flags-k : goal.returns-then-flags-k
returns-then-flags-k c = fails refl c.loop-k-test.true (λ off. off c.if-flags-k.true) c.loop-k.invariant
