-- `judge::listed::secret_roots` meets its contract: after i blocks the secrets among them are flagged. Assumes nothing.
use mathlib.Core.Path.{refl}
use native.Mathlib.Omega.{arith}
use Rattle.judge.specs.Listed.{root_slots}
use Rattle.judge.proofs.Stages.Roots.{slots-before}
use Rattle.judge.proofs.Covering.Flags.{zero-at}
use Rattle.judge.proofs.listed.secret_roots.Goals as goal

pub loop-i-init : goal.loop-i-init
loop-i-init c = (refl, λ j below kind. absurd (omega arith), λ k. omega (arith, zero-at root_slots k), λ k on. absurd (omega (arith, zero-at root_slots k)))

pub returns : goal.returns
returns c =
    let inv = c.loop-i.invariant in record { long = inv.0; flagged = λ j inside. inv.1 j (omega arith); bits = inv.2; only = λ k on. slots-before (omega arith) (inv.3 k on) }
