use mathlib.Core.Path.{◌≡◌}
use lib.ListN.{length}
use Prim.Native.Nat.{◌≤◌, ◌-◌}
use Rattle.terms.specs.Meetings.{Walking}
use Rattle.terms.proofs.sharing.pass.Given as goal

abbrev pub invariant-loop-left : goal.invariant-loop-left
invariant-loop-left l = Walking l.g.s.now l.g.t.now l.m l.n l.i l.j l.left × (l.first ≤ l.i) × (length l.m ≡ 64)

abbrev pub decreases-loop-left : goal.decreases-loop-left
decreases-loop-left l = 64 - l.i
