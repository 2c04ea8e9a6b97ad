use Prim.Native.Nat.{◌≤◌}
use lib.ListN.{length}
use Rattle.zepayong.proofs.transfer.write_all.Given as goal

abbrev pub invariant-loop : goal.invariant-loop
invariant-loop g l = l.done ≤ length l.bytes
