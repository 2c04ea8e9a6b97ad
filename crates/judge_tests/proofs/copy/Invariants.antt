use mathlib.Core.Path.{◌≡◌}
use lib.ListN.{length, take}
use Rattle.judge.specs.Line.{pasted}
use Rattle.judge_tests.proofs.copy.Given as goal

abbrev pub invariant-loop-i : goal.invariant-loop-i
invariant-loop-i l = (l.buffer ≡ pasted l.initial.buffer 0 (take l.i l.part)) × (length l.buffer ≡ length l.initial.buffer)
