use mathlib.Core.Path.{◌≡◌}
use lib.ListN.{length, take}
use Rattle.judge.specs.Line.{pasted}
use Rattle.judge.proofs.line.put.Given as goal

abbrev pub invariant-loop-i : goal.invariant-loop-i
invariant-loop-i l = (l.buffer ≡ pasted l.initial.buffer l.at (take l.i l.text)) × (length l.buffer ≡ length l.initial.buffer)
