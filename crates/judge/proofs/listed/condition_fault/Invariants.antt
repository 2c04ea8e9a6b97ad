use mathlib.Core.Path.{◌≡◌}
use Prim.Native.Nat.{◌-◌}
use Rattle.judge.specs.File.{block_count, certificate_of}
use Rattle.judge.specs.Verdict.{first_fault, on_kind, kind_asked, condition_at, condition_fault}
use Rattle.judge.proofs.listed.condition_fault.Given as goal

abbrev pub invariant-loop-i : goal.invariant-loop-i
invariant-loop-i l =
    first_fault (on_kind (kind_asked l.condition) (condition_at l.condition (certificate_of l.file)) l.file) l.i (block_count l.file - l.i)
    ≡ condition_fault l.condition (certificate_of l.file) l.file
