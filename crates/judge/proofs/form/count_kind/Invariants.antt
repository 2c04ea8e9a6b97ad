use Rattle.blocks.specs.Kinds.{byte_of}
use mathlib.Core.Path.{◌≡◌}
use Prim.Native.Nat.{◌+◌, ◌≤◌}
use Rattle.judge.specs.File.{kind_count}
use Rattle.judge.proofs.Stages.FormLaws.{kind_left}
use Rattle.judge.proofs.form.count_kind.Given as goal

abbrev pub invariant-loop-i : goal.invariant-loop-i
invariant-loop-i l = (l.n ≤ l.i) × (l.n + kind_left (byte_of l.kind) l.file l.i ≡ kind_count (byte_of l.kind) l.file)
