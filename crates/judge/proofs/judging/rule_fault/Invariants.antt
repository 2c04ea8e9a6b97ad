use mathlib.Core.Path.{◌≡◌}
use Prim.Native.Nat.{◌-◌}
use Rattle.std.specs.Prelude.{None}
use Rattle.blocks.specs.Kinds.{rule_kind}
use Rattle.blocks.specs.Block.{first_entries, second_entries}
use Rattle.judge.specs.Listed.{NeverHat, SharesUnmarked}
use Rattle.judge.specs.CoverEntries.{Carried}
use Rattle.judge.specs.File.{block_count, certificate_of}
use Rattle.judge.specs.Judgement.{held_or}
use Rattle.judge.specs.Verdict.{first_fault, on_kind, open_secret_rule, open_secret_fault, uncovered_rule, uncovered_fault}
use Rattle.judge.proofs.judging.rule_fault.Given as goal

abbrev pub invariant-loop-i : goal.invariant-loop-i
invariant-loop-i l =
    (first_fault (on_kind rule_kind (open_secret_rule (certificate_of l.file)) l.file) l.i (block_count l.file - l.i) ≡ open_secret_fault (certificate_of l.file) l.file)
    × (held_or l.held (first_fault (on_kind rule_kind (uncovered_rule (certificate_of l.file)) l.file) l.i (block_count l.file - l.i)) ≡ held_or None (uncovered_fault (certificate_of l.file) l.file))
    × Carried first_entries (NeverHat (certificate_of l.tables.0.now)) l.file l.i l.above × Carried second_entries (SharesUnmarked (certificate_of l.tables.0.now)) l.file l.i l.shared
