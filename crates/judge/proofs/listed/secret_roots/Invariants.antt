use mathlib.Core.Path.{◌≡◌}
use Prim.Native.Nat.{ℕ, ◌<◌, ◌≤◌}
use lib.ListN.{length, get_or}
use Rattle.blocks.specs.Kinds.{secret_kind}
use Rattle.blocks.specs.Block.{block_at, kind_of, first_entries}
use Rattle.judge.specs.Listed.{FlaggedAt, SecretSlot, root_slots}
use Rattle.judge.proofs.listed.secret_roots.Given as goal

abbrev pub invariant-loop-i : goal.invariant-loop-i
invariant-loop-i l =
    (length l.roots ≡ root_slots)
    × ((j : ℕ) → j < l.i → kind_of (block_at l.file j) ≡ secret_kind → FlaggedAt l.roots (first_entries (block_at l.file j)))
    × ((k : ℕ) → get_or l.roots k 0 ≤ 1)
    × ((k : ℕ) → get_or l.roots k 0 ≡ 1 → SecretSlot l.file l.i k)
