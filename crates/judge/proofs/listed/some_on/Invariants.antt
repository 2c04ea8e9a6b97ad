use Rattle.blocks.specs.Kinds.{byte_of}
use Prim.Native.Nat.{ℕ, ◌<◌}
use mathlib.Core.Path.{◌≡◌}
use mathlib.Core.Bool.{false}
use Rattle.blocks.specs.Block.{block_at, kind_of}
use Rattle.judge.proofs.listed.some_on.Given as goal

abbrev pub invariant-loop-i : goal.invariant-loop-i
invariant-loop-i g l = (k : ℕ) → k < l.i → kind_of (block_at l.file k) ≡ (byte_of l.kind) → goal.F-post g l.met k false
