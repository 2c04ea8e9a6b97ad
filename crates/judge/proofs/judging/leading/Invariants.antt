use mathlib.Core.Path.{◌≡◌}
use Rattle.blocks.specs.Kinds.{rule_kind}
use Rattle.blocks.specs.Block.{block_at, kind_of}
use Rattle.judge.specs.File.{block_count}
use Rattle.terms.specs.Ending.{EachFrom}
use Rattle.judge.proofs.judging.leading.Given as goal

abbrev pub invariant-loop-i : goal.invariant-loop-i
invariant-loop-i l = EachFrom (λ i. kind_of (block_at l.file i) ≡ rule_kind) l.i (block_count l.file)
