use Rattle.blocks.specs.Kinds.{byte_of}
use Rattle.judge.specs.Listed.{atoms_in}
use Rattle.judge.specs.CoverEntries.{sub_at, Raised, Lays}
use Rattle.judge.proofs.Covering.Hats.{HeldFrom}
use Rattle.judge.proofs.cover.lay_patterns.Given as goal

abbrev pub invariant-loop-i : goal.invariant-loop-i
invariant-loop-i l = Raised l.initial.marked l.marked (λ k. HeldFrom l.tables.file.now (byte_of l.kind) (Lays (atoms_in l.tables.file.now) (sub_at l.e l.h) l.h k) l.i)
