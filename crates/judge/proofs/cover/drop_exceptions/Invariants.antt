use Rattle.blocks.specs.Kinds.{bad_kind}
use Rattle.judge.specs.Listed.{atoms_in}
use Rattle.judge.specs.CoverEntries.{sub_at, Cleared, LaysAround}
use Rattle.judge.proofs.Covering.Hats.{HeldFrom}
use Rattle.judge.proofs.cover.drop_exceptions.Given as goal

abbrev pub invariant-loop-i : goal.invariant-loop-i
invariant-loop-i l =
    Cleared l.initial.hats l.hats (λ k. HeldFrom l.tables.file.now bad_kind (LaysAround (atoms_in l.tables.file.now) (sub_at l.term.e.now l.h) l.h k) l.i)
