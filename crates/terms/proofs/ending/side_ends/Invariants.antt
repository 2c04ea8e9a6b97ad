use Rattle.terms.specs.Ending.{ParentEnds, MarksKept, EachFrom}
use Rattle.terms.proofs.ending.side_ends.Given as goal

abbrev pub invariant-loop-k : goal.invariant-loop-k
invariant-loop-k l =
    MarksKept l.g.s.now l.g.t.now l.c l.initial.marks l.marks × EachFrom (ParentEnds l.g.s.now l.g.t.now l.c) l.k l.high
