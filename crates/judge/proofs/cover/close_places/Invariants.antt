use Rattle.judge.specs.Listed.{NeverHat}
use Rattle.judge.specs.File.{certificate_of}
use Rattle.judge.specs.CoverEntries.{OpenAmong, Remembered}
use Rattle.judge.proofs.cover.close_places.Given as goal

abbrev pub invariant-loop-h : goal.invariant-loop-h
invariant-loop-h l =
    OpenAmong (certificate_of l.tables.file.now) l.e l.initial.opened l.h l.opened × Remembered (NeverHat (certificate_of l.tables.file.now)) l.e l.above
