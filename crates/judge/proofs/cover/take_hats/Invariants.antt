use Rattle.judge.specs.File.{certificate_of}
use Rattle.judge.specs.Listed.{SharesUnmarked}
use Rattle.judge.specs.CoverEntries.{Cleared, HatBelow, Remembered}
use Rattle.judge.proofs.cover.take_hats.Given as goal

abbrev pub invariant-loop-h : goal.invariant-loop-h
invariant-loop-h l =
    Cleared l.initial.bare l.bare (HatBelow (certificate_of l.tables.file.now) l.e l.h) × Remembered (SharesUnmarked (certificate_of l.tables.file.now)) l.e l.shared
