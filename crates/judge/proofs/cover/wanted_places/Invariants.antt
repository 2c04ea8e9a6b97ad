use Prim.Native.Nat.{◌≤◌, ◌-◌, ◌/◌}
use lib.ListN.{length}
use Rattle.terms.specs.PlaceEntries.{PlaceEntry}
use Rattle.judge.specs.File.{certificate_of}
use Rattle.judge.specs.CoverEntries.{Wanted}
use Rattle.judge.proofs.Covering.Flags.{RaisedBelow}
use Rattle.judge.proofs.cover.wanted_places.Given as goal

abbrev pub invariant-loop-k : goal.invariant-loop-k
invariant-loop-k l =
    (l.k ≤ length l.premise / 4) × RaisedBelow l.wanted (λ k. PlaceEntry l.premise k × Wanted (certificate_of l.tables.file.now) l.premise l.conclusion l.risky k) l.k × PlaceEntry l.premise l.k

abbrev pub decreases-loop-k : goal.decreases-loop-k
decreases-loop-k l = length l.premise / 4 - l.k
