use Prim.Native.Nat.{◌≤◌, ◌-◌}
use Rattle.terms.specs.Entry.{term_of, size}
use Rattle.terms.specs.PlaceEntries.{PlaceEntry}
use Rattle.judge.specs.Cover.{Risky}
use Rattle.judge.specs.File.{certificate_of}
use Rattle.judge.specs.CoverEntries.{sub_at}
use Rattle.judge.proofs.Covering.Flags.{RaisedBelow}
use Rattle.judge.proofs.cover.risky_places.Given as goal

abbrev pub invariant-loop-k : goal.invariant-loop-k
invariant-loop-k l =
    (l.k ≤ size (term_of l.e)) × RaisedBelow l.risky (λ k. PlaceEntry l.e k × Risky (certificate_of l.tables.file.now) (sub_at l.e k)) l.k × PlaceEntry l.e l.k

abbrev pub decreases-loop-k : goal.decreases-loop-k
decreases-loop-k l = size (term_of l.e) - l.k
