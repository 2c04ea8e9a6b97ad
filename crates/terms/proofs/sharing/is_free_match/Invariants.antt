use mathlib.Core.Path.{◌≡◌}
use lib.ListN.{length}
use Rattle.terms.specs.Slot.{any_slots}
use Rattle.terms.specs.Meetings.{Distinct}
use Rattle.terms.proofs.MeetingLaws.{Seen}
use Rattle.terms.proofs.sharing.is_free_match.Given as goal

abbrev pub invariant-loop-k : goal.invariant-loop-k
invariant-loop-k l = (length l.seen ≡ any_slots) × Distinct l.s l.m l.k × Seen l.s l.m l.seen l.k
