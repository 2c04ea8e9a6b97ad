use Prim.Native.Nat.{◌+◌, ◌*◌, ◌-◌}
use Rattle.terms.proofs.sharing.+meet_note.Given as goal

abbrev pub decreases-meet : goal.decreases-meet
decreases-meet l = 2 * (64 - l.i) + 1

abbrev pub decreases-note : goal.decreases-note
decreases-note l = 2 * (64 - l.i)
