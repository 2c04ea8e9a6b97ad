-- `terms::sharing::meet` and `note` meet their contracts; the measure is twice the number of entries left, one more for `meet`.
-- Assumes nothing.
use Rattle.terms.specs.Entry.{term_of, from}
use Rattle.terms.proofs.AnswerLaws.{says-no}
use Rattle.terms.proofs.EntryLaws.{size-positive}
use Rattle.terms.proofs.FrontLaws.{front-begins}
use Rattle.terms.proofs.TermGraphLaws.{tag-from, two_terms}
use Rattle.terms.proofs.SizeLaws.{size-at}
use Rattle.terms.proofs.MeetingLaws.{walking-done, walking-room, walking-apart, walking-more}
use native.Mathlib.Omega.{arith}
use Prim.Native.Nat.{◌*◌}
use borrow.Author.Rules.{rules}
use Rattle.terms.proofs.sharing.+meet_note.Goals as goal

pub meet-returns-then-to-eq0 : goal.meet-returns-then-to-eq0
meet-returns-then-to-eq0 t c = walking-done c.pass-to.ensures.0 c.if-to-eq0.true

pub note-returns-then-not-is_variable-2 : goal.note-returns-then-not-is_variable-2
note-returns-then-not-is_variable-2 t c =
    let pre = c.requires in let g = c.args.g.now in walking-apart pre.0 pre.1
    (omega (arith, says-no c.is_variable.result c.is_variable.ensures (c.if-not-is_variable.true), tag-from g.s.now c.args.i))
    (omega (arith, says-no c.is_variable-then-not-is_variable.result c.is_variable-then-not-is_variable.ensures (c.if-not-is_variable-2.true), tag-from g.t.now c.args.j)) pre.2

pub note-overflow_cast-m : goal.note-overflow_cast-m
note-overflow_cast-m t c =
    let room = walking-room c.requires.0 c.requires.1 in omega (arith, room.0, (two_terms c.args.g.now.terms).left_short)

pub note-overflow_cast-m-2 : goal.note-overflow_cast-m-2
note-overflow_cast-m-2 t c =
    let room = walking-room c.requires.0 c.requires.1 in omega (arith, room.1, (two_terms c.args.g.now.terms).right_short)

pub note-bounds-g-i-2 : goal.note-bounds-g-i-2
note-bounds-g-i-2 t c = c.args.g.now.left.inside c.args.i (walking-room c.requires.0 c.requires.1).0

pub note-bounds-g-j-2 : goal.note-bounds-g-j-2
note-bounds-g-j-2 t c = c.args.g.now.right.inside c.args.j (walking-room c.requires.0 c.requires.1).1

pub note-meet-requires : goal.note-meet-requires
note-meet-requires t c =
    let args = c.args in let g = args.g.now in let pre = c.requires in let room = walking-room pre.0 pre.1 in let two = two_terms g.terms in
    let left = size-at args.i g.left (front-begins pre.0.front pre.1) c.wide.ensures.0 in
    let right = size-at args.j g.right (front-begins pre.0.other_front pre.1) c.wide-2.ensures.0 in
    let some = size-positive (term_of (from (4 * args.i) g.s.now)) in (
      omega (arith, c.decreases, room.0, two.left_short, left.0, some),
      walking-more pre.0 pre.1 two left.0 right.0 left.1 right.1 (search rules),
    )
