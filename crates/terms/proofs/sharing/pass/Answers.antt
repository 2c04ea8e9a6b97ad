-- `terms::sharing::pass` meets its contract: the walk goes on at entries i and j. Assumes nothing.
use native.Mathlib.Omega.{arith}
use lib.ListN.{length-set}
use Rattle.terms.proofs.TermGraphLaws.{two_terms}
use Rattle.terms.proofs.RunLaws.{front-tag}
use Rattle.terms.proofs.MeetingLaws.{walking_run, run-stops, walking-room, walking-leaves}
use Rattle.terms.proofs.sharing.pass.Goals as goal

pub returns-then-left-eq0 : goal.returns-then-left-eq0
returns-then-left-eq0 c =
    let inv = c.loop-left.invariant in (walking_run inv.0 c.run_on-run.ensures.ran, omega (arith, inv.1), run-stops inv.0 c.run_on-run.ensures.stops)

pub leaves_meet-requires : goal.leaves_meet-requires
leaves_meet-requires c =
    let w = walking_run c.loop-left.invariant.0 c.run_on-run.ensures.ran in let g = c.args.g.now in let some_left = c.if-left-eq0.false in
    (front-tag g.s.now _ w.front some_left, front-tag g.t.now _ w.other_front some_left)

pub overflow_cast-m : goal.overflow_cast-m
overflow_cast-m c =
    let room = walking-room (walking_run c.loop-left.invariant.0 c.run_on-run.ensures.ran) c.if-left-eq0.false in
    omega (arith, room.0, (two_terms c.args.g.now.terms).left_short)

pub overflow_cast-m-in-loop-left : goal.overflow_cast-m-in-loop-left
overflow_cast-m-in-loop-left c =
    let room = walking-room (walking_run c.loop-left.invariant.0 c.run_on-run.ensures.ran) c.if-left-eq0.false in
    omega (arith, room.1, (two_terms c.args.g.now.terms).right_short)

pub loop-left-smaller : goal.loop-left-smaller
loop-left-smaller c =
    let room = walking-room (walking_run c.loop-left.invariant.0 c.run_on-run.ensures.ran) c.if-left-eq0.false in
    omega (arith, room.0, (two_terms c.args.g.now.terms).left_short)

pub loop-left-preserved : goal.loop-left-preserved
loop-left-preserved c =
    let inv = c.loop-left.invariant in let w = walking_run inv.0 c.run_on-run.ensures.ran in let some_left = c.if-left-eq0.false in
    let two = two_terms c.args.g.now.terms in let leaves = c.leaves_meet.ensures c.if-not-leaves_meet.false in (
      walking-leaves w some_left two leaves.0 leaves.1 (omega (arith, w.passed, (walking-room w some_left).0, two.left_short, inv.2)),
      omega (arith, inv.1),
      simp length-set inv.2,
    )
