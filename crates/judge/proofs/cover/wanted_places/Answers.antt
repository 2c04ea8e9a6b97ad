-- `judge::cover::wanted_places` meets its contract: entry k stands at a place, or is the end, and the flags before it are on where
-- there is a place and it is wanted. Assumes nothing.
use native.Mathlib.Omega.{arith}
use mathlib.Core.Path.{◌≡◌}
use lib.ListN.{length}
use Rattle.terms.proofs.PlaceEntryLaws.{first-place, next_place_lem}
use Rattle.judge.proofs.Covering.Flags.{raised-start}
use Rattle.judge.proofs.Covering.Covers.{standing-entries, places-more}
use borrow.Author.Rules.{rules}
use Rattle.judge.proofs.cover.wanted_places.Goals as goal

pub loop-k-init : goal.loop-k-init
loop-k-init c = (search rules, raised-start, first-place _)

pub next_place-k-requires : goal.next_place-k-requires
next_place-k-requires c =
    let pre = c.requires in let at = standing-entries pre.0 pre.1 (search rules) in (at.term, at.inside, at.short)

pub loop-k-preserved : goal.loop-k-preserved
loop-k-preserved c =
    let pre = c.requires in let short = pre.1.short in
    let inv = c.loop-k.invariant in let to = c.next_place-k.ensures in let premise = c.args.premise.now in let some_entry : ¬ (length premise ≡ 0) = λ z. omega (arith, to.1, to.2) in
    let next = next_place_lem (pre.1.some_term some_entry) (pre.1.whole some_entry) inv.2 to.1 to.2 to.0 in
    (search rules, places-more inv.1 inv.2 (search rules) c.is_wanted.result c.is_wanted.ensures to.1 next.between, next.place)
