-- `judge::cover::risky_places` meets its contract: entry k stands at a place, or is the end, and the flags before it are on where
-- there is a place and it is risky. Assumes nothing.
use mathlib.Core.Path.{refl}
use Rattle.blocks.proofs.KindLaws.{secret-lists}
use Rattle.terms.proofs.PlaceEntryLaws.{first-place, next_place_lem}
use Rattle.judge.proofs.Covering.Flags.{raised-start}
use Rattle.judge.proofs.Covering.Hats.{searching-at}
use Rattle.judge.proofs.Covering.Covers.{standing-concluded, concluded-entries, entries-flags, places-more}
use borrow.Author.Rules.{rules}
use Rattle.judge.proofs.cover.risky_places.Goals as goal

pub loop-k-init : goal.loop-k-init
loop-k-init c = (search rules, raised-start, first-place _)

pub is_risky-requires : goal.is_risky-requires
is_risky-requires c =
    let pre = c.requires in let whole = pre.whole in searching-at (standing-concluded pre (search rules)) (secret-lists refl)

pub next_place-k-requires : goal.next_place-k-requires
next_place-k-requires c =
    let pre = c.requires in let whole = pre.whole in let at = standing-concluded pre (search rules) in (at.term, at.inside, at.short)

pub loop-k-preserved : goal.loop-k-preserved
loop-k-preserved c =
    let pre = c.requires in let whole = pre.whole in let short = pre.short in
    let inv = c.loop-k.invariant in let to = c.next_place-k.ensures in let next = next_place_lem pre.term whole inv.2 to.1 to.2 to.0 in
    (search rules, places-more inv.1 inv.2 (search rules) c.is_risky.result c.is_risky.ensures to.1 next.between, next.place)

pub returns : goal.returns
returns c =
    let whole = c.requires.whole in entries-flags (concluded-entries c.requires) c.loop-k.invariant.1 (search rules)
