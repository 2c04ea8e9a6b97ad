-- `terms::ending::is_finite` meets its contract. Assumes nothing.
use lib.ListN.{replicate, get_or-replicate}
use Rattle.terms.specs.declared.ending.Mark.TheVariants.{Unmet}
use Rattle.terms.proofs.TermGraphLaws.{two_terms}
use Rattle.terms.proofs.EndingLaws.{start-sound, start-below, below-kept, left-entries, right-entries, all-finite}
use Rattle.terms.proofs.ending.is_finite.Goals as goal

pub side_ends-requires : goal.side_ends-requires
side_ends-requires c = (
  c.requires,
  right-entries _ _ (two_terms c.args.g.now.terms),
  start-sound _ _ _ (replicate 128 Unmet) (λ a h. get_or-replicate 128 a Unmet Unmet h),
  start-below _ _ _ (replicate 128 Unmet) (λ a h. get_or-replicate 128 a Unmet Unmet h),
)

pub side_ends-requires-then-side_ends : goal.side_ends-requires-then-side_ends
side_ends-requires-then-side_ends c =
    let ended = c.side_ends.ensures.ends c.if-side_ends.true in (
      c.requires,
      left-entries _ _ (two_terms c.args.g.now.terms),
      ended.1.sound,
      (λ i. below-kept ended.1 (start-below _ _ _ (replicate 128 Unmet) (λ a h. get_or-replicate 128 a Unmet Unmet h) i)),
    )

pub returns-then-side_ends : goal.returns-then-side_ends
returns-then-side_ends c = (
  (λ e. all-finite (two_terms c.args.g.now.terms) c.requires (c.side_ends-then-side_ends.ensures.ends e).0 (c.side_ends.ensures.ends c.if-side_ends.true).0),
  c.side_ends-then-side_ends.ensures.never,
)
