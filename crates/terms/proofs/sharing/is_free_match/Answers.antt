-- `terms::sharing::is_free_match` meets its contract: the first k noted variables are distinct, and their slots are marked. Assumes nothing.
use native.Mathlib.Omega.{arith}
use borrow.Author.Rules.{part_to_end}
use Rattle.terms.proofs.EntryLaws.{suffix}
use Rattle.terms.proofs.sharing.is_free_match.Goals as goal

pub slot-x-requires : goal.slot-x-requires
slot-x-requires c =
    let fits = c.requires.2.inside c.loop-k.k c.loop-k-test.true in rw part_to_end (suffix c.wide-at.result c.requires.0 (omega (arith, c.wide-at.ensures.0)))
