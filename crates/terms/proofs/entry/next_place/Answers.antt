-- `terms::entry::next_place` meets its contract. Assumes nothing.
use native.Mathlib.Omega.{arith}
use Rattle.terms.proofs.EntryLaws.{from-length, size-positive}
use Rattle.terms.specs.Entry.{term_of, from}
use Prim.Native.Nat.{◌*◌}
use Rattle.terms.proofs.PlaceEntryLaws.{past-hash, past-other}
use borrow.Author.Rules.{rules}
use Rattle.terms.proofs.entry.next_place.Goals as goal

pub returns-then-e-k-eq-HASH : goal.returns-then-e-k-eq-HASH
returns-then-e-k-eq-HASH c =
    let args = c.args in let is = c.term_size.ensures in (
      past-hash args.e.now args.k c.if-e-k-eq-HASH.true is.0,
      omega (arith, is.0, size-positive (term_of (from (4 * args.k) args.e.now))),
      omega (arith, is.1, from-length (4 * args.k) args.e.now),
    )

pub returns-else-e-k-eq-HASH : goal.returns-else-e-k-eq-HASH
returns-else-e-k-eq-HASH c =
    let args = c.args in (past-other args.e.now args.k c.if-e-k-eq-HASH.false, search rules, omega (arith, c.requires.0.room, from-length (4 * args.k) args.e.now))
