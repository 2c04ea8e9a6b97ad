-- `terms::matching::may_take` meets its contract. Assumes nothing.
use borrow.Author.Tests.{lt-ltb}
use Rattle.terms.proofs.NonceLaws.{free-takes, nonce-takes}
use Rattle.terms.proofs.matching.may_take.Goals as goal

pub returns-then-x-lt-ANY_SLOTS : goal.returns-then-x-lt-ANY_SLOTS
returns-then-x-lt-ANY_SLOTS c = λ atoms told. rw (lt-ltb _ _ c.if-x-lt-ANY_SLOTS.true) (free-takes atoms c.args.t.now c.args.at c.if-x-lt-ANY_SLOTS.true)

pub returns-else-x-lt-ANY_SLOTS : goal.returns-else-x-lt-ANY_SLOTS
returns-else-x-lt-ANY_SLOTS c =
    λ atoms told. nonce-takes atoms c.args.t.now c.args.at c.if-x-lt-ANY_SLOTS.false c.is_nonce_term.result (c.is_nonce_term.ensures atoms told)
