-- `terms::sharing::side_keeps` meets its contract. Assumes nothing.
use mathlib.Core.Logic.{inl}
use Rattle.terms.proofs.NameLaws.{name-home}
use borrow.Author.Rules.{rules}
use Rattle.terms.proofs.sharing.side_keeps.Goals as goal

pub may_be_nonce-requires : goal.may_be_nonce-requires
may_be_nonce-requires c =
    rw c.find.ensures.0 (name-home c.requires.0 _ (record { small = search rules; is = inl (search rules) }))
