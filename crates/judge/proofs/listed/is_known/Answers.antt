-- `judge::listed::is_known` meets its contract. Assumes nothing.
use borrow.Author.Tests.{ne_eqb}
use Rattle.judge.specs.File.{certificate_of}
use Rattle.judge.proofs.Stages.Numbers.{known-other, known-says}
use Rattle.judge.proofs.listed.is_known.Goals as goal

pub returns-then-e-eq-ATOM : goal.returns-then-e-eq-ATOM
unfolding certificate_of
returns-then-e-eq-ATOM c =
    λ m message. known-says (certificate_of c.args.file.now) _ c.atom_at.ensures.0 c.requires.term m message c.if-e-eq-ATOM.true c.value.ensures.0

pub returns-else-e-eq-ATOM : goal.returns-else-e-eq-ATOM
unfolding certificate_of
returns-else-e-eq-ATOM c =
    λ m message. rw (ne_eqb _ _ c.if-e-eq-ATOM.false) (known-other (certificate_of c.args.file.now) c.requires.term m message c.if-e-eq-ATOM.false)
