-- `terms::matching::matches` meets its contract. Assumes nothing.
use mathlib.Core.Path.{sym}
use Rattle.terms.specs.Decide.{match?}
use Rattle.terms.proofs.AnswerLaws.{answer-no}
use Rattle.terms.proofs.InstanceLaws.{becomes, matched-common}
use Rattle.terms.proofs.matching.matches.Goals as goal

pub returns-else-not-differs : goal.returns-else-not-differs
returns-else-not-differs c =
    λ atoms told. rw c.if-not-differs.false (sym (answer-no (match? atoms _ _) (λ m. c.differs.ensures c.if-not-differs.false (matched-common (becomes m)))))
