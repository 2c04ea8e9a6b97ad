-- `judge::cover::take_below` meets its contract. Assumes nothing.
use Rattle.terms.proofs.AnswerLaws.{says-no}
use Rattle.judge.proofs.Covering.Hats.{no-encryption, none_below}
use borrow.Author.Rules.{rules}
use Rattle.judge.proofs.cover.take_below.Goals as goal

pub returns-else-some_on-clause-flags : goal.returns-else-some_on-clause-flags
returns-else-some_on-clause-flags c =
    none_below c.requires.0 (search rules) c.end_of.ensures.0 (says-no c.some_on.result c.some_on.ensures c.if-some_on.false)

pub returns-else-term-h-eq-ENCRYPTION-clause-flags : goal.returns-else-term-h-eq-ENCRYPTION-clause-flags
returns-else-term-h-eq-ENCRYPTION-clause-flags c = no-encryption c.requires.0 (search rules) c.if-term-h-eq-ENCRYPTION.false
