-- `judge::cover::open_places` meets its contract. Assumes nothing.
use Rattle.terms.proofs.AnswerLaws.{says-no}
use Rattle.judge.proofs.Covering.Opens.{open-asked, open-unasked}
use Rattle.judge.proofs.cover.open_places.Goals as goal

pub returns-then-some_on-clause-flags : goal.returns-then-some_on-clause-flags
returns-then-some_on-clause-flags c = open-asked c.requires.1 c.close_places.ensures.flags

pub returns-else-some_on-clause-flags : goal.returns-else-some_on-clause-flags
returns-else-some_on-clause-flags c = open-unasked c.requires.1 (says-no c.some_on.result c.some_on.ensures c.if-some_on.false)
