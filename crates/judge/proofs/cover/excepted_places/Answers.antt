-- `judge::cover::excepted_places` meets its contract. Assumes nothing.
use Rattle.terms.proofs.AnswerLaws.{says-no}
use Rattle.judge.proofs.Covering.Hats.{none-excepted}
use Rattle.judge.proofs.cover.excepted_places.Goals as goal

pub returns-else-some_marked : goal.returns-else-some_marked
returns-else-some_marked c =
    let pre = c.requires in none-excepted pre.laid c.args.tables.now.sized (says-no c.some_marked.result c.some_marked.ensures c.if-some_marked.false)
