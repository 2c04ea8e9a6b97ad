-- `judge::listed::shares_bad` meets its contract. Assumes nothing.
use mathlib.Core.Path.{◌∙◌}
use Rattle.terms.proofs.AnswerLaws.{says-no, answer-same}
use Rattle.judge.specs.Listed.{shares_listed?, shares_everywhere?}
use Rattle.judge.proofs.Stages.Tables.{all-count}
use Rattle.judge.proofs.listed.shares_bad.Goals as goal

pub returns-else-some_marked : goal.returns-else-some_marked
returns-else-some_marked c =
    let pre = c.requires in let same = all-count pre.0.laid c.args.tables.now.sized (says-no c.some_marked.result c.some_marked.ensures c.if-some_marked.false) in
    c.shares_listed.ensures ∙ answer-same (shares_listed? _ _ _) (shares_everywhere? _ _ _) same.0 same.1
