-- `judge::cover::is_secret` meets its contract. Assumes nothing.
use Rattle.judge.proofs.Stages.Roots.{no-root-secret}
use Rattle.judge.proofs.cover.is_secret.Goals as goal

pub returns-else-may_be_secret : goal.returns-else-may_be_secret
returns-else-may_be_secret c =
    let pre = c.requires in let none = c.if-may_be_secret.false in rw none (no-root-secret pre.laid c.args.tables.now.rooted pre.term (c.may_be_secret.ensures.0 none))
