-- `judge::cover::is_wanted` meets its contract. Assumes nothing.
use mathlib.Core.Path.{refl}
use Rattle.blocks.proofs.KindLaws.{secret-lists}
use Rattle.terms.proofs.AnswerLaws.{says-yes}
use Rattle.judge.proofs.Covering.Hats.{searching-at}
use Rattle.judge.proofs.Covering.Covers.{standing-entries, wanted-none}
use Rattle.judge.proofs.Covering.Indexes.{index-absent, no-slot-secret}
use Rattle.judge.proofs.cover.is_wanted.Goals as goal

pub is_absent-requires : goal.is_absent-requires
is_absent-requires c = let pre = c.requires in (standing-entries pre.0 pre.1 pre.2).term

pub is_secret-requires : goal.is_secret-requires
is_secret-requires c =
    let pre = c.requires in searching-at (standing-entries pre.0 pre.1 pre.2) (secret-lists refl)

pub stands_at-requires : goal.stands_at-requires
stands_at-requires c = let pre = c.requires in (pre.3, pre.4, (standing-entries pre.0 pre.1 pre.2).term)

pub returns-else-not-is_absent : goal.returns-else-not-is_absent
returns-else-not-is_absent c =
    let pre = c.requires in let yes = c.if-not-is_absent.false in
    let absent = says-yes c.is_absent.result c.is_absent.ensures yes in let begins = (standing-entries pre.0 pre.1 pre.2).term in
    rw yes (wanted-none (no-slot-secret pre.0 c.args.tables.now.rooted begins absent.0) (index-absent pre.3 pre.4 begins refl absent.1))
