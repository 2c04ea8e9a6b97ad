-- `judge::cover::secret_at` meets its contract. Assumes nothing.
use mathlib.Core.Path.{refl}
use Rattle.blocks.proofs.KindLaws.{secret-lists}
use Rattle.judge.proofs.Covering.Hats.{searching-at}
use Rattle.judge.proofs.Covering.Covers.{standing-flagged}
use Rattle.judge.proofs.cover.secret_at.Goals as goal

pub is_secret-requires : goal.is_secret-requires
is_secret-requires c =
    let pre = c.requires in searching-at (standing-flagged pre.0 pre.1 pre.2) (secret-lists refl)
