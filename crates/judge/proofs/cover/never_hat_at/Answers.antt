-- `judge::cover::never_hat_at` meets its contract. Assumes nothing.
use mathlib.Core.Path.{refl}
use Rattle.blocks.proofs.KindLaws.{good-lists}
use Rattle.terms.proofs.SizeLaws.{sizes-part}
use Rattle.judge.proofs.Covering.Hats.{searching-at}
use Rattle.judge.proofs.Covering.Repeats.{recalled-says, remembered-more}
use borrow.Author.Rules.{rules}
use Rattle.judge.proofs.cover.never_hat_at.Goals as goal

pub recalled-requires-clause-asked : goal.recalled-requires-clause-asked
recalled-requires-clause-asked c =
    let term = searching-at c.requires.0 (good-lists refl) in let part = sizes-part c.args.h c.args.term.now.sized in search rules

pub returns : goal.returns
returns c =
    let inside = c.requires.0.inside in let short = c.requires.0.short in
    let answer = recalled-says c.args.h c.recalled.result c.requires.1 c.recalled.ensures.answer (λ asked. search rules) in
    record { answer = answer; memo = rw c.recalled.ensures.memo (remembered-more _ c.requires.1 (search rules) _ answer) }
