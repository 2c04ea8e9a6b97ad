-- `terms::matching::same_entry` meets its contract. Assumes nothing.
use Rattle.terms.proofs.SameLaws.{same_word}
use Rattle.terms.proofs.matching.same_entry.Goals as goal

pub returns : goal.returns
returns c = let pre = c.requires in same_word pre.0 pre.1 _ _ c.word.ensures c.word-2.ensures
