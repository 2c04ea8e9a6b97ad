-- `terms::classes::alone` meets its contract. Assumes nothing.
use borrow.Author.Rules.{rules}
use Rattle.terms.proofs.classes.alone.Goals as goal

pub returns : goal.returns
returns c = λ i h. let call = (c.from_fn.ensures.items.at i 0 h).2.met in search rules
