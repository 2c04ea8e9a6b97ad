-- `terms::matching::same` meets its contract. Assumes nothing.
use Rattle.terms.proofs.SameLaws.{denied}
use Rattle.terms.proofs.RunLaws.{first-differs, run-same}
use Rattle.terms.proofs.matching.same.Goals as goal

pub returns-then-not-same_entry : goal.returns-then-not-same_entry
returns-then-not-same_entry c =
    first-differs c.requires.0 c.requires.1 (denied (c.if-not-same_entry.true) c.same_entry.ensures)

pub returns : goal.returns
returns c = run-same c.requires.0 c.requires.1 c.same_run-run.ensures.ran c.same_front.result c.same_front.ensures
