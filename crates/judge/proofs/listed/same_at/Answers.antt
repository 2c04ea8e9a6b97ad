-- `judge::listed::same_at` meets its contract. Assumes nothing.
use mathlib.Core.Path.{◌≡◌}
use Rattle.terms.specs.Entry.{term_of}
use Rattle.terms.specs.Decide.{term?, variable?}
use Rattle.judge.proofs.Stages.Listing.{block-answer}
use Rattle.judge.proofs.Stages.Tables.{other-size}
use borrow.Author.Rules.{rules}
use Rattle.judge.proofs.listed.same_at.Goals as goal

pub returns-then-secret-n : goal.returns-then-secret-n
returns-then-secret-n c =
    block-answer (λ p. p ≡ term_of c.args.e.now) c.term_at-secret.ensures c.same.result (term? variable? _ _) c.same.ensures

pub returns-else-secret-n : goal.returns-else-secret-n
returns-else-secret-n c = let off = other-size c.term_at-secret.ensures c.requires.1 c.if-secret-n.false in search rules
