-- `judge::listed::instance_at` meets its contract. Assumes nothing.
use Prim.Native.Nat.{◌*◌, ◌<◌}
use native.Mathlib.Omega.{arith}
use lib.ListN.{length}
use borrow.Author.Tests.{lt-leb}
use Rattle.terms.specs.Decide.{match?}
use Rattle.judge.specs.Listed.{atoms_in}
use Rattle.judge.proofs.Stages.Nonces.{nonces-read}
use Rattle.judge.proofs.Stages.Roots.{instance-answer}
use Rattle.judge.proofs.Stages.Tables.{too_small}
use Rattle.judge.proofs.listed.instance_at.Goals as goal

pub returns-then-n-secret : goal.returns-then-n-secret
returns-then-n-secret c =
    let pre = c.requires in let atoms = atoms_in c.args.tables.now.file.now in
    instance-answer atoms pre.0.1.laid pre.0.0 pre.1 c.term_at-secret.ensures c.matches.result (match? atoms _ _) (c.matches.ensures atoms (nonces-read c.args.tables.now.sized c.nonces.ensures))

pub returns-else-n-secret : goal.returns-else-n-secret
returns-else-n-secret c =
    let pre = c.requires in let less : length c.term_at-secret.result.now < 4 * c.args.n = omega (arith, c.if-n-secret.false) in
    rw (lt-leb _ _ less) (too_small pre.0.1.laid pre.0.0 pre.1 c.term_at-secret.ensures pre.2 less)
