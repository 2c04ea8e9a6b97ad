-- `terms::atom::is_nonce` meets its contract. Assumes nothing.
use Rattle.terms.proofs.AnswerLaws.{says-le}
use Rattle.terms.specs.Decisions.{says_same}
use Rattle.terms.specs.Atom.{foreign_nonce}
use native.Mathlib.Omega.{arith}
use lib.Dec.{leb}
use Rattle.terms.proofs.NonceLaws.{unflagged-nonce}
use Rattle.terms.proofs.atom.is_nonce.Goals as goal

pub returns-else-n-nonces : goal.returns-else-n-nonces
returns-else-n-nonces c =
    let n = c.args.n in λ atoms told. says_same (leb 1000 n) foreign_nonce (unflagged-nonce told (λ l. let far = c.if-n-nonces.false in omega arith)) (says-le 1000 n)
