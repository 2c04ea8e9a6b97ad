-- `terms::sharing::keep_nonces` meets its contract. Assumes nothing.
use Prim.Native.Nat.{◌+◌}
use native.Mathlib.Omega.{arith}
use Rattle.terms.specs.TermGraph.{variable_nodes, right_variables}
use Rattle.terms.proofs.NonceLaws.{variable-node}
use Rattle.terms.proofs.sharing.keep_nonces.Goals as goal

pub returns-then-nonces_alone : goal.returns-then-nonces_alone
returns-then-nonces_alone c =
    λ atoms told. let own = c.nonces_alone.ensures c.if-nonces_alone.true in rw c.if-nonces_alone.true (record {
      left = λ k far near. rw (own.left k far near) (variable-node atoms _ _ (variable_nodes + k) (omega arith));
      right = λ k far near. rw (own.right k far near) (variable-node atoms _ _ (right_variables + k) (omega arith));
    })
