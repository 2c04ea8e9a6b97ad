-- `terms::sharing::nonces_alone` meets its contract: the answer tells of the nonce variables before slot k. Assumes nothing.
use Prim.Native.Nat.{◌+◌}
use native.Mathlib.Omega.{arith}
use Rattle.terms.specs.TermGraph.{variable_nodes, right_variables}
use Rattle.terms.proofs.NameLaws.{own_name}
use Rattle.terms.proofs.sharing.nonces_alone.Goals as goal

pub returns : goal.returns
returns c =
    λ so. let all = c.loop-k.invariant so in record {
      left = λ k far near. own_name c.args.c.now (variable_nodes + k) (omega (arith, c.told-c)) (all k far (omega arith)).0;
      right = λ k far near. own_name c.args.c.now (right_variables + k) (omega (arith, c.told-c)) (all k far (omega arith)).1;
    }
