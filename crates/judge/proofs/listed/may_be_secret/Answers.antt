-- `judge::listed::may_be_secret` meets its contract. Assumes nothing.
use native.Mathlib.Omega.{arith}
use Rattle.judge.proofs.Stages.Roots.{pair-room}
use Rattle.judge.proofs.listed.may_be_secret.Goals as goal

pub bounds-e-4 : goal.bounds-e-4
bounds-e-4 c = omega (arith, pair-room c.requires c.if-root-eq-PAIR.true)
