-- `terms::valid::Atoms::listed_kind` meets its contract. Assumes nothing.
use native.Mathlib.Omega.{arith}
use Rattle.terms.proofs.EntryTableLaws.{kind-low, kind-high}
use Rattle.terms.proofs.valid.Atoms.listed_kind.Goals as goal

pub returns-then-kind-le-SYMMETRIC : goal.returns-then-kind-le-SYMMETRIC
returns-then-kind-le-SYMMETRIC c = kind-low _ _ c.at-kind.ensures (omega arith)

pub returns-else-kind-le-SYMMETRIC : goal.returns-else-kind-le-SYMMETRIC
returns-else-kind-le-SYMMETRIC c = kind-high _ _ c.at-kind.ensures (omega arith)
