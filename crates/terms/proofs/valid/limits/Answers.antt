-- `terms::valid::limits` meets its contract. Assumes nothing.
use mathlib.Core.Path.{ap₂}
use mathlib.Core.List.{[], ◌∷◌}
use Prim.Native.Nat.{ℕ}
use Rattle.terms.specs.EntryTables.{limits_of}
use Rattle.terms.proofs.valid.limits.Goals as goal

pub returns : goal.returns
unfolding limits_of
returns c =
    let count = c.args.count in ap₂ (λ (p m : ℕ). 0 ∷ count ∷ 1 ∷ count ∷ p ∷ m ∷ p ∷ m ∷ 1 ∷ count ∷ []) c.plain_limit-plain.ensures c.marked_limit-marked.ensures
