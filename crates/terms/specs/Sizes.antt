-- Tables of sizes: for each entry, how many entries the term has that begins there.
use Rattle.std.specs.Prelude.{◌≡◌, List, ℕ, ◌+◌, ◌*◌, ◌<◌, ◌≤◌, length, get_or}
use Rattle.terms.specs.TermGraph.{size_in}

-- The table has, from `base` on, the sizes of the terms at e's entries from entry `first` on.
pub record SizedFrom (e z : List ℕ) (base first : ℕ) : Type 0 where
  pub room : 4 * base + length e ≤ 4 * length z
  pub at : (k : ℕ) → first ≤ k → 4 * (k + 1) ≤ length e → get_or z (base + k) 0 ≡ size_in e k

-- The first n entries of a table stay as they are.
pub record KeptBelow (n : ℕ) (old new : List ℕ) : Type 0 where
  pub long : length new ≡ length old
  pub same : (k : ℕ) → k < n → get_or new k 0 ≡ get_or old k 0
