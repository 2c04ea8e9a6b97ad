-- Flags for a file's atoms, which tell its nonces.
use Rattle.std.specs.Prelude.{◌≡◌, List, ◌↔◌, ℕ, ◌<◌, ◌≤◌, length, get_or}
use Rattle.terms.specs.declared.atom.Atom.{Atom}
use Rattle.terms.specs.Atom.{Nonce}

-- Room for the flags.
abbrev pub most_nonces : ℕ
most_nonces = 256

-- Every listed atom has a flag, and a flag is 1 if and only if its number is a nonce's.
pub record NoncesIn (atoms : List Atom) (flags : List ℕ) : Type 0 where
  pub long : length atoms ≤ length flags
  pub at : (n : ℕ) → n < length flags → (get_or flags n 0 ≡ 1) ↔ Nonce atoms n
