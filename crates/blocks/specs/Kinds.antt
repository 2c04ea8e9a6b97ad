-- The kinds of blocks (document 01, "Blocks of 512 bytes"): 1 atoms, 2 secret, 3 good, 4 bad, 5 rule.
use Rattle.std.specs.Prelude.{◌≡◌, ℕ, ◌≤◌, Result, Ok, Err}
use Rattle.blocks.specs.declared.kinds.Kind.{Kind}
use Rattle.blocks.specs.declared.kinds.Kind.TheVariants.{Atoms, Secret, Good, Bad, Rule}
use Rattle.blocks.specs.declared.kinds.UnknownKind.{UnknownKind}

abbrev pub atoms_kind : ℕ
atoms_kind = 1

abbrev pub secret_kind : ℕ
secret_kind = 2

abbrev pub good_kind : ℕ
good_kind = 3

abbrev pub bad_kind : ℕ
bad_kind = 4

abbrev pub rule_kind : ℕ
rule_kind = 5

-- Byte 0 of the blocks of a kind.
abbrev pub byte_of : Kind → ℕ
byte_of Atoms = atoms_kind
byte_of Secret = secret_kind
byte_of Good = good_kind
byte_of Bad = bad_kind
byte_of Rule = rule_kind

-- The kind that a byte names; only 1 to 5 name one.
abbrev pub Names : ℕ → Result Kind UnknownKind → Type 0
Names byte (Ok kind) = byte ≡ byte_of kind
Names byte (Err e) = ¬ ((atoms_kind ≤ byte) × (byte ≤ rule_kind))

-- A kind whose blocks list one term each: "kinds 2 to 4".
pub record ListsTerm (kind : ℕ) : Type 0 where
  pub low : secret_kind ≤ kind
  pub high : kind ≤ bad_kind

-- A kind whose blocks hold terms: those that list one, and rules.
pub record HoldsTerms (kind : ℕ) : Type 0 where
  pub low : secret_kind ≤ kind
  pub high : kind ≤ rule_kind
