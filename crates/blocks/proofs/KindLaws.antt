-- The kinds whose blocks list a term, one by one. Assumes nothing.
use mathlib.Core.Path.{◌≡◌}
use mathlib.Core.Logic.{◌⊎◌, inl, inr}
use Prim.Native.Nat.{ℕ}
use native.Mathlib.Omega.{arith}
use native.Mathlib.Decide.{ℕ_discrete}
use Rattle.blocks.specs.Kinds.{secret_kind, good_kind, bad_kind, rule_kind, ListsTerm, HoldsTerms}

pub secret-lists : {kind : ℕ} → kind ≡ secret_kind → ListsTerm kind
secret-lists e = record { low = omega arith; high = omega arith }

pub good-lists : {kind : ℕ} → kind ≡ good_kind → ListsTerm kind
good-lists e = record { low = omega arith; high = omega arith }

pub bad-lists : {kind : ℕ} → kind ≡ bad_kind → ListsTerm kind
bad-lists e = record { low = omega arith; high = omega arith }

pub which-lists : {kind : ℕ} → ListsTerm kind → (kind ≡ secret_kind) ⊎ ((kind ≡ good_kind) ⊎ (kind ≡ bad_kind))
which-lists {kind} w = elim (ℕ_discrete kind secret_kind) [
  | yes secret ↦ inl secret
  | no other ↦ elim (ℕ_discrete kind good_kind) [
    | yes good ↦ inr (inl good)
    | no neither ↦ inr (inr (omega (arith, w.low, w.high)))
  ]
]

-- They hold terms, and so do rules.
pub lists-holds : {kind : ℕ} → ListsTerm kind → HoldsTerms kind
lists-holds w = record { low = w.low; high = omega (arith, w.high) }

pub rule-holds : {kind : ℕ} → kind ≡ rule_kind → HoldsTerms kind
rule-holds e = record { low = omega arith; high = omega arith }
