-- Certificates: what a file lists (document 01, "Messages, intruder, runs" and "Blocks of 512 bytes").
use Rattle.std.specs.Prelude.{◌≡◌, length, ℕ, ◌<◌}
use mathlib.Core.List.{List, Memᴰ}
use Rattle.std.proofs.Math.Option.{Option}
use Rattle.terms.specs.Term.{Term, Message, Variable}
use Rattle.terms.specs.declared.atom.Atom.{Atom}
use Rattle.terms.specs.Atom.{known_of, partner_of}

-- A rule: from the premise, if it has one, to the conclusion. Both speak of the same variables.
pub record Rule : Type 0 where
  pub premise : Option (Term Variable)
  pub conclusion : Term Variable

pub record Certificate : Type 0 where
  pub atoms : List Atom
  pub secrets : List Message
  pub goods : List (Term Variable)
  pub bads : List (Term Variable)
  pub rules : List Rule

-- A listed secret, good pattern, bad pattern, rule. That "a good pattern is an encryption with plain and marked
-- variables", and a bad one too (02, No. 2), of either range (02, No. 3), is what numbers 7 and 8 ask of their blocks.
abbrev pub Secret : Certificate → Message → Type 0
Secret certificate m = Memᴰ m certificate.secrets

abbrev pub Good : Certificate → Term Variable → Type 0
Good certificate t = Memᴰ t certificate.goods

abbrev pub Bad : Certificate → Term Variable → Type 0
Bad certificate t = Memᴰ t certificate.bads

abbrev pub Listed : Certificate → Rule → Type 0
Listed certificate rule = Memᴰ rule certificate.rules

-- A known atom: one whose entry has known 1.
pub record Known (certificate : Certificate) (a : ℕ) : Type 0 where
  pub listed : a < length certificate.atoms
  pub known : known_of certificate.atoms a ≡ 1

-- A key's partner is its inverse. (A number that is no listed key gets one too: the intruder then opens only more.)
abbrev pub inverse : Certificate → ℕ → ℕ
inverse certificate k = partner_of certificate.atoms k
