-- Exactly one term (document 01, number 8). `one_term?` of Reading.antt decides it.
use Rattle.std.specs.Prelude.{◌≡◌, refl, List, ℕ, ◌<◌}
use Rattle.std.proofs.Math.Option.{some}
use Rattle.std.proofs.Common.{arith}
use Rattle.terms.specs.Term.{Term, variable, atom, pair, encrypted, Variable, named, wrapped, encryption, hash, signature}
use Rattle.terms.specs.Tag.{variables}
use Rattle.terms.specs.Entry.{Symbol, term_entries, symbol_of, with_zero}

-- The variables of a file's terms are numbered 0 to 7.
unfoldable pub Numbered : Term Variable → Type 0
Numbered (variable (named s x)) = x < variables
Numbered (atom a) = Unit {0}
Numbered (pair t u) = Numbered t × Numbered u
Numbered (wrapped w k t) = Numbered t

-- Number 8: the entries are exactly one term, "parents before children, left before right".
pub record OneTerm (e : List ℕ) : Type 0 where
  pub term : Term Variable
  pub numbers : Numbered term
  pub is : e ≡ term_entries term

-- The entry has a symbol, as number 7 asks. Where each entry has one, the numbers of the variables need not be said
-- (`some_term` of proofs/OneTermLaws.antt).
pub record HasSymbol (tag zero_byte value : ℕ) : Type 0 where
  pub symbol : Symbol
  pub is : with_zero zero_byte (symbol_of tag value) ≡ some symbol

-- Number 8: a pattern's root is an encryption: no hash and no signature (02, No. 7).
pub record IsEncryption {X : Type 0} (t : Term X) : Type 0 where
  pub key : ℕ
  pub content : Term X
  pub is : t ≡ encrypted key content

unfoldable pub encryption? : {X : Type 0} (t : Term X) → Dec (IsEncryption t)
encryption? (variable x) = no (λ w. (let e = w.is in let z : ◌≡◌ {A = ℕ} 0 1 = cc in omega arith))
encryption? (atom a) = no (λ w. (let e = w.is in let z : ◌≡◌ {A = ℕ} 0 1 = cc in omega arith))
encryption? (pair t u) = no (λ w. (let e = w.is in let z : ◌≡◌ {A = ℕ} 0 1 = cc in omega arith))
encryption? (wrapped encryption k t) = yes (record { key = k; content = t; is = refl })
encryption? (wrapped hash k t) = no (λ w. (let e = w.is in let z : ◌≡◌ {A = ℕ} 0 1 = cc in omega arith))
encryption? (wrapped signature k t) = no (λ w. (let e = w.is in let z : ◌≡◌ {A = ℕ} 0 1 = cc in omega arith))
