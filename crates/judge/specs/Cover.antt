-- Cover (document 01, "Hats and cover", and 02, No. 2, No. 4 and No. 7: neither a hash nor a signature is a hat, and neither
-- closes a place; encryptions alone do).
use Rattle.std.specs.Prelude.{◌≡◌, ◌++◌, ℕ}
use Rattle.std.proofs.Math.Option.{some}
use Rattle.terms.specs.Term.{Term, variable, encrypted, Message, Variable, Range, as_term}
use Rattle.terms.specs.Place.{Place, subterm_at, StrictlyAbove, AtOrAbove, IsPlace}
use Rattle.terms.specs.Entry.{Placed}
use Rattle.terms.specs.Instance.{Matches, Share}
use Rattle.judge.specs.Certificate.{Rule, Certificate, Secret, Good, Bad}
use Rattle.judge.specs.Hat.{MarkAt, Mark, Cancels}

-- With the bad pattern laid on place q, a marked variable of it stands at or below place p.
pub record MarkBelow (bad : Term Variable) (q p : Place) : Type 0 where
  pub name : Range × ℕ
  pub place : Place
  pub stands : MarkAt bad place name
  pub below : AtOrAbove p (q ++ place)

-- When a bad pattern that shares an instance with the subterm at place q counts against a sure hat for place p
-- (02, No. 2): one without marks always, a marked one "only with a mark at, above or below the place".
--
-- Why a mark below counts here and not for an open place: a variable's place stands for all that a replacement puts
-- there, and any part of that may be a secret. A sure hat has to protect every part, and with a mark below the place one
-- part may stand at the mark, bare. At an open place no part may rest on the encryption above it, and with a mark below
-- the place the parts beside the mark do: sent on, they would be bare. So to leave "below" out here would let a secret
-- out at the mark, and to count it there would let one out beside the mark. (Where a symbol stands, "below" counts by
-- the request's letter; the parts there are places of their own.)
pub data MayCancel (bad : Term Variable) (q p : Place) : Type 0 where
  cancels : Cancels bad q p → MayCancel bad q p
  below_place : MarkBelow bad q p → MayCancel bad q p

-- Sure hat for a place: a subterm strictly above the place that is a good pattern with its variables replaced by
-- terms, a mark at or above the place, and that shares an instance with no bad pattern (02, No. 2: none that counts for
-- the place).
pub record SureHat (certificate : Certificate) (t : Term Variable) (p : Place) : Type 0 where
  pub place : Place
  pub above : StrictlyAbove place p
  pub subterm : Term Variable
  pub stands : subterm_at place t ≡ some subterm
  pub good : Term Variable
  pub listed : Good certificate good
  pub match : Matches certificate.atoms good subterm
  pub mark : Mark good place p
  pub not_bad : (bad : Term Variable) → Bad certificate bad → Share certificate.atoms bad subterm → MayCancel bad place p → ⊥

-- What an open place p may have above it, at place q: an encryption that shares an instance with no good pattern, or
-- that is a bad pattern with its variables replaced by terms, which is unmarked or has a mark at or above p (02, No. 2).
pub data NoHat (certificate : Certificate) (t : Term Variable) (q p : Place) : Type 0 where
  shares_no_good : ((good : Term Variable) → Good certificate good → Share certificate.atoms good t → ⊥) → NoHat certificate t q p
  is_bad : {bad : Term Variable} → Bad certificate bad → Matches certificate.atoms bad t → Cancels bad q p → NoHat certificate t q p

-- Open place of a premise: every encryption strictly above it either shares an instance with no good pattern, or is a
-- bad pattern with its variables replaced by terms (02, No. 2: a marked one "counts only with a mark at or above it").
-- (`AtOpenPlace` says that the premise has the place.)
pub record Open (certificate : Certificate) (premise : Term Variable) (p : Place) : Type 0 where
  pub every : (q : Place) → StrictlyAbove q p → (k : ℕ) (t : Term Variable) →
      subterm_at q premise ≡ some (encrypted k t) → NoHat certificate (encrypted k t) q p

-- The term stands at an open place of the rule's premise. A rule without premise has no open place.
pub record AtOpenPlace (certificate : Certificate) (rule : Rule) (t : Term Variable) : Type 0 where
  pub premise : Term Variable
  pub given : rule.premise ≡ some premise
  pub place : Place
  pub is_place : IsPlace premise place
  pub stands : subterm_at place premise ≡ some t
  pub is_open : Open certificate premise place

-- "A listed secret at an open place" of a premise, the place p (02, No. 4). The secret itself stands there, symbol for symbol.
pub record SecretOpenAt (certificate : Certificate) (premise : Term Variable) (p : Place) : Type 0 where
  pub secret : Message
  pub listed : Secret certificate secret
  pub is_place : IsPlace premise p
  pub stands : subterm_at p premise ≡ some (as_term secret)
  pub is_open : Open certificate premise p

-- "A rule whose premise has a listed secret at an open place" (02, No. 4).
pub record HasOpenSecret (certificate : Certificate) (rule : Rule) : Type 0 where
  pub premise : Term Variable
  pub given : rule.premise ≡ some premise
  pub place : Place
  pub open_secret : SecretOpenAt certificate premise place

-- Risky place of a conclusion: a variable, of any sort, or a subterm that shares an instance with a secret; t is what stands
-- there.
pub data Risky (certificate : Certificate) (t : Term Variable) : Type 0 where
  is_variable : {x : Variable} → t ≡ variable x → Risky certificate t
  shares_secret : {secret : Message} → Secret certificate secret → Share certificate.atoms t (as_term secret) → Risky certificate t

-- Covered: there is a sure hat for the place, or the same subterm, symbol for symbol, stands at an open place of the
-- premise. The place is p, and t is the subterm that stands there in the conclusion.
pub data Covered (certificate : Certificate) (rule : Rule) (p : Place) (t : Term Variable) : Type 0 where
  sure_hat : SureHat certificate rule.conclusion p → Covered certificate rule p t
  in_premise : AtOpenPlace certificate rule t → Covered certificate rule p t

-- A rule passes if every risky place of its conclusion is covered. (02, No. 4: "the dead-rule allowance ends".)
pub record Passes (certificate : Certificate) (rule : Rule) : Type 0 where
  pub covered : (p : Place) (t : Term Variable) → subterm_at p rule.conclusion ≡ some t → IsPlace rule.conclusion p →
      Risky certificate t → Covered certificate rule p t

-- A place of the conclusion that stands at entry k is covered if it is risky.
abbrev pub FineAt : Certificate → Rule → ℕ → Type 0
FineAt certificate rule k =
    (p : Place) (t : Term Variable) → Placed rule.conclusion k p t → IsPlace rule.conclusion p → Risky certificate t →
    Covered certificate rule p t
