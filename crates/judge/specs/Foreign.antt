-- Foreign atoms (document 01: "Foreign atoms, numbered from 1,000 up, are in no file. All are nonces and known"): which atoms
-- and keys the terms of a certificate hold, and cover by messages over the listed and the foreign atoms alone, with listed
-- keys. That this is the same cover is `same-cover` of proofs/Files/ForeignLaws.antt.
use Rattle.std.specs.Prelude.{◌≡◌, ◌↔◌, ℕ, ◌<◌}
use Rattle.std.proofs.Math.Option.{some}
use Rattle.terms.specs.Term.{Term, variable, encrypted, Message, Variable, Wrapping, range_of, as_term, Foreign}
use Rattle.terms.specs.Atom.{IsKey}
use Rattle.terms.specs.TermEntry.{NumberRight}
use Rattle.terms.specs.Place.{Place, subterm_at, StrictlyAbove}
use Rattle.terms.specs.Built.{Built, BuiltMatch, BuiltShare, MessageAtom}
use Rattle.judge.specs.Certificate.{Rule, Certificate, Secret, Good, Bad, Listed}
use Rattle.judge.specs.Hat.{Mark, Cancels}
use Rattle.judge.specs.Cover.{MayCancel, Risky, SureHat, Open}

-- ---- what a certificate's terms hold

-- Every atom a of every listed term has A a, and every number k with something around a term, w, has K w k.
pub record Holding (A : ℕ → Type 0) (K : Wrapping → ℕ → Type 0) (certificate : Certificate) : Type 0 where
  pub secrets : (m : Message) → Secret certificate m → Built A K m
  pub goods : (t : Term Variable) → Good certificate t → Built A K t
  pub bads : (t : Term Variable) → Bad certificate t → Built A K t
  pub premises : (rule : Rule) → Listed certificate rule → (t : Term Variable) → rule.premise ≡ some t → Built A K t
  pub conclusions : (rule : Rule) → Listed certificate rule → Built A K rule.conclusion

-- "Foreign atoms are in no file": none is an atom or a key of a listed term. "All are nonces": none is a key, and `Nonce`
-- (terms/specs/Atom.antt) says that each is one.
pub record NoForeign (certificate : Certificate) : Type 0 where
  pub terms : Holding (λ a. a < 1000) (λ w k. k < 1000) certificate
  pub keys : (k : ℕ) → Foreign k → IsKey certificate.atoms k → ⊥

-- ---- messages over the listed and the foreign atoms alone, with listed keys (private ones to sign with, and 0 with a hash)

-- Replaced by such terms; and shared: such a message, by such replacements.
abbrev pub ProperMatch : Certificate → Term Variable → Term Variable → Type 0
ProperMatch certificate p t = BuiltMatch (MessageAtom certificate.atoms) (NumberRight certificate.atoms) certificate.atoms range_of p t

abbrev pub ProperShare : Certificate → Term Variable → Term Variable → Type 0
ProperShare certificate s t = BuiltShare (MessageAtom certificate.atoms) (NumberRight certificate.atoms) certificate.atoms s t

-- `Risky`, `SureHat`, `NoHat` and `Open` of Cover.antt, with these.
pub data ProperRisky (certificate : Certificate) (t : Term Variable) : Type 0 where
  is_variable : {x : Variable} → t ≡ variable x → ProperRisky certificate t
  shares_secret : {secret : Message} → Secret certificate secret → ProperShare certificate t (as_term secret) → ProperRisky certificate t

pub record ProperSureHat (certificate : Certificate) (t : Term Variable) (p : Place) : Type 0 where
  pub place : Place
  pub above : StrictlyAbove place p
  pub subterm : Term Variable
  pub stands : subterm_at place t ≡ some subterm
  pub good : Term Variable
  pub listed : Good certificate good
  pub match : ProperMatch certificate good subterm
  pub mark : Mark good place p
  pub not_bad : (bad : Term Variable) → Bad certificate bad → ProperShare certificate bad subterm → MayCancel bad place p → ⊥

pub data ProperNoHat (certificate : Certificate) (t : Term Variable) (q p : Place) : Type 0 where
  shares_no_good : ((good : Term Variable) → Good certificate good → ProperShare certificate good t → ⊥)
      → ProperNoHat certificate t q p
  is_bad : {bad : Term Variable} → Bad certificate bad → ProperMatch certificate bad t → Cancels bad q p → ProperNoHat certificate t q p

pub record ProperOpen (certificate : Certificate) (premise : Term Variable) (p : Place) : Type 0 where
  pub every : (q : Place) → StrictlyAbove q p → (k : ℕ) (t : Term Variable) →
      subterm_at q premise ≡ some (encrypted k t) → ProperNoHat certificate (encrypted k t) q p

-- It is the same cover of a rule: the restriction changes no risky place, no sure hat and no open place.
pub record SameCover (certificate : Certificate) (rule : Rule) : Type 0 where
  pub risky : (p : Place) (t : Term Variable) → subterm_at p rule.conclusion ≡ some t
      → Risky certificate t ↔ ProperRisky certificate t
  pub sure_hats : (p : Place) → SureHat certificate rule.conclusion p ↔ ProperSureHat certificate rule.conclusion p
  pub opens : (premise : Term Variable) → rule.premise ≡ some premise → (p : Place)
      → Open certificate premise p ↔ ProperOpen certificate premise p
