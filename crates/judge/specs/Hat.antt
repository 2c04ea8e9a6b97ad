-- Hats and protected secrets (document 01, "Hats and cover", and 02, No. 2).
use Rattle.std.specs.Prelude.{◌≡◌, ◌++◌, ℕ}
use Rattle.std.proofs.Math.Option.{some}
use Rattle.terms.specs.Term.{Term, variable, Message, Variable, sort, marked, Range, named}
use Rattle.terms.specs.Place.{Place, subterm_at, StrictlyAbove, AtOrAbove}
use Rattle.terms.specs.Instance.{Instance}
use Rattle.judge.specs.Certificate.{Certificate, Good, Bad}

-- A mark is a marked variable; its name is its range (02, No. 3) and its number.
abbrev pub mark_named : Range × ℕ → Variable
mark_named name = named (sort marked name.0) name.1

-- The mark of this name stands at this place of the pattern. (Marks and places compare by the turns that lead to them, so a mark
-- below a hash, where there is no place, counts too: a bad pattern with such a mark is a marked one, and the mark is below every
-- place above it. In a good pattern it covers none.)
abbrev pub MarkAt : Term Variable → Place → Range × ℕ → Type 0
MarkAt pattern place name = subterm_at place pattern ≡ some (variable (mark_named name))

-- With the pattern laid on place q, a marked variable of it stands at or above place p.
pub record Mark (pattern : Term Variable) (q p : Place) : Type 0 where
  pub name : Range × ℕ
  pub place : Place
  pub stands : MarkAt pattern place name
  pub above : AtOrAbove (q ++ place) p

-- A pattern is marked if it holds at least one marked variable (02, No. 2).
pub record Marked (pattern : Term Variable) : Type 0 where
  pub name : Range × ℕ
  pub place : Place
  pub stands : MarkAt pattern place name

-- What a bad pattern cancels, where a message at place q is an instance of it (02, No. 2): without marks the hat for
-- every place p; a marked one "cancels only the protection that its own instances would give as hats, and only for
-- secrets at or below a mark".
pub data Cancels (bad : Term Variable) (q p : Place) : Type 0 where
  everywhere : ¬ Marked bad → Cancels bad q p
  at_mark : Mark bad q p → Cancels bad q p

-- A message is a hat if it is an instance of a good pattern and of no bad one; since a bad pattern may mark places, it
-- is one place by place (02, No. 2): the message at place q is a hat for place p if no bad pattern of which it is an
-- instance cancels that. The good pattern is named, because its marks count.
pub record Hat (certificate : Certificate) (good : Term Variable) (m : Message) (q p : Place) : Type 0 where
  pub listed : Good certificate good
  pub match : Instance certificate.atoms good m
  pub not_bad : (bad : Term Variable) → Bad certificate bad → Instance certificate.atoms bad m → Cancels bad q p → ⊥

-- A secret at place p of a message is protected if a hat stands strictly above it and a marked variable of that hat's
-- good pattern stands at or above it.
pub record Protected (certificate : Certificate) (m : Message) (p : Place) : Type 0 where
  pub place : Place
  pub above : StrictlyAbove place p
  pub message : Message
  pub stands : subterm_at place m ≡ some message
  pub good : Term Variable
  pub hat : Hat certificate good message place p
  pub mark : Mark good place p
