-- Safe messages: every secret at a place of them is protected.
use mathlib.Core.Path.{◌≡◌, refl, sym, ◌∙◌}
use mathlib.Core.Logic.{◌⊎◌, inl, inr}
use mathlib.Core.List.{[], ◌∷◌, ◌++◌, append_assoc}
use mathlib.Core.Option.{some}
use Rattle.terms.specs.Term.{Term, Message, Variable}
use Rattle.terms.specs.Place.{Place, subterm_at, StrictlyAbove, AtOrAbove, IsPlace}
use Rattle.terms.specs.Turns.{nothing-above-root}
use Rattle.terms.proofs.PlaceLaws.{subterm_at-append, beginnings, strictly-above-under, at-or-above-under, strictly-above-from, at-or-above-from}
use Rattle.terms.proofs.PlaceEntryLaws.{place-root, place-append}
use Rattle.judge.specs.Certificate.{Certificate, Secret}
use Rattle.judge.specs.Hat.{Mark, Cancels, everywhere, at_mark, Hat, Protected}

pub record Safe (certificate : Certificate) (m : Message) : Type 0 where
  pub safe : (p : Place) (s : Message) → Secret certificate s → subterm_at p m ≡ some s → IsPlace m p → Protected certificate m p

-- A hat for some place at or below p stands strictly above p.
pub record HatAbove (certificate : Certificate) (m : Message) (p : Place) : Type 0 where
  pub place : Place
  pub above : StrictlyAbove place p
  pub message : Message
  pub stands : subterm_at place m ≡ some message
  pub good : Term Variable
  pub rest : Place
  pub hat : Hat certificate good message place (p ++ rest)

-- Marks, and what is cancelled, seen from above and from below.
mark-under : (o : Place) {pattern : Term Variable} {q p : Place} → Mark pattern q p → Mark pattern (o ++ q) (o ++ p)
mark-under o m =
    record { name = m.name; place = m.place; stands = m.stands; above = rw append_assoc (at-or-above-under o m.above) }

mark-from : (o : Place) {pattern : Term Variable} {q p : Place} → Mark pattern (o ++ q) (o ++ p) → Mark pattern q p
mark-from o m =
    record { name = m.name; place = m.place; stands = m.stands; above = at-or-above-from o (rw append_assoc at m.above) }

cancels-under : (o : Place) {bad : Term Variable} {q p : Place} → Cancels bad q p → Cancels bad (o ++ q) (o ++ p)
cancels-under o (everywhere off) = everywhere off
cancels-under o (at_mark m) = at_mark (mark-under o m)

cancels-from : (o : Place) {bad : Term Variable} {q p : Place} → Cancels bad (o ++ q) (o ++ p) → Cancels bad q p
cancels-from o (everywhere off) = everywhere off
cancels-from o (at_mark m) = at_mark (mark-from o m)

module _ {certificate : Certificate} where
  hat-under : (o : Place) {good : Term Variable} {m : Message} {q p : Place} → Hat certificate good m q p → Hat certificate good m (o ++ q) (o ++ p)
  hat-under o h =
      record { listed = h.listed; match = h.match; not_bad = λ bad listed match over. h.not_bad bad listed match (cancels-from o over) }

  hat-from : (o : Place) {good : Term Variable} {m : Message} {q p : Place} → Hat certificate good m (o ++ q) (o ++ p) → Hat certificate good m q p
  hat-from o h =
      record { listed = h.listed; match = h.match; not_bad = λ bad listed match over. h.not_bad bad listed match (cancels-under o over) }

  -- A safe message is no secret itself: nothing stands above its root.
  pub safe-no-secret : {m : Message} → Safe certificate m → Secret certificate m → ⊥
  unfolding subterm_at
  safe-no-secret {m} x secret = nothing-above-root (x.safe [] m secret refl place-root).above

  -- What is protected in a part is protected in the whole.
  pub protected-under : {m n : Message} (q : Place) {p : Place} → subterm_at q n ≡ some m →
      Protected certificate m p → Protected certificate n (q ++ p)
  protected-under {n} q stands x = record {
    place = q ++ x.place;
    above = strictly-above-under q x.above;
    message = x.message;
    stands = subterm_at-append q x.place n stands ∙ x.stands;
    good = x.good;
    hat = hat-under q x.hat;
    mark = mark-under q x.mark;
  }

  -- What is protected in the whole is protected in a part that has no hat above it.
  protected-from : {m n : Message} (q p : Place) → subterm_at q n ≡ some m → (HatAbove certificate n q → ⊥) →
      Protected certificate n (q ++ p) → Protected certificate m p
  protected-from {m} {n} q p stands no_hat x =
      go (beginnings q x.place p (x.above.turn ∷ x.above.rest) x.above.split)
    where
      go : StrictlyAbove x.place q ⊎ AtOrAbove q x.place → Protected certificate m p
      go (inl above) = absurd (no_hat (record {
        place = x.place;
        above = above;
        message = x.message;
        stands = x.stands;
        good = x.good;
        rest = p;
        hat = x.hat;
      }))
      go (inr w) = record {
        place = w.rest;
        above = strictly-above-from q (rw w.split at x.above);
        message = x.message;
        stands = sym (subterm_at-append q w.rest n stands) ∙ (rw w.split at x.stands);
        good = x.good;
        hat = hat-from q (rw w.split at x.hat);
        mark = mark-from q (rw w.split at x.mark);
      }

  -- So a part of a safe message is safe, if no hat stands above it.
  pub safe-part : {m n : Message} (q : Place) → subterm_at q n ≡ some m → IsPlace n q → (HatAbove certificate n q → ⊥) →
      Safe certificate n → Safe certificate m
  safe-part {m} {n} q stands place no_hat x = record {
    safe = λ p s secret e is.
        protected-from q p stands no_hat (x.safe (q ++ p) s secret (subterm_at-append q p n stands ∙ e) (place-append q stands place is));
  }
