-- What is derived from safe messages is safe.
use mathlib.Core.Path.{◌≡◌, refl, sym, ap, ◌∙◌}
use mathlib.Core.Logic.{⊎_elim}
use mathlib.Core.List.{[], ◌∷◌, ◌++◌}
use mathlib.Core.Option.{some, none-ne-some}
use Prim.Native.Nat.{ℕ}
use native.Mathlib.Omega.{arith}
use Rattle.terms.specs.Term.{Term, atom, pair, encrypted, hashed, signed, wrapped, Wrapping, Message, Variable, replace}
use Rattle.terms.specs.Place.{Turn, left, right, inside, Place, subterm_at, IsPlace}
use Rattle.terms.specs.Turns.{nothing-above-root}
use Rattle.terms.proofs.PlaceEntryLaws.{place-turn, place-below}
use Rattle.judge.specs.Certificate.{Certificate, Secret, inverse}
use Rattle.judge.specs.Run.{Derives, had, pairs, encrypts, left_half, right_half, decrypts, hashes, signs, reads_signed}
use Rattle.judge.specs.Hat.{Hat, Protected}
use Rattle.judge.specs.Conditions.{MeetsAll}
use Rattle.judge.proofs.Runs.Safe.{Safe, HatAbove, safe-no-secret, protected-under, safe-part}

-- A hat is an encryption, and the inverse of its key is a secret.
pub record HatRoot (certificate : Certificate) (m : Message) : Type 0 where
  pub key : ℕ
  pub inner : Message
  pub same : m ≡ encrypted key inner
  pub kept : Secret certificate (atom (inverse certificate key))

module _ {certificate : Certificate} (meets : MeetsAll certificate) where
  pub hat-root : {good : Term Variable} {m : Message} {q p : Place} → Hat certificate good m q p → HatRoot certificate m
  unfolding replace
  hat-root {good} hat =
      let root = meets.kept_keys good hat.listed in
      record {
        key = root.key;
        inner = replace hat.match.by root.inner;
        same = sym hat.match.same ∙ ap (replace hat.match.by) root.same;
        kept = root.kept;
      }

  -- The only place strictly above a place of one turn is the root.
  hat-above-turn : {m : Message} (a : Turn) → HatAbove certificate m (a ∷ []) → HatRoot certificate m
  unfolding subterm_at
  hat-above-turn {m} a x = go x.place x.above.split x.stands
    where
      go : (q : Place) → a ∷ [] ≡ q ++ (x.above.turn ∷ x.above.rest) → subterm_at q m ≡ some x.message →
          HatRoot certificate m
      go [] e stands = let same : x.message ≡ m = cc in hat-root (rw same at x.hat)
      go (b ∷ q) e stands =
          absurd (nothing-above-root {q = q} (record { turn = x.above.turn; rest = x.above.rest; split = cc }))

  -- So a pair is no hat over its halves, a signature none over its message, and {m}k is none over m if the inverse of k is safe.
  pair-no-hat : {m n : Message} (a : Turn) → HatAbove certificate (pair m n) (a ∷ []) → ⊥
  pair-no-hat a x = let e = (hat-above-turn a x).same in let z : ◌≡◌ {A = ℕ} 0 1 = cc in omega arith

  signed-no-hat : {m : Message} {k : ℕ} → HatAbove certificate (signed k m) (inside ∷ []) → ⊥
  signed-no-hat x = let e = (hat-above-turn inside x).same in let z : ◌≡◌ {A = ℕ} 0 1 = cc in omega arith

  opened-no-hat : {m : Message} {k : ℕ} → Safe certificate (atom (inverse certificate k)) →
      HatAbove certificate (encrypted k m) (inside ∷ []) → ⊥
  opened-no-hat {k} safe x =
      let root = hat-above-turn inside x in
      let same : root.key ≡ k = cc in
      safe-no-secret safe (rw same at root.kept)

  -- What is put together is no secret, because the secrets are weakly closed.
  safe-pair : {m n : Message} → Safe certificate m → Safe certificate n → Safe certificate (pair m n)
  unfolding subterm_at
  safe-pair {m} {n} x y = record { safe = go }
    where
      go : (p : Place) (s : Message) → Secret certificate s → subterm_at p (pair m n) ≡ some s → IsPlace (pair m n) p →
          Protected certificate (pair m n) p
      go [] s secret e is =
          absurd (⊎_elim (safe-no-secret x) (safe-no-secret y) ((meets.weakly_closed s secret).of_pair m n cc))
      go (left ∷ p) s secret e is = protected-under (left ∷ []) refl (x.safe p s secret e (place-below (left ∷ []) refl is))
      go (right ∷ p) s secret e is = protected-under (right ∷ []) refl (y.safe p s secret e (place-below (right ∷ []) refl is))
      go (inside ∷ p) s secret e is = absurd (none-ne-some s e)

  safe-wrapped : {w : Wrapping} {m : Message} {k : ℕ} → ¬ Secret certificate (wrapped w k m) → Safe certificate m →
      Safe certificate (wrapped w k m)
  unfolding subterm_at
  safe-wrapped {w} {m} {k} off x = record { safe = go }
    where
      go : (p : Place) (s : Message) → Secret certificate s → subterm_at p (wrapped w k m) ≡ some s → IsPlace (wrapped w k m) p →
          Protected certificate (wrapped w k m) p
      go [] s secret e is = let same : s ≡ wrapped w k m = cc in absurd (off (rw same at secret))
      go (inside ∷ p) s secret e is = protected-under (inside ∷ []) refl (x.safe p s secret e (place-below (inside ∷ []) refl is))
      go (left ∷ p) s secret e is = absurd (none-ne-some s e)
      go (right ∷ p) s secret e is = absurd (none-ne-some s e)

  safe-encrypted : {m : Message} {k : ℕ} → Safe certificate m → Safe certificate (atom k) →
      Safe certificate (encrypted k m)
  safe-encrypted {m} {k} x y =
      safe-wrapped (λ secret. ⊎_elim (safe-no-secret x) (safe-no-secret y) ((meets.weakly_closed _ secret).of_encrypted m k refl)) x

  safe-hashed : {m : Message} {n : ℕ} → Safe certificate m → Safe certificate (hashed n m)
  safe-hashed {m} {n} x = safe-wrapped (λ secret. safe-no-secret x ((meets.weakly_closed _ secret).of_hashed m n refl)) x

  safe-signed : {m : Message} {k : ℕ} → Safe certificate m → Safe certificate (atom k) → Safe certificate (signed k m)
  safe-signed {m} {k} x y =
      safe-wrapped (λ secret. ⊎_elim (safe-no-secret x) (safe-no-secret y) ((meets.weakly_closed _ secret).of_signed m k refl)) x

  -- What stands below a pair, an encryption or a signature is a place.
  pair_place : {m n : Message} (a : Turn) → IsPlace (pair m n) (a ∷ [])
  pair_place a = place-turn a (λ n s e. let z : ◌≡◌ {A = ℕ} 0 1 = cc in omega arith)

  encrypted-place : {m : Message} {k : ℕ} → IsPlace (encrypted k m) (inside ∷ [])
  encrypted-place = place-turn inside (λ n s e. let z : ◌≡◌ {A = ℕ} 0 1 = cc in omega arith)

  signed-place : {m : Message} {k : ℕ} → IsPlace (signed k m) (inside ∷ [])
  signed-place = place-turn inside (λ n s e. let z : ◌≡◌ {A = ℕ} 0 1 = cc in omega arith)

  pub safe-derived : {has : Message → Type 0} → ((m : Message) → has m → Safe certificate m) →
      {m : Message} → Derives certificate has m → Safe certificate m
  unfolding subterm_at
  safe-derived base (had {m = m} h) = base m h
  safe-derived base (pairs d e) = safe-pair (safe-derived base d) (safe-derived base e)
  safe-derived base (encrypts d e) = safe-encrypted (safe-derived base d) (safe-derived base e)
  safe-derived base (left_half d) = safe-part (left ∷ []) refl (pair_place left) (pair-no-hat left) (safe-derived base d)
  safe-derived base (right_half d) = safe-part (right ∷ []) refl (pair_place right) (pair-no-hat right) (safe-derived base d)
  safe-derived base (decrypts d e) =
      safe-part (inside ∷ []) refl encrypted-place (opened-no-hat (safe-derived base e)) (safe-derived base d)
  safe-derived base (hashes d) = safe-hashed (safe-derived base d)
  safe-derived base (signs d e) = safe-signed (safe-derived base d) (safe-derived base e)
  safe-derived base (reads_signed d) = safe-part (inside ∷ []) refl signed-place signed-no-hat (safe-derived base d)
