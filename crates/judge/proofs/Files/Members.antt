-- The blocks of one kind, as a list and by their numbers; the members of any list by theirs.
use mathlib.Core.Path.{◌≡◌, refl, sym, ap, subst}
use mathlib.Core.Logic.{◌⊎◌, inl, inr, ⊎_elim}
use mathlib.Core.Bool.{Bool, true, false}
use mathlib.Core.List.Memᴰ
use mathlib.Core.List.{List, [], ◌∷◌, Memᴰ, map}
use Prim.Native.Nat.{ℕ, zero, suc, ◌+◌, ◌<◌, ◌≤◌}
use native.Mathlib.Decide.{ℕ_discrete}
use native.Mathlib.Omega.{arith}
use lib.Dec.{eqb}
use lib.ListN.{length, get_or}
use Rattle.blocks.specs.Block.{block_at, kind_of}
use Rattle.terms.proofs.AnswerLaws.{says_eq}
use Rattle.terms.specs.Decisions.{Says}
use Rattle.judge.specs.File.{blocks_from, blocks_of, of_kind, block_count, kind_count}
use Rattle.judge.specs.Meaning.{HasKind, Every}

-- The block of a kind at a number.
pub record BlockOf (file : List ℕ) (kind : ℕ) (b : List ℕ) : Type 0 where
  pub number : ℕ
  pub inside : number < block_count file
  pub has_kind : kind_of (block_at file number) ≡ kind
  pub same : b ≡ block_at file number

-- The blocks of a kind are those.
module _ (file : List ℕ) {kind : ℕ} where
  of-kind-from : (i left : ℕ) {b : List ℕ} → i + left ≤ block_count file → Memᴰ b (of_kind kind (blocks_from file i left)) → BlockOf file kind b
  unfolding of_kind blocks_from
  of-kind-from i zero end m = absurd (Memᴰ.not-nil m)
  of-kind-from i (suc left) {b} end m = go (eqb (kind_of (block_at file i)) kind) (says_eq (kind_of (block_at file i)) kind) m
      (λ n. of-kind-from (suc i) left (omega arith) n)
    where
      go : (t : Bool) → Says t (kind_of (block_at file i) ≡ kind)
          → Memᴰ b (elim t [ true ↦ block_at file i ∷ of_kind kind (blocks_from file (suc i) left) | false ↦ of_kind kind (blocks_from file (suc i) left) ])
          → (Memᴰ b (of_kind kind (blocks_from file (suc i) left)) → BlockOf file kind b) → BlockOf file kind b
      go true e n rest = ⊎_elim (λ (q : b ≡ block_at file i). record { number = i; inside = omega arith; has_kind = e; same = q })
          rest (Memᴰ.cases_cons n)
      go false e n rest = rest n

  in-kind-from : (i left j : ℕ) → i ≤ j → j < i + left → kind_of (block_at file j) ≡ kind
      → Memᴰ (block_at file j) (of_kind kind (blocks_from file i left))
  unfolding of_kind blocks_from
  in-kind-from i zero j l h e = absurd (omega arith)
  in-kind-from i (suc left) j l h e = go (eqb (kind_of (block_at file i)) kind) (says_eq (kind_of (block_at file i)) kind) (ℕ_discrete j i)
      (λ n. in-kind-from (suc i) left j n (omega arith) e)
    where
      go : (t : Bool) → Says t (kind_of (block_at file i) ≡ kind) → Dec (j ≡ i)
          → (suc i ≤ j → Memᴰ (block_at file j) (of_kind kind (blocks_from file (suc i) left)))
          → Memᴰ (block_at file j) (elim t [
            | true ↦ block_at file i ∷ of_kind kind (blocks_from file (suc i) left)
            | false ↦ of_kind kind (blocks_from file (suc i) left)
          ])
      go true k (yes q) rest = Memᴰ.head (ap (block_at file) q)
      go true k (no n) rest = Memᴰ.tail (rest (omega arith))
      go false k (yes q) rest = absurd (k (rw q at e))
      go false k (no n) rest = rest (omega arith)

  pub listed-block : {b : List ℕ} → Memᴰ b (of_kind kind (blocks_of file)) → BlockOf file kind b
  unfolding blocks_of
  listed-block m = of-kind-from 0 (block_count file) (omega arith) m

  pub block_listed : {i : ℕ} → i < block_count file → kind_of (block_at file i) ≡ kind → Memᴰ (block_at file i) (of_kind kind (blocks_of file))
  unfolding blocks_of
  block_listed {i} inside e = in-kind-from 0 (block_count file) i (omega arith) (omega arith) e

module _ (kind : ℕ) (file : List ℕ) where
  -- One is counted just where there is one.
  pub count-has : 1 ≤ kind_count kind file → HasKind kind file
  unfolding kind_count
  count-has h = go (of_kind kind (blocks_of file)) h (λ b m. listed-block file m)
    where
      go : (l : List (List ℕ)) → 1 ≤ length l → ((b : List ℕ) → Memᴰ b l → BlockOf file kind b) → HasKind kind file
      go [] n find = absurd (omega arith)
      go (b ∷ l) n find = let w = find b (Memᴰ.head refl) in record { block = w.number; inside = w.inside; same = w.has_kind }

  pub has-count : HasKind kind file → 1 ≤ kind_count kind file
  unfolding kind_count
  has-count w = go (of_kind kind (blocks_of file)) (block_listed file w.inside w.same)
    where
      go : (l : List (List ℕ)) {b : List ℕ} → Memᴰ b l → 1 ≤ length l
      go [] m = absurd (Memᴰ.not-nil m)
      go (b ∷ l) m = omega arith

-- What holds of the blocks of a kind holds of what they list.
pub listed : {A : Type 0} (file : List ℕ) (kind : ℕ) (f : List ℕ → A) (P : A → Type 0) → Every kind file (λ b. P (f b))
    → (a : A) → Memᴰ a (map f (of_kind kind (blocks_of file))) → P a
listed file kind f P every a m =
    let o = Memᴰ.of_map f (of_kind kind (blocks_of file)) m in
    let w = listed-block file o.1 in
    subst P o.2 (subst (λ (b : List ℕ). P (f b)) (sym w.same) (every w.number w.inside w.has_kind))

-- A member of a list, by its number.
pub member-number : {A : Type 0} {a : A} (l : List A) (d : A) → Memᴰ a l → (k : ℕ) × (k < length l) × (get_or l k d ≡ a)
member-number [] d m = absurd (Memᴰ.not-nil m)
member-number {A} {a} (x ∷ l) d m = go (Memᴰ.cases_cons m) (λ n. member-number l d n)
  where
    go : (a ≡ x) ⊎ Memᴰ a l → (Memᴰ a l → (k : ℕ) × (k < length l) × (get_or l k d ≡ a))
        → (k : ℕ) × (k < length (x ∷ l)) × (get_or (x ∷ l) k d ≡ a)
    go (inl e) rest = (0, omega arith, sym e)
    go (inr n) rest = let w = rest n in (suc w.0, omega (arith, w.1), w.2)

pub number-member : {A : Type 0} (l : List A) (d : A) (k : ℕ) → k < length l → Memᴰ (get_or l k d) l
number-member [] d k h = absurd (omega arith)
number-member (x ∷ l) d zero h = Memᴰ.head refl
number-member (x ∷ l) d (suc k) h = Memᴰ.tail (number-member l d k (omega arith))
