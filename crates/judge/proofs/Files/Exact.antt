-- Finders of faults, and what they find. Each is made of tests; what it finds is made of what the tests say.
use mathlib.Core.Path.{◌≡◌, refl, sym, ap, ◌∙◌}
use mathlib.Core.Logic.{◌⊎◌, inl, inr}
use mathlib.Core.Bool.{Bool, true, false, false≢true, ◌&&◌}
use mathlib.Core.Option.{Option, none, some, none-ne-some, some-injective}
use Prim.Native.Nat.{ℕ, zero, suc, ◌+◌, ◌<◌, ◌≤◌}
use native.Mathlib.Decide.{ℕ_discrete}
use native.Mathlib.Omega.{arith}
use lib.Dec.{leb}
use borrow.Author.Tests.{leb-true, le-leb}
use Rattle.blocks.specs.Layout.{within}
use Rattle.terms.specs.First.{Found, FirstNot, fails, holds, first_not}
use Rattle.std.specs.Prelude.{Some, None}
use Rattle.terms.proofs.FirstLaws.{first-is, first-only}
use Rattle.terms.specs.Decide.{answer}
use Rattle.terms.specs.Decisions.{Says}
use Rattle.judge.specs.declared.verdict.Fault.{Fault}
use Rattle.judge.specs.Verdict.{first_fault}

-- No fault is found just where all is right, and a fault just where it is the one that is meant.
pub record Exact (Right : Type 0) (Wrong : Fault → Type 0) (found : Option Fault) : Type 0 where
  pub none_right : found ≡ none → Right
  pub right-none : Right → found ≡ none
  pub some-wrong : (f : Fault) → found ≡ some f → Wrong f
  pub wrong-some : (f : Fault) → Wrong f → found ≡ some f

-- The two cases.
pub found_none : {Right : Type 0} {Wrong : Fault → Type 0} → Right → ((f : Fault) → ¬ Wrong f) → Exact Right Wrong none
found_none r w = record {
  none_right = λ e. r;
  right-none = λ p. refl;
  some-wrong = λ f e. absurd (none-ne-some f e);
  wrong-some = λ f v. absurd (w f v);
}

pub found_some : {Right : Type 0} {Wrong : Fault → Type 0} (f : Fault) → ¬ Right → Wrong f → ((g : Fault) → Wrong g → g ≡ f)
    → Exact Right Wrong (some f)
found_some {Right} {Wrong} f r w only = record {
  none_right = λ e. absurd (none-ne-some f (sym e));
  right-none = λ p. absurd (r p);
  some-wrong = λ g e. rw (← (some-injective f g e)) w;
  wrong-some = λ g v. ap some (sym (only g v));
}

-- A test that is true just where P holds, and the answer of a decision.
pub says-test : {P : Type 0} (t : Bool) → (t ≡ true → P) → (P → t ≡ true) → Says t P
says-test true to back = to refl
says-test false to back = λ p. false≢true (back p)

pub says-decided : {P : Type 0} (d : Dec P) → Says (answer d) P
says-decided (yes p) = p
says-decided (no n) = n

pub says-le : (a b : ℕ) → Says (leb a b) (a ≤ b)
says-le a b = says-test (leb a b) (leb-true a b) (le-leb a b)

pub says_both : (P Q : Type 0) (s t : Bool) → Says s P → Says t Q → Says (s && t) (P × Q)
says_both P Q true true p q = (p, q)
says_both P Q true false p n = λ w. n w.1
says_both P Q false true n q = λ w. n w.0
says_both P Q false false n m = λ w. n w.0

pub says-within : (low high x : ℕ) → Says (within low high x) ((low ≤ x) × (x ≤ high))
says-within low high x = says_both (low ≤ x) (x ≤ high) (leb low x) (leb x high) (says-le low x) (says-le x high)

-- In other words.
pub reworded : {R R' : Type 0} {W W' : Fault → Type 0} {o : Option Fault} → (R → R') → (R' → R)
    → ((f : Fault) → W f → W' f) → ((f : Fault) → W' f → W f) → Exact R W o → Exact R' W' o
reworded a b c d x = record {
  none_right = λ e. a (x.none_right e);
  right-none = λ r. x.right-none (b r);
  some-wrong = λ f e. c f (x.some-wrong f e);
  wrong-some = λ f w. x.wrong-some f (d f w);
}

-- A test.
pub tested : {P : Type 0} (t : Bool) (f : Fault) → Says t P
    → Exact P (λ g. (g ≡ f) × (¬ P)) (elim t [ true ↦ none | false ↦ some f ])
tested true f p = found_none p (λ g w. w.1 p)
tested false f n = found_some f n (refl, n) (λ g w. w.0)

-- A test, and something after it.
pub tested-then : {P B : Type 0} {U : Fault → Type 0} {y : Option Fault} (t : Bool) (f : Fault) → Says t P → (P → Exact B U y)
    → Exact (P × B) (λ g. ((g ≡ f) × (¬ P)) ⊎ (P × U g)) (elim t [ true ↦ y | false ↦ some f ])
tested-then {P} {B} {U} {y} true f p next = reworded (λ b. (p, b)) (λ r. r.1) (λ g v. inr (p, v)) back (next p)
  where
    back : (g : Fault) → ((g ≡ f) × (¬ P)) ⊎ (P × U g) → U g
    back g (inl w) = absurd (w.1 p)
    back g (inr w) = w.1
tested-then {P} {B} {U} {y} false f n next = found_some f (λ r. n r.0) (inl (refl, n)) only
  where
    only : (g : Fault) → ((g ≡ f) × (¬ P)) ⊎ (P × U g) → g ≡ f
    only g (inl w) = w.0
    only g (inr w) = absurd (n w.0)

-- One of two, by a test.
pub either : {P A B : Type 0} {W U : Fault → Type 0} {x y : Option Fault} (t : Bool) → Says t P
    → (P → Exact A W x) → (¬ P → Exact B U y)
    → Exact ((P → A) × (¬ P → B)) (λ g. (P × W g) ⊎ ((¬ P) × U g)) (elim t [ true ↦ x | false ↦ y ])
either {P} {A} {B} {W} {U} true p one other =
    reworded (λ a. ((λ q. a), (λ n. absurd (n p)))) (λ r. r.0 p) (λ g w. inl (p, w)) back (one p)
  where
    back : (g : Fault) → (P × W g) ⊎ ((¬ P) × U g) → W g
    back g (inl w) = w.1
    back g (inr w) = absurd (w.0 p)
either {P} {A} {B} {W} {U} false n one other =
    reworded (λ b. ((λ p. absurd (n p)), (λ m. b))) (λ r. r.1 n) (λ g v. inr (n, v)) back (other n)
  where
    back : (g : Fault) → (P × W g) ⊎ ((¬ P) × U g) → U g
    back g (inl w) = absurd (n w.0)
    back g (inr w) = w.1

-- A finder, and another after it.
pub then : {A B : Type 0} {W U : Fault → Type 0} {y : Option Fault} (x : Option Fault) → Exact A W x → (A → Exact B U y)
    → Exact (A × B) (λ g. W g ⊎ (A × U g)) (elim x [ some f ↦ some f | none ↦ y ])
then {A} {B} {W} {U} {y} none x next =
    let a = x.none_right refl in
    reworded (λ b. (a, b)) (λ r. r.1) (λ g v. inr (a, v)) back (next a)
  where
    back : (g : Fault) → W g ⊎ (A × U g) → U g
    back g (inl w) = absurd (none-ne-some g (x.wrong-some g w))
    back g (inr w) = w.1
then {A} {B} {W} {U} {y} (some f) x next = found_some f (λ r. no-right r.0) (inl (x.some-wrong f refl)) only
  where
    no-right : ¬ A
    no-right a = none-ne-some f (sym (x.right-none a))

    only : (g : Fault) → W g ⊎ (A × U g) → g ≡ f
    only g (inl w) = sym (some-injective f g (x.wrong-some g w))
    only g (inr w) = absurd (no-right w.0)

-- The first number of which a claim does not hold.
pub data FirstPlace (P : ℕ → Type 0) (count : ℕ) (F : ℕ → Fault) (f : Fault) : Type 0 where
  at : {n : ℕ} → f ≡ F n → n < count → ¬ P n → ((k : ℕ) → k < n → P k) → FirstPlace P count F f

pub first-place : {P : ℕ → Type 0} (P? : (n : ℕ) → Dec (P n)) (count : ℕ) (F : ℕ → Fault)
    → Exact ((n : ℕ) → n < count → P n) (FirstPlace P count F) (elim (first_not P? count) [ Some n ↦ some (F n) | None ↦ none ])
first-place {P} P? count F = go (first_not P? count) (first-is P? count) refl
  where
    alike : {f : Fault} (c : Found) → c ≡ first_not P? count → FirstPlace P count F f → (n : ℕ) × (c ≡ Some n) × (f ≡ F n)
    alike c e (at {n} q l off all) = (n, e ∙ sym (first-only P? (fails refl l off all)), q)

    go : (c : Found) → FirstNot P count c → c ≡ first_not P? count
        → Exact ((n : ℕ) → n < count → P n) (FirstPlace P count F) (elim c [ Some n ↦ some (F n) | None ↦ none ])
    go None (holds e all) q = found_none all (λ f w. none-at f w)
      where
        none-at : (f : Fault) → ¬ FirstPlace P count F f
        none-at f (at {n} r l off before) = off (all n l)
    go None (fails e l off all) q = let z : ◌≡◌ {A = ℕ} 0 1 = cc in absurd (omega arith)
    go (Some n) (holds e all) q = let z : ◌≡◌ {A = ℕ} 0 1 = cc in absurd (omega arith)
    go (Some n) (fails {n = m} e l off all) q =
        let same : m ≡ n = cc in
        found_some (F n) (λ every. off (every m l)) (at (ap F (sym same)) l off all) only
      where
        only : (g : Fault) → FirstPlace P count F g → g ≡ F n
        only g w = let a = alike (Some n) q w in let s : a.0 ≡ n = cc a.1 in a.2 ∙ ap F s

-- The first block at which something is found.
pub data FirstBlock (R : ℕ → Type 0) (W : ℕ → Fault → Type 0) (from count : ℕ) (f : Fault) : Type 0 where
  at_block : {i : ℕ} → from ≤ i → i < from + count → ((j : ℕ) → from ≤ j → j < i → R j) → W i f → FirstBlock R W from count f

module _ {R : ℕ → Type 0} {W : ℕ → Fault → Type 0} (judged : ℕ → Option Fault) (each : (i : ℕ) → Exact (R i) (W i) (judged i)) where
  first-from : (i left : ℕ) → Exact ((j : ℕ) → i ≤ j → j < i + left → R j) (FirstBlock R W i left) (first_fault judged i left)
  unfolding first_fault
  first-from i zero = found_none (λ j l h. absurd (omega arith)) none-at
    where
      none-at : (f : Fault) → ¬ FirstBlock R W i zero f
      none-at f (at_block l h all w) = omega arith
  first-from i (suc left) = reworded to back wrong-to wrong-back (then (judged i) (each i) (λ r. first-from (suc i) left))
    where
      to : R i × ((j : ℕ) → suc i ≤ j → j < suc i + left → R j) → (j : ℕ) → i ≤ j → j < i + suc left → R j
      to r j l h = elim (ℕ_discrete j i) [ yes e ↦ rw e r.0 | no n ↦ r.1 j (omega arith) (omega arith) ]

      back : ((j : ℕ) → i ≤ j → j < i + suc left → R j) → R i × ((j : ℕ) → suc i ≤ j → j < suc i + left → R j)
      back all = (all i (omega arith) (omega arith), λ j l h. all j (omega arith) (omega arith))

      wrong-to : (f : Fault) → W i f ⊎ (R i × FirstBlock R W (suc i) left f) → FirstBlock R W i (suc left) f
      wrong-to f (inl w) = at_block {i = i} (omega arith) (omega arith) (λ j l h. absurd (omega arith)) w
      wrong-to f (inr r) = go r.1
        where
          go : FirstBlock R W (suc i) left f → FirstBlock R W i (suc left) f
          go (at_block {i = k} l h all w) = at_block {i = k} (omega arith) (omega arith)
              (λ j a b. elim (ℕ_discrete j i) [ yes e ↦ rw e r.0 | no n ↦ all j (omega arith) b ]) w

      wrong-back : (f : Fault) → FirstBlock R W i (suc left) f → W i f ⊎ (R i × FirstBlock R W (suc i) left f)
      wrong-back f (at_block {i = k} l h all w) = go (ℕ_discrete k i)
        where
          go : Dec (k ≡ i) → W i f ⊎ (R i × FirstBlock R W (suc i) left f)
          go (yes e) = inl (rw e at w)
          go (no n) = inr (all i (omega arith) (omega arith), at_block {i = k} (omega arith) (omega arith) (λ j a b. all j (omega arith) b) w)

  -- Of all blocks of a file.
  pub first_block : (count : ℕ) → Exact ((i : ℕ) → i < count → R i) (FirstBlock R W 0 count) (first_fault judged 0 count)
  first_block count = reworded (λ all i h. all i (omega arith) (omega arith)) (λ all i l h. all i (omega arith))
      (λ f w. w) (λ f w. w) (first-from 0 count)
