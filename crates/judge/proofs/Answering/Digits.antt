-- Laws of `digits_of` of specs/Line.antt: decimal numbers. Assumes nothing.
use mathlib.Core.Path.{◌≡◌, refl, sym, ap, ◌∙◌}
use mathlib.Core.List.{List, [], ◌∷◌, ◌++◌}
use Prim.Native.Nat.{ℕ, zero, suc, ◌+◌, ◌-◌, ◌*◌, ◌/◌, ◌%◌, ◌^◌, ◌≤◌, ◌<◌}
use native.Mathlib.Nat.{pow-suc}
use native.Mathlib.Decide.{dec_lt}
use native.Mathlib.Omega.{arith}
use lib.ListN.{length, get_or, length-append, get_or-append}
use lib.Seq.{get_or-append_seam}
use borrow.Author.Tests.{lt-ltb, le-ltb}
use Rattle.judge.specs.Line.{digits_in, digits_of, read_from, Decimal}

-- ---- by cases, as the code goes

in_one : (steps n : ℕ) → n < 10 → digits_in steps n ≡ (48 + n) ∷ []
unfolding digits_in
in_one zero n h = refl
in_one (suc steps) n h = rw (lt-ltb n 10 h, digits_in)

in-more : (steps n : ℕ) → 10 ≤ n → digits_in (suc steps) n ≡ digits_in steps (n / 10) ++ ((48 + n % 10) ∷ [])
unfolding digits_in
in-more steps n h = rw (le-ltb n 10 h, digits_in)

-- Any n steps or more are enough.
enough : (k j n : ℕ) → n ≤ k → n ≤ j → digits_in k n ≡ digits_in j n
enough zero j n p q = in_one zero n (omega arith) ∙ sym (in_one j n (omega arith))
enough (suc k) zero n p q = in_one (suc k) n (omega arith) ∙ sym (in_one zero n (omega arith))
enough (suc k) (suc j) n p q = go (dec_lt n 10) (λ h. enough k j (n / 10) (omega arith) (omega arith))
  where
    go : Dec (n < 10) → (10 ≤ n → digits_in k (n / 10) ≡ digits_in j (n / 10)) → digits_in (suc k) n ≡ digits_in (suc j) n
    go (yes h) rest = in_one (suc k) n h ∙ sym (in_one (suc j) n h)
    go (no g) rest =
        let h : 10 ≤ n = omega arith in
        in-more k n h ∙ ap (λ (l : List ℕ). l ++ ((48 + n % 10) ∷ [])) (rest h) ∙ sym (in-more j n h)

pub digits-one : (n : ℕ) → n < 10 → digits_of n ≡ (48 + n) ∷ []
unfolding digits_of
digits-one n h = in_one n n h

pub digits_more : (n : ℕ) → 10 ≤ n → digits_of n ≡ digits_of (n / 10) ++ ((48 + n % 10) ∷ [])
unfolding digits_of
digits_more zero h = absurd (omega arith)
digits_more (suc m) h =
    in-more m (suc m) h
    ∙ ap (λ (l : List ℕ). l ++ ((48 + suc m % 10) ∷ [])) (enough m (suc m / 10) (suc m / 10) (omega arith) (omega arith))

-- ---- the same of every number at once

-- What holds of one digit, and of digits with one more behind them, holds of every number.
by_digits : (P : ℕ → List ℕ → Type 0) → ((n : ℕ) → n < 10 → P n ((48 + n) ∷ []))
    → ((n : ℕ) (l : List ℕ) → 10 ≤ n → P (n / 10) l → P n (l ++ ((48 + n % 10) ∷ []))) → (n : ℕ) → P n (digits_of n)
by_digits P one more n = go n n (omega arith)
  where
    step : (n : ℕ) → Dec (n < 10) → (10 ≤ n → P (n / 10) (digits_of (n / 10))) → P n (digits_of n)
    step n (yes h) rest = rw (digits-one n h) (one n h)
    step n (no g) rest = let h : 10 ≤ n = omega arith in rw (digits_more n h) (more n (digits_of (n / 10)) h (rest h))

    go : (k n : ℕ) → n ≤ k → P n (digits_of n)
    go zero n l = step n (dec_lt n 10) (λ h. absurd (omega arith))
    go (suc k) n l = step n (dec_lt n 10) (λ h. go k (n / 10) (omega arith))

-- ---- their length

-- Below a power of ten there are at most so many digits.
few : (k n : ℕ) → n < 10 ^ suc k → length (digits_of n) ≤ suc k
few zero n h = rw (digits-one n h) (omega arith)
few (suc k) n h =
    let power : 10 ^ suc (suc k) ≡ 10 ^ suc k * 10 = pow-suc 10 (suc k) in
    go (dec_lt n 10) (few k (n / 10) (omega arith))
  where
    go : Dec (n < 10) → length (digits_of (n / 10)) ≤ suc k → length (digits_of n) ≤ suc (suc k)
    go (yes l) rest = rw (digits-one n l) (omega arith)
    go (no g) rest = let l : 10 ≤ n = omega arith in rw (digits_more n l, length-append) (omega arith)

-- A number of 32 bits has at most ten digits.
pub at-most-ten : (n : ℕ) → n < 2 ^ 32 → length (digits_of n) ≤ 10
at-most-ten n h = few 9 n (omega arith)

-- The answers of the code.
pub length-one : (n : ℕ) → n < 10 → 1 ≡ length (digits_of n)
length-one n h = rw (digits-one n h)

pub length_more : (n : ℕ) {r : ℕ} → 10 ≤ n → r ≡ length (digits_of (n / 10)) → 1 + r ≡ length (digits_of n)
length_more n h e = rw (digits_more n h, length-append) (omega arith)

-- ---- it is the number in decimal

read-append : (v : ℕ) (s t : List ℕ) → read_from v (s ++ t) ≡ read_from (read_from v s) t
unfolding read_from
read-append v [] t = refl
read-append v (d ∷ s) t = read-append (v * 10 + (d - 48)) s t

one-digit : (n : ℕ) → n < 10 → Decimal n ((48 + n) ∷ [])
unfolding read_from
one-digit n h = record {
  digits = within;
  reads = omega arith;
  some = omega arith;
  first = λ l e. omega arith;
}
  where
    within : (i : ℕ) → i < 1 → (48 ≤ get_or ((48 + n) ∷ []) i 0) × (get_or ((48 + n) ∷ []) i 0 ≤ 57)
    within zero l = omega arith
    within (suc i) l = absurd (omega arith)

more-digits : (n : ℕ) (l : List ℕ) → 10 ≤ n → Decimal (n / 10) l → Decimal n (l ++ ((48 + n % 10) ∷ []))
unfolding read_from
more-digits n l h d = record {
  digits = λ i b. within i b (dec_lt i (length l));
  reads = read-append 0 l (last ∷ []) ∙ rw d.reads (omega arith);
  some = rw length-append (omega arith);
  first = λ b e. no_zero l d.some d.reads d.first e;
}
  where
    last : ℕ
    last = 48 + n % 10

    within : (i : ℕ) → i < length (l ++ (last ∷ [])) → Dec (i < length l)
        → (48 ≤ get_or (l ++ (last ∷ [])) i 0) × (get_or (l ++ (last ∷ [])) i 0 ≤ 57)
    within i b (yes p) = rw (get_or-append l (last ∷ []) 0 i p) (d.digits i p)
    within i b (no g) =
        let at : i ≡ length l = omega (arith, rw length-append at b) in
        rw (at, get_or-append_seam l last [] 0) (omega arith)

    no_zero : (l : List ℕ) → 0 < length l → read_from 0 l ≡ n / 10 → (1 < length l → get_or l 0 0 ≡ 48 → ⊥)
        → get_or (l ++ (last ∷ [])) 0 0 ≡ 48 → ⊥
    no_zero [] s r f e = omega arith
    no_zero (x ∷ []) s r f e = omega arith
    no_zero (x ∷ y ∷ l) s r f e = f (omega arith) e

-- `digits_of n` reads back to n and has no leading zero.
pub decimal : (n : ℕ) → Decimal n (digits_of n)
decimal = by_digits Decimal one-digit more-digits
