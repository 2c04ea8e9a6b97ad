-- Laws of a tally as numbers (specs/Asked.antt), shaped like the code's loops. Assumes nothing.
use mathlib.Core.Path.{◌≡◌, refl, sym, ap, ◌∙◌}
use mathlib.Core.List.{List, [], ◌∷◌}
use Prim.Native.Nat.{ℕ, zero, suc, ◌*◌, ◌+◌, ◌/◌, ◌%◌, ◌≤◌, ◌<◌}
use native.Mathlib.Omega.{arith}
use native.Mathlib.Decide.{ℕ_discrete}
use lib.ListN.{length, get_or, set, length-set}
use lib.Seq.{get_or-set_same, get_or-set_other, ext_get_or}
use borrow.Author.Tests.{eq-eqb, ne_eqb}
use Rattle.judge.specs.declared.checking.LoaderCounts.{LoaderCounts}
use Rattle.judge.specs.declared.checking.Tally.{Tally}
use Rattle.judge.specs.declared.checking.Checked.{Checked}
use Rattle.judge.specs.Answer.{packed_of}
use Rattle.judge.specs.Checked.{loader_count, zero_pair, pair_of, checked_of}
use Rattle.judge_tests.specs.Asked.{tally_numbers, pairs_of, tally_from, numbers_from, numbers_of, tallying, after_tallying}

-- ---- numbers to pairs

-- Pair k of the numbers.
abbrev pub pair_at : List ℕ → ℕ → LoaderCounts
pair_at counts k = record { accepted = get_or counts (2 * k) 0; refused = get_or counts (2 * k + 1) 0 }

pairs-at : (counts : List ℕ) (k : ℕ) → 2 * k + 1 < length counts → get_or (pairs_of counts) k zero_pair ≡ pair_at counts k
unfolding pairs_of
pairs-at [] k h = absurd (omega arith)
pairs-at (a ∷ []) k h = absurd (omega arith)
pairs-at (a ∷ r ∷ l) zero h = refl
pairs-at (a ∷ r ∷ l) (suc k) h =
    let e : 2 * suc k ≡ suc (suc (2 * k)) = omega arith in
    let f : suc (suc (2 * k)) + 1 ≡ suc (suc (2 * k + 1)) = omega arith in
    rw (e, f) (pairs-at l k (omega arith))

pairs-long : (counts : List ℕ) (m : ℕ) → length counts ≡ 2 * m → length (pairs_of counts) ≡ m
unfolding pairs_of
pairs-long [] m h = omega arith
pairs-long (a ∷ []) m h = absurd (omega arith)
pairs-long (a ∷ r ∷ l) zero h = absurd (omega arith)
pairs-long (a ∷ r ∷ l) (suc m) h = ap suc (pairs-long l m (omega arith))

-- The first k pairs are loaded.
pub record Loaded (counts : List ℕ) (loaders : List LoaderCounts) (k : ℕ) : Type 0 where
  pub long : length loaders ≡ loader_count
  pub first : (j : ℕ) → j < k → get_or loaders j zero_pair ≡ pair_at counts j

pub loaded-none : {counts : List ℕ} {loaders : List LoaderCounts} → length loaders ≡ loader_count → Loaded counts loaders 0
loaded-none h = record { long = h; first = λ j l. absurd (omega arith) }

pub loaded-more : {counts : List ℕ} {loaders : List LoaderCounts} {k : ℕ} → Loaded counts loaders k → k < loader_count
    → Loaded counts (set loaders k (pair_at counts k)) (k + 1)
loaded-more {counts} {loaders} {k} d h =
    record { long = length-set loaders k (pair_at counts k) ∙ d.long; first = λ j l. go j l (ℕ_discrete j k) }
  where
    go : (j : ℕ) → j < k + 1 → Dec (j ≡ k) → get_or (set loaders k (pair_at counts k)) j zero_pair ≡ pair_at counts j
    go j l (yes e) = rw e (get_or-set_same loaders k (pair_at counts k) zero_pair (let long = d.long in omega arith))
    go j l (no n) = get_or-set_other loaders k j (pair_at counts k) zero_pair n ∙ d.first j (omega arith)

pub loaded-all : (counts : List ℕ) {loaders : List LoaderCounts} {k : ℕ} → length counts ≡ tally_numbers
    → Loaded counts loaders k → loader_count ≤ k → ◌≡◌ {A = Tally} (record { loaders = loaders }) (tally_from counts)
unfolding tally_from
loaded-all counts {loaders} {k} sixteen d h = ap (λ (l : List LoaderCounts). record { loaders = l }) same
  where
    eight : length (pairs_of counts) ≡ loader_count
    eight = pairs-long counts loader_count (omega arith)

    same : loaders ≡ pairs_of counts
    same = ext_get_or zero_pair loaders (pairs_of counts) (d.long ∙ sym eight)
        (λ j l. d.first j (let long = d.long in omega arith) ∙ sym (pairs-at counts j (let long = d.long in omega arith)))

-- ---- pairs to numbers

numbers-long : (t : Tally) (n k : ℕ) → length (numbers_from t n k) ≡ 2 * k
unfolding numbers_from
numbers-long t n zero = omega arith
numbers-long t n (suc k) = omega (arith, numbers-long t (n + 1) k)

numbers-first : (t : Tally) (n k j : ℕ) → j < k → get_or (numbers_from t n k) (2 * j) 0 ≡ (pair_of (n + j) t).accepted
unfolding numbers_from
numbers-first t n zero j h = absurd (omega arith)
numbers-first t n (suc k) zero h = let e : n + 0 ≡ n = omega arith in sym (rw e)
numbers-first t n (suc k) (suc j) h =
    let e : 2 * suc j ≡ suc (suc (2 * j)) = omega arith in
    let f : n + suc j ≡ (n + 1) + j = omega arith in
    rw (e, f) (numbers-first t (n + 1) k j (omega arith))

numbers-second : (t : Tally) (n k j : ℕ) → j < k → get_or (numbers_from t n k) (2 * j + 1) 0 ≡ (pair_of (n + j) t).refused
unfolding numbers_from
numbers-second t n zero j h = absurd (omega arith)
numbers-second t n (suc k) zero h = let e : n + 0 ≡ n = omega arith in sym (rw e)
numbers-second t n (suc k) (suc j) h =
    let e : 2 * suc j + 1 ≡ suc (suc (2 * j + 1)) = omega arith in
    let f : n + suc j ≡ (n + 1) + j = omega arith in
    rw (e, f) (numbers-second t (n + 1) k j (omega arith))

-- The first k pairs are stored.
pub record Stored (counts : List ℕ) (loaders : List LoaderCounts) (k : ℕ) : Type 0 where
  pub long : length counts ≡ tally_numbers
  pub first : (j : ℕ) → j < k → get_or counts (2 * j) 0 ≡ (get_or loaders j zero_pair).accepted
  pub second : (j : ℕ) → j < k → get_or counts (2 * j + 1) 0 ≡ (get_or loaders j zero_pair).refused

pub stored-none : {counts : List ℕ} {loaders : List LoaderCounts} → length counts ≡ tally_numbers → Stored counts loaders 0
stored-none h = record { long = h; first = λ j l. absurd (omega arith); second = λ j l. absurd (omega arith) }

pub stored-room : {counts : List ℕ} {loaders : List LoaderCounts} {k : ℕ} → Stored counts loaders k → k < loader_count
    → (a : ℕ) → 2 * k + 1 < length (set counts (2 * k) a)
stored-room {counts} {loaders} {k} d h a = let long = d.long in let same = length-set counts (2 * k) a in omega arith

pub stored_more : {counts : List ℕ} {loaders : List LoaderCounts} {k : ℕ} → Stored counts loaders k → k < loader_count
    → Stored (set (set counts (2 * k) (get_or loaders k zero_pair).accepted) (2 * k + 1) (get_or loaders k zero_pair).refused)
    loaders (k + 1)
stored_more {counts} {loaders} {k} d h = record {
  long = length-set half (2 * k + 1) r ∙ (length-set counts (2 * k) a ∙ d.long);
  first = λ j l. get_or-set_other half (2 * k + 1) (2 * j) r 0 (λ e. omega arith) ∙ one j l (ℕ_discrete j k);
  second = λ j l. two j l (ℕ_discrete j k);
}
  where
    a : ℕ
    a = (get_or loaders k zero_pair).accepted

    r : ℕ
    r = (get_or loaders k zero_pair).refused

    half : List ℕ
    half = set counts (2 * k) a

    one : (j : ℕ) → j < k + 1 → Dec (j ≡ k) → get_or half (2 * j) 0 ≡ (get_or loaders j zero_pair).accepted
    one j l (yes e) = rw e (get_or-set_same counts (2 * k) a 0 (let long = d.long in omega arith))
    one j l (no n) = get_or-set_other counts (2 * k) (2 * j) a 0 (λ e. n (omega arith)) ∙ d.first j (omega arith)

    two : (j : ℕ) → j < k + 1 → Dec (j ≡ k) → get_or (set half (2 * k + 1) r) (2 * j + 1) 0 ≡ (get_or loaders j zero_pair).refused
    two j l (yes e) =
        let long = d.long in
        let same = length-set counts (2 * k) a in
        rw e (get_or-set_same half (2 * k + 1) r 0 (omega arith))
    two j l (no n) = get_or-set_other half (2 * k + 1) (2 * j + 1) r 0 (λ e. n (omega arith))
        ∙ (get_or-set_other counts (2 * k) (2 * j + 1) a 0 (λ e. omega arith) ∙ d.second j (omega arith))

pub stored-all : (t : Tally) {counts : List ℕ} {k : ℕ} → Stored counts t.loaders k → loader_count ≤ k
    → counts ≡ numbers_of t
unfolding numbers_of pair_of
stored-all t {counts} {k} d h =
    ext_get_or 0 counts (numbers_from t 0 loader_count)
    (let long = d.long in let sixteen = numbers-long t 0 loader_count in omega arith)
    (λ i l. go i (let long = d.long in omega arith) (ℕ_discrete (i % 2) 0))
  where
    go : (i : ℕ) → i < tally_numbers → Dec (i % 2 ≡ 0) → get_or counts i 0 ≡ get_or (numbers_from t 0 loader_count) i 0
    go i l (yes e) =
        let half : i ≡ 2 * (i / 2) = omega arith in
        let from : 0 + i / 2 ≡ i / 2 = omega arith in
        rw half (d.first (i / 2) (omega arith) ∙ sym (rw from at (numbers-first t 0 loader_count (i / 2) (omega arith))))
    go i l (no n) =
        let half : i ≡ 2 * (i / 2) + 1 = omega arith in
        let from : 0 + i / 2 ≡ i / 2 = omega arith in
        rw half (d.second (i / 2) (omega arith) ∙ sym (rw from at (numbers-second t 0 loader_count (i / 2) (omega arith))))

-- ---- the check

module _ (file : List ℕ) (loader : ℕ) (counts : List ℕ) where
  pub not-sixteen : (length counts ≡ tally_numbers → ⊥)
      → (4_294_967_295 ≡ tallying file loader counts) × (counts ≡ after_tallying file loader counts)
  unfolding tallying after_tallying
  not-sixteen h = let no = ne_eqb (length counts) tally_numbers h in (sym (rw no), sym (rw no))

  pub sixteen : length counts ≡ tally_numbers → {t : Tally} {c : Checked} {after : List ℕ} {n : ℕ} → t ≡ tally_from counts
      → c ≡ checked_of file loader t → after ≡ numbers_of c.tally → n ≡ packed_of c.verdict
      → (n ≡ tallying file loader counts) × (after ≡ after_tallying file loader counts)
  unfolding tallying after_tallying
  sixteen h e is a n =
      let yes = eq-eqb (length counts) tally_numbers h in (
        n ∙ (ap (λ (c : Checked). packed_of c.verdict) (is ∙ ap (checked_of file loader) e) ∙ sym (rw yes)),
        a ∙ (ap (λ (c : Checked). numbers_of c.tally) (is ∙ ap (checked_of file loader) e) ∙ sym (rw yes)),
      )
