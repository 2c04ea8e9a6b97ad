-- Number 5: the test of a layout is true just where the layout is right. Assumes nothing.
use mathlib.Core.Path.{◌≡◌, refl, sym, ap, ◌∙◌}
use mathlib.Core.Bool.{Bool, true, false, ◌&&◌, cond}
use mathlib.Core.List.{List, [], ◌∷◌}
use Prim.Native.Nat.{ℕ, zero, suc, ◌+◌, ◌-◌, ◌≤◌, ◌<◌}
use native.Mathlib.Decide.{dec_lt}
use native.Mathlib.Omega.{arith}
use lib.Dec.{eqb, leb}
use lib.ListN.{length, get_or, take, drop, length-take, get_or-eq_default, drop_of_length-le}
use lib.Seq.{get_or-take, get_or-drop}
use Rattle.std.specs.Int.Bits.{bit_or}
use Rattle.std.proofs.lemmas.List.{drop-take}
use Rattle.std.proofs.lemmas.Nat.{le_or_l}
use borrow.Author.Tests.{eq-eqb, ne_eqb, eqb-true, le-leb, leb-true}
use Rattle.blocks.specs.Kinds.{atoms_kind, secret_kind, bad_kind, rule_kind}
use Rattle.blocks.specs.Limits.{block_size, most_entries, most_term_entries}
use Rattle.blocks.specs.Block.{byte_at, kind_of, first_count, second_count, Fitting}
use Rattle.blocks.specs.Layout.{CountsRight, atoms, term, rule, LayoutRight, unused_from, within, counts_right, all_zero, zero_from, layout_right}
use Rattle.blocks.proofs.Tests.{both_left, both_right, both}

-- ---- unused entries

all-zero : (l : List ℕ) → all_zero l ≡ true → (k : ℕ) → get_or l k 0 ≡ 0
unfolding all_zero
all-zero [] h k = refl
all-zero (x ∷ l) h zero = eqb-true x 0 (both_left (eqb x 0) (all_zero l) h)
all-zero (x ∷ l) h (suc k) = all-zero l (both_right (eqb x 0) (all_zero l) h) k

zero-all : (l : List ℕ) → ((k : ℕ) → get_or l k 0 ≡ 0) → all_zero l ≡ true
unfolding all_zero
zero-all [] h = refl
zero-all (x ∷ l) h = both (eq-eqb x 0 (h zero)) (zero-all l (λ k. h (suc k)))

-- A byte of those that zero_from looks at.
unused-byte : (b : List ℕ) (from k : ℕ) → from + k < 508 → get_or (drop from (take 508 b)) k 0 ≡ byte_at b (from + k)
unused-byte b from k h = rw (get_or-drop, get_or-take)

pub zero-from : (b : List ℕ) (from : ℕ) → zero_from b from ≡ true → (i : ℕ) → from ≤ i → i < 508 → byte_at b i ≡ 0
unfolding zero_from
zero-from b from h i l u =
    let whole : from + (i - from) ≡ i = omega arith in
    let inside : from + (i - from) < 508 = omega arith in
    rw whole at (sym (unused-byte b from (i - from) inside) ∙ all-zero (drop from (take 508 b)) h (i - from))

pub from_zero : (b : List ℕ) (from : ℕ) → ((i : ℕ) → from ≤ i → i < 508 → byte_at b i ≡ 0) → zero_from b from ≡ true
unfolding zero_from
from_zero b from h = zero-all (drop from (take 508 b)) (λ k. go k (dec_lt (from + k) 508))
  where
    go : (k : ℕ) → Dec (from + k < 508) → get_or (drop from (take 508 b)) k 0 ≡ 0
    go k (yes l) = unused-byte b from k l ∙ h (from + k) (omega arith) l
    go k (no g) =
        let most : length (take 508 b) ≤ from + k = rw length-take (omega arith) in
        get_or-drop from (take 508 b) k 0 ∙ get_or-eq_default (take 508 b) 0 most

-- Two bytes put together are zero just where both are.
pub or-zero : (a b : ℕ) → eqb (bit_or a b) 0 ≡ (eqb a 0 && eqb b 0)
or-zero zero b = refl
or-zero (suc a) b =
    ne_eqb (bit_or (suc a) b) 0 (λ e. omega (arith, le_or_l (suc a) b, e))
    ∙ sym (ap (λ (t : Bool). t && eqb b 0) (ne_eqb (suc a) 0 (λ e. omega (arith, e))))

-- Behind byte 507 there is nothing to look at.
pub zero-end : (b : List ℕ) (from : ℕ) → 508 ≤ from → zero_from b from ≡ true
unfolding zero_from all_zero
zero-end b from g =
    let most : length (take 508 b) ≤ from = rw length-take (omega arith) in
    ap all_zero (drop_of_length-le (take 508 b) most)

-- Before it, the bytes that a part of the block has.
pub zero_part : (b : List ℕ) (from : ℕ) → from ≤ 508 → all_zero (take (508 - from) (drop from b)) ≡ zero_from b from
unfolding zero_from
zero_part b from l =
    let whole : from + (508 - from) ≡ 508 = omega arith in
    ap all_zero (sym (drop-take from (508 - from) b) ∙ ap (λ (n : ℕ). drop from (take n b)) whole)

-- ---- counts

in-range : (low high x : ℕ) → within low high x ≡ true → (low ≤ x) × (x ≤ high)
in-range low high x h = (leb-true low x (both_left (leb low x) (leb x high) h), leb-true x high (both_right (leb low x) (leb x high) h))

range-in : {low high x : ℕ} → low ≤ x → x ≤ high → within low high x ≡ true
range-in p q = both (le-leb _ _ p) (le-leb _ _ q)

module _ (kind first second : ℕ) where
  pub counts-right : counts_right kind first second ≡ true → CountsRight kind first second
  unfolding counts_right
  counts-right h = go (eqb kind atoms_kind) (eqb kind rule_kind) refl refl h
    where
      go : (s t : Bool) → eqb kind atoms_kind ≡ s → eqb kind rule_kind ≡ t
          → cond s (within 1 most_entries first && eqb second 0)
          (cond t (within 0 most_term_entries first && within 1 most_term_entries second)
          (within secret_kind bad_kind kind && (within 1 most_term_entries first && eqb second 0))) ≡ true
          → CountsRight kind first second
      go true t p q e =
          let r = in-range 1 most_entries first (both_left (within 1 most_entries first) (eqb second 0) e) in
          atoms (eqb-true _ _ p) r.0 r.1 (eqb-true _ _ (both_right (within 1 most_entries first) (eqb second 0) e))
      go false true p q e =
          let r = in-range 0 most_term_entries first (both_left (within 0 most_term_entries first) (within 1 most_term_entries second) e) in
          let u = in-range 1 most_term_entries second (both_right (within 0 most_term_entries first) (within 1 most_term_entries second) e) in
          rule (eqb-true _ _ q) r.1 u.0 u.1
      go false false p q e =
          let k = in-range secret_kind bad_kind kind (both_left (within secret_kind bad_kind kind) (within 1 most_term_entries first && eqb second 0) e) in
          let f = both_right (within secret_kind bad_kind kind) (within 1 most_term_entries first && eqb second 0) e in
          let r = in-range 1 most_term_entries first (both_left (within 1 most_term_entries first) (eqb second 0) f) in
          term (record { low = k.0; high = k.1 }) r.0 r.1 (eqb-true _ _ (both_right (within 1 most_term_entries first) (eqb second 0) f))

  -- The test at each kind.
  pub counts-of-atoms : kind ≡ atoms_kind → counts_right kind first second ≡ (within 1 most_entries first && eqb second 0)
  unfolding counts_right
  counts-of-atoms k = rw (eq-eqb kind atoms_kind k)

  pub counts-of-rule : (kind ≡ atoms_kind → ⊥) → kind ≡ rule_kind → counts_right kind first second ≡ (within 0 most_term_entries first && within 1 most_term_entries second)
  unfolding counts_right
  counts-of-rule n k = rw (ne_eqb kind atoms_kind n, eq-eqb kind rule_kind k)

  pub counts-of-term : (kind ≡ atoms_kind → ⊥) → (kind ≡ rule_kind → ⊥)
      → counts_right kind first second ≡ (within secret_kind bad_kind kind && (within 1 most_term_entries first && eqb second 0))
  unfolding counts_right
  counts-of-term n m = rw (ne_eqb kind atoms_kind n, ne_eqb kind rule_kind m)

  pub right-counts : CountsRight kind first second → counts_right kind first second ≡ true
  right-counts (atoms k l h z) = counts-of-atoms k ∙ both (range-in l h) (eq-eqb _ _ z)
  right-counts (term k l h z) =
      let low = k.low in
      let high = k.high in
      counts-of-term (omega arith) (omega arith) ∙ both (range-in low high) (both (range-in l h) (eq-eqb _ _ z))
  right-counts (rule k h l h') = counts-of-rule (omega arith) k ∙ both (range-in (omega arith) h) (range-in l h')

-- ---- number 5

-- The test of a layout is true just where the layout is right.
pub layout-right : (b : List ℕ) → layout_right b ≡ true → LayoutRight b
unfolding layout_right
layout-right b h =
    go (eqb (length b) block_size) (counts_right (kind_of b) (first_count b) (second_count b)) (eqb (byte_at b 3) 0) (zero_from b (unused_from b))
    refl refl refl refl h
  where
    go : (s t u w : Bool) → eqb (length b) block_size ≡ s → counts_right (kind_of b) (first_count b) (second_count b) ≡ t
        → eqb (byte_at b 3) 0 ≡ u → zero_from b (unused_from b) ≡ w → s && (t && (u && w)) ≡ true → LayoutRight b
    go s t u w p q r z e =
        let e1 = both_right s (t && (u && w)) e in
        let e2 = both_right t (u && w) e1 in
        record {
          size = eqb-true _ _ (p ∙ both_left s (t && (u && w)) e);
          counts = counts-right _ _ _ (q ∙ both_left t (u && w) e1);
          byte3 = eqb-true _ _ (r ∙ both_left u w e2);
          unused = zero-from b (unused_from b) (z ∙ both_right u w e2);
        }

pub right-layout : (b : List ℕ) → LayoutRight b → layout_right b ≡ true
unfolding layout_right
right-layout b h =
    both (eq-eqb _ _ h.size)
    (both (right-counts _ _ _ h.counts) (both (eq-eqb _ _ h.byte3) (from_zero b (unused_from b) h.unused)))

pub counts-room : {kind first second : ℕ} → CountsRight kind first second → first + second ≤ most_entries
counts-room (atoms k l h z) = omega arith
counts-room (term k l h z) = omega arith
counts-room (rule k h l h') = omega arith

-- A right layout has room for its entries: what the parts of a block ask.
pub layout-fits : (b : List ℕ) → LayoutRight b → Fitting b
layout-fits b h = record { size = h.size; room = counts-room h.counts }
