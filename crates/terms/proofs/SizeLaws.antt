-- Laws of sizes: how many entries the term at an entry has, and tables of that.
use mathlib.Core.Path.{◌≡◌, refl, sym, ap, ap₂, ◌∙◌}
use mathlib.Core.Bool.{Bool, true, false}
use mathlib.Core.List.{List, ◌∷◌}
use Prim.Native.Nat.{ℕ, suc, ◌+◌, ◌*◌, ◌-◌, ◌<◌, ◌≤◌}
use native.Mathlib.Omega.{arith}
use native.Mathlib.Nat.{zero-add}
use lib.Dec.{ltb}
use lib.ListN.{length, get_or, drop, length-drop, get_or-eq_default, set, length-set}
use lib.Seq.{drop-drop, get_or-drop, get_or-set_other}
use borrow.Author.Tests.{ltb-true, ltb-false}
use borrow.Author.Rules.{part_to_end}
use Rattle.blocks.specs.Limits.{most_term_bytes, most_term_entries}
use Rattle.terms.specs.Term.{Term, wrapped, Variable, Wrapping, encryption, hash, signature}
use mathlib.Core.Logic.{inl, inr}
use Rattle.terms.specs.Tag.{pair_tag, signature_tag, wrapping_tag, WrapperTag, MarkedTag}
use Rattle.terms.specs.Entry.{size, term_of, Reads, Begins, from}
use Rattle.terms.specs.TermGraph.{tag_in, value_in, right_in, size_in, SizesOf}
use Rattle.terms.specs.Sizes.{SizedFrom, KeptBelow}
use Rattle.terms.proofs.EntryLaws.{begins-tag, four, term_of-reads, fits, suffix, pair-first, wrapped-first, leaf_first}
use Rattle.terms.proofs.TermGraphLaws.{tag_in_lem, value_in_lem, PairIn, pair-in, WrappedIn, wrapped-in}

-- An entry with a tag lies before the end.
pub tag-inside : (e : List ℕ) (k : ℕ) {n : ℕ} → tag_in e k ≡ suc n → 4 * k < length e
tag-inside e k {n} g = go (ltb (4 * k) (length e)) refl
  where
    go : (b : Bool) → ltb (4 * k) (length e) ≡ b → 4 * k < length e
    go true q = ltb-true (4 * k) (length e) q
    go false q = let none : tag_in e k ≡ 0 = get_or-eq_default e 0 (ltb-false (4 * k) (length e) q) in omega arith

pub marked-inside : (e : List ℕ) (k : ℕ) → MarkedTag (tag_in e k) → 4 * k < length e
marked-inside e k (inl m) = tag-inside e k m
marked-inside e k (inr m) = tag-inside e k m

-- Tag 2 at entry k of terms: a pair stands there.
pub record PairThere (e : List ℕ) (k : ℕ) : Type 0 where
  pub left : Term Variable
  pub right : Term Variable
  pub others : List (Term Variable)
  pub is : PairIn e k left right others

pub pair-there : {e : List ℕ} (k : ℕ) → Begins e → tag_in e k ≡ pair_tag → PairThere e k
pair-there {e} k b g =
    let here = suffix k b (tag-inside e k g) in
    let p = pair-first here (sym (tag_in_lem e k) ∙ g) in
    record { left = p.left; right = p.right; others = p.others; is = pair-in e k p.whole }

-- A wrapper's tag: something around a term.
wrapper-inside : (e : List ℕ) (k : ℕ) (w : Wrapping) → tag_in e k ≡ wrapping_tag w → 4 * k < length e
unfolding wrapping_tag
wrapper-inside e k encryption g = tag-inside e k g
wrapper-inside e k hash g = tag-inside e k g
wrapper-inside e k signature g = tag-inside e k g

pub record WrappedThere (e : List ℕ) (k : ℕ) (w : Wrapping) : Type 0 where
  pub content : Term Variable
  pub others : List (Term Variable)
  pub is : WrappedIn w e k (value_in e k) content others

pub wrapped-there : {e : List ℕ} (k : ℕ) → Begins e → (w : Wrapping) → tag_in e k ≡ wrapping_tag w → WrappedThere e k w
wrapped-there {e} k b w g =
    let here = suffix k b (wrapper-inside e k w g) in
    let p = wrapped-first here w (sym (tag_in_lem e k) ∙ g) in
    let whole : Reads (drop (4 * k) e) (wrapped w (value_in e k) p.content ∷ p.others) = rw value_in_lem p.whole in
    record { content = p.content; others = p.others; is = wrapped-in e k whole }

-- The size of the term at entry k, by its tag.
size-read : {e : List ℕ} {t : Term Variable} {l : List (Term Variable)} → Reads e (t ∷ l) → size (term_of e) ≡ size t
size-read r = ap size (term_of-reads r)

pub pair_size : {e : List ℕ} (k : ℕ) → Begins e → tag_in e k ≡ pair_tag → size_in e k ≡ 1 + (size_in e (k + 1) + size_in e (right_in e k))
unfolding size
pair_size {e} k b g =
    let p = pair-first (suffix k b (tag-inside e k g)) (sym (tag_in_lem e k) ∙ g) in
    let q = pair-in e k p.whole in
    size-read p.whole ∙ sym (ap₂ (λ (x y : ℕ). 1 + (x + y)) (size-read q.left) (size-read q.right))

pub wrapped-size : {e : List ℕ} (k : ℕ) → Begins e → (w : Wrapping) → tag_in e k ≡ wrapping_tag w → size_in e k ≡ 1 + size_in e (k + 1)
unfolding size
wrapped-size {e} k b w g =
    let p = wrapped-first (suffix k b (wrapper-inside e k w g)) w (sym (tag_in_lem e k) ∙ g) in
    let q = wrapped-in e k p.whole in
    size-read p.whole ∙ sym (ap (λ (x : ℕ). 1 + x) (size-read q.content))

pub leaf-size : {e : List ℕ} (k : ℕ) → Begins e → 4 * k < length e → (tag_in e k ≡ pair_tag → ⊥) → ¬ WrapperTag (tag_in e k) → size_in e k ≡ 1
leaf-size {e} k b inside no-pair no-wrapper =
    sym (leaf_first (suffix k b inside) (λ g. no-pair (tag_in_lem e k ∙ g)) (λ g. no-wrapper (record { wrapping = g.wrapping; is = tag_in_lem e k ∙ g.is })))

-- Where an entry begins, its tag is one of those there are, and all of it is there.
pub tag-there : {e : List ℕ} (k : ℕ) → Begins e → 4 * k < length e → tag_in e k ≤ signature_tag
tag-there {e} k b inside = rw (tag_in_lem e k) (begins-tag (suffix k b inside))

pub whole-entry : {e : List ℕ} (k : ℕ) → Begins e → 4 * k < length e → 4 * (k + 1) ≤ length e
whole-entry {e} k b inside = omega (arith, four (suffix k b inside).reads, length-drop (4 * k) e)

-- A term ends within the entries.
pub size_fits : {e : List ℕ} (k : ℕ) → Begins e → 4 * k < length e → 4 * (k + size_in e k) ≤ length e
size_fits {e} k b inside =
    let there = suffix k b inside in
    let room = fits there.term there.reads in
    omega (arith, size-read there.reads, length-drop (4 * k) e)

-- What the table has of the halves of a pair at entry k, where it has the sizes from the next entry on.
pub record PairSizes (e z : List ℕ) (base k : ℕ) : Type 0 where
  pub left-inside : base + k + 1 < length z
  pub left-size : get_or z (base + k + 1) 0 ≡ size_in e (k + 1)
  pub right-inside : base + k + 1 + size_in e (k + 1) < length z
  pub right-size : get_or z (base + k + 1 + size_in e (k + 1)) 0 ≡ size_in e (right_in e k)
  pub whole : size_in e k ≡ 1 + (size_in e (k + 1) + size_in e (right_in e k))
  pub small : size_in e k ≤ most_term_entries

-- The size of the pair, by what was read there.
pub pair-read : {e z : List ℕ} {base k left right : ℕ} → PairSizes e z base k → left ≡ get_or z (base + k + 1) 0 → right ≡ get_or z (base + k + 1 + left) 0
    → 1 + left + right ≡ size_in e k
pair-read p is is' = grind (arith, p.whole, p.left-size, p.right-size)

-- And of the content of a term with something around it.
pub record ContentSize (e z : List ℕ) (base k : ℕ) : Type 0 where
  pub inside : base + k + 1 < length z
  pub content-size : get_or z (base + k + 1) 0 ≡ size_in e (k + 1)
  pub whole : size_in e k ≡ 1 + size_in e (k + 1)
  pub small : size_in e k ≤ most_term_entries

module _ {e z : List ℕ} {base : ℕ} (k : ℕ) (b : Begins e) (short : length e ≤ most_term_bytes) (sized : SizedFrom e z base (k + 1)) where
  next-size : 4 * (k + 1) < length e → get_or z (base + k + 1) 0 ≡ size_in e (k + 1)
  next-size fit =
      let there : base + (k + 1) ≡ base + k + 1 = omega arith in
      ap (λ (n : ℕ). get_or z n 0) (sym there) ∙ sized.at (k + 1) (omega arith) (whole-entry (k + 1) b fit)

  pub pair-sizes : tag_in e k ≡ pair_tag → PairSizes e z base k
  unfolding right_in
  pair-sizes two =
      let p = (pair-there k b two).is in
      let room = size_fits k b (tag-inside e k two) in
      let there : base + right_in e k ≡ base + k + 1 + size_in e (k + 1) = omega arith in
      record {
        left-inside = omega (arith, p.left-fits, sized.room);
        left-size = next-size p.left-fits;
        right-inside = omega (arith, p.right-fits, sized.room);
        right-size = ap (λ (n : ℕ). get_or z n 0) (sym there) ∙ sized.at (right_in e k) (omega (arith, p.after)) (whole-entry (right_in e k) b p.right-fits);
        whole = pair_size k b two;
        small = omega arith;
      }

  pub content-size : WrapperTag (tag_in e k) → ContentSize e z base k
  content-size one =
      let p = (wrapped-there k b one.wrapping one.is).is in
      let room = size_fits k b (wrapper-inside e k one.wrapping one.is) in
      record {
        inside = omega (arith, p.content-fits, sized.room);
        content-size = next-size p.content-fits;
        whole = wrapped-size k b one.wrapping one.is;
        small = omega arith;
      }

-- What stands before is kept where one more is written.
pub kept_more : {n j : ℕ} {old z : List ℕ} (r : ℕ) → KeptBelow n old z → n ≤ j → KeptBelow n old (set z j r)
kept_more {n} {j} {old} {z} r k far = record { long = simp length-set k.long; same = λ i low. get_or-set_other z j i r 0 (omega arith) ∙ k.same i low }

-- A filled table has the sizes, entry by entry; its part from `base` on has them where it was filled from there.
pub sizes-at : {e z : List ℕ} (base : ℕ) → SizedFrom e z base 0 → SizesOf e (from base z)
sizes-at {e} {z} base s = rw part_to_end (record {
  inside = λ k fit. omega (arith, s.room, length-drop base z);
  at = λ k fit. get_or-drop base z k 0 ∙ s.at k (omega arith) fit;
})

pub sizes-filled : {e z : List ℕ} → SizedFrom e z 0 0 → SizesOf e z
sizes-filled {e} {z} s = record { inside = λ k fit. omega (arith, s.room); at = λ k fit. rw zero-add at (s.at k (omega arith) fit) }

-- Sizes below what was filled in are kept.
pub sizes-kept : {e z new : List ℕ} (base : ℕ) {n : ℕ} → SizesOf e (from base z) → KeptBelow n z new → 4 * base + length e ≤ 4 * n → SizesOf e (from base new)
sizes-kept {e} {z} {new} base {n} s kept low = rw (part_to_end new base) (record {
  inside = λ k fit. let there = old.inside k fit in omega (arith, length-drop base z, length-drop base new, kept.long);
  at = λ k fit. get_or-drop base new k 0 ∙ kept.same (base + k) (omega arith) ∙ sym (get_or-drop base z k 0) ∙ old.at k fit;
})
  where
    old : SizesOf e (drop base z)
    old = rw (part_to_end z base) at s

-- The sizes of a part's terms are a part of the table.
pub sizes-part : {e z : List ℕ} (h : ℕ) → SizesOf e z → SizesOf (from (4 * h) e) (from h z)
sizes-part {e} {z} h s = rw (part_to_end e (4 * h), part_to_end z h) (record {
  inside = λ k fit. let more = s.inside (h + k) (there k fit) in omega (arith, length-drop h z);
  at = λ k fit.
      let far : 4 * h + 4 * k ≡ 4 * (h + k) = omega arith in
      get_or-drop h z k 0 ∙ s.at (h + k) (there k fit) ∙ rw (drop-drop, far) refl;
})
  where
    there : (k : ℕ) → 4 * (k + 1) ≤ length (drop (4 * h) e) → 4 * (h + k + 1) ≤ length e
    there k fit = omega (arith, length-drop (4 * h) e)

-- A size that was read from the table is that of the part's term, and the term ends within the entries.
pub size-at : {e z : List ℕ} (h : ℕ) {n : ℕ} → SizesOf e z → Begins (from (4 * h) e) → n ≡ get_or z h 0
    → (n ≡ size (term_of (from (4 * h) e))) × (4 * (h + n) ≤ length e)
size-at {e} {z} h {n} sizes b read =
    let room = b.room in
    let fit : 4 * (h + 1) ≤ length e = omega (arith, rw part_to_end at room, length-drop (4 * h) e) in
    let is : n ≡ size (term_of (from (4 * h) e)) = rw part_to_end (read ∙ sizes.at h fit) in
    let here : term_of (from (4 * h) e) ≡ b.term = term_of-reads b.reads in
    let small : 4 * size (term_of (from (4 * h) e)) ≤ length (from (4 * h) e) = rw here (fits b.term b.reads) in
    let long : length (from (4 * h) e) ≡ length e - 4 * h = rw part_to_end (length-drop (4 * h) e) in
    (is, omega arith)
