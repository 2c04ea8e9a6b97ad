-- Laws of tags: how many children an entry has, and which sorts are marked.
use mathlib.Core.Path.{◌≡◌, refl, sym, ap, ◌∙◌}
use mathlib.Core.Logic.{◌⊎◌, inl, inr, ⊎_elim}
use mathlib.Core.List.{List, [], ◌∷◌}
use Prim.Native.Nat.{ℕ, ◌≤◌}
use lib.ListN.{get_or}
use native.Mathlib.Omega.{arith}
use Rattle.terms.specs.Term.{Sort, sort, plain, marked, Range, any_message, one_nonce, Wrapping, encryption, hash, signature}
use Rattle.terms.specs.Tag.{pair_tag, signature_tag, sort_tag, Tagged, an_atom, a_pair, a_wrapping, a_variable, no_tag, tagged, children_by, children_of, wrapping_tag, wrapping-tagged}
use Rattle.terms.specs.Tag.{sort-tagged, MarkedTag, VariableTag, WrapperTag}

-- A variable has none.
pub sort-childless : (s : Sort) → children_of (sort_tag s) ≡ 0
unfolding children_of
sort-childless s = rw (sort-tagged s) refl

-- What is put around a term has one.
pub wrapping-child : (w : Wrapping) → children_of (wrapping_tag w) ≡ 1
unfolding children_of
wrapping-child w = rw (wrapping-tagged w) refl

pub two-children : {tag : ℕ} → tag ≡ pair_tag → 2 ≡ children_of tag
unfolding children_of
two-children e = rw e refl

pub one-child : {tag : ℕ} → WrapperTag tag → 1 ≡ children_of tag
one-child w = rw w.is (sym (wrapping-child w.wrapping))

-- And by the number of children what the tag is.
pub two-tag : (tag : ℕ) → children_of tag ≡ 2 → tag ≡ pair_tag
unfolding children_of
two-tag tag = go (tagged tag)
  where
    go : (w : Tagged tag) → children_by w ≡ 2 → tag ≡ pair_tag
    go (an_atom e) is = absurd (omega arith)
    go (a_pair e) is = e
    go (a_wrapping w e) is = absurd (omega arith)
    go (a_variable s e) is = absurd (omega arith)
    go (no_tag e) is = absurd (omega arith)

pub one_tag : (tag : ℕ) → children_of tag ≡ 1 → WrapperTag tag
unfolding children_of
one_tag tag = go (tagged tag)
  where
    go : (w : Tagged tag) → children_by w ≡ 1 → WrapperTag tag
    go (an_atom e) is = absurd (omega arith)
    go (a_pair e) is = absurd (omega arith)
    go (a_wrapping w e) is = record { wrapping = w; is = e }
    go (a_variable s e) is = absurd (omega arith)
    go (no_tag e) is = absurd (omega arith)

-- The table of that, tag by tag.
abbrev pub children_table : List ℕ
children_table = 0 ∷ 0 ∷ 2 ∷ 1 ∷ 0 ∷ 0 ∷ 0 ∷ 0 ∷ 1 ∷ 1 ∷ []

pub table-children : (tag : ℕ) → tag ≤ signature_tag → get_or children_table tag 0 ≡ children_of tag
unfolding children_of sort_tag wrapping_tag
table-children tag few = go (tagged tag)
  where
    wrapper : (w : Wrapping) → tag ≡ wrapping_tag w → get_or children_table tag 0 ≡ 1
    wrapper encryption e = rw e refl
    wrapper hash e = rw e refl
    wrapper signature e = rw e refl

    variable : (s : Sort) → tag ≡ sort_tag s → get_or children_table tag 0 ≡ 0
    variable (sort plain any_message) e = rw e refl
    variable (sort marked any_message) e = rw e refl
    variable (sort plain one_nonce) e = rw e refl
    variable (sort marked one_nonce) e = rw e refl

    go : (w : Tagged tag) → get_or children_table tag 0 ≡ children_by w
    go (an_atom e) = rw e refl
    go (a_pair e) = rw e refl
    go (a_wrapping w e) = wrapper w e
    go (a_variable s e) = variable s e
    go (no_tag (inl low)) = let none : tag ≡ 0 = omega arith in rw none refl
    go (no_tag (inr high)) = absurd (omega arith)

pub few-children : (tag : ℕ) → children_of tag ≤ 2
unfolding children_of
few-children tag = go (tagged tag)
  where
    go : (w : Tagged tag) → children_by w ≤ 2
    go (an_atom e) = omega arith
    go (a_pair e) = omega arith
    go (a_wrapping w e) = omega arith
    go (a_variable s e) = omega arith
    go (no_tag e) = omega arith

-- A sort by its tag: whether it is marked.
pub marked-sort : (s : Sort) {tag : ℕ} → tag ≡ sort_tag s → MarkedTag tag → (r : Range) × (s ≡ sort marked r)
unfolding sort_tag
marked-sort (sort marked r) e m = (r, refl)
marked-sort (sort plain any_message) e (inl m) = absurd (omega arith)
marked-sort (sort plain any_message) e (inr m) = absurd (omega arith)
marked-sort (sort plain one_nonce) e (inl m) = absurd (omega arith)
marked-sort (sort plain one_nonce) e (inr m) = absurd (omega arith)

pub plain-sort : (s : Sort) {tag : ℕ} → tag ≡ sort_tag s → ¬ MarkedTag tag → (r : Range) × (s ≡ sort plain r)
unfolding sort_tag
plain-sort (sort plain r) e off = (r, refl)
plain-sort (sort marked any_message) e off = absurd (off (inl e))
plain-sort (sort marked one_nonce) e off = absurd (off (inr e))

pub mark-tagged : (r : Range) {tag : ℕ} → tag ≡ sort_tag (sort marked r) → MarkedTag tag
unfolding sort_tag
mark-tagged any_message e = inl e
mark-tagged one_nonce e = inr e

-- It is a variable's.
pub marked-variable : {tag : ℕ} → MarkedTag tag → VariableTag tag
marked-variable (inl e) = omega arith
marked-variable (inr e) = omega arith

-- An entry with children is a pair's or a wrapper's.
some-children : (tag : ℕ) → ¬ (children_of tag ≡ 0) → (tag ≡ pair_tag) ⊎ WrapperTag tag
unfolding children_of
some-children tag off = go (tagged tag) off
  where
    go : (w : Tagged tag) → ¬ (children_by w ≡ 0) → (tag ≡ pair_tag) ⊎ WrapperTag tag
    go (an_atom e) off = absurd (off refl)
    go (a_pair e) off = inl e
    go (a_wrapping w e) off = inr (record { wrapping = w; is = e })
    go (a_variable s e) off = absurd (off refl)
    go (no_tag e) off = absurd (off refl)

-- By a count of children that was read for the tag.
module _ {tag read count : ℕ} (is : read ≡ tag) (counted : count ≡ children_of read) where
  pub has-child : ¬ (count ≡ 0) → (tag ≡ pair_tag) ⊎ WrapperTag tag
  has-child off = some-children tag (λ e. off (counted ∙ ap children_of is ∙ e))

  pub has-content : ¬ (count ≡ 0) → (read ≡ pair_tag → ⊥) → WrapperTag tag
  has-content off other = ⊎_elim (λ two. absurd (other (is ∙ two))) (λ one. one) (has-child off)

  pub no-pair : count ≡ 0 → tag ≡ pair_tag → ⊥
  no-pair none e = omega (arith, none, counted, ap children_of is, two-children e)

  pub no-wrapper : count ≡ 0 → ¬ WrapperTag tag
  no-wrapper none w = omega (arith, none, counted, ap children_of is, one-child w)
