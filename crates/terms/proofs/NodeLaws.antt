-- Laws of nodes: what stands at a node, by the part of the graph that it lies in, and where its children are.
use mathlib.Core.Path.{◌≡◌, refl, sym, ap, ◌∙◌, subst}
use mathlib.Core.Bool.{true, false, true≢false, false≢true}
use mathlib.Core.List.{List}
use mathlib.Core.Logic.{◌⊎◌, inl, inr, ⊎_elim}
use Prim.Native.Nat.{ℕ, zero, suc, ◌+◌, ◌*◌, ◌-◌, ◌%◌, ◌<◌, ◌≤◌}
use native.Mathlib.Omega.{arith}
use native.Mathlib.Decide.{dec_lt}
use lib.ListN.{length, get_or}
use borrow.Author.Tests.{lt-ltb, le-ltb}
use Rattle.terms.specs.Term.{Sort, Wrapping}
use Rattle.terms.specs.Tag.{pair_tag, plain_tag, signature_tag, sort_tag, variables, VariableTag, Tagged, an_atom, a_pair, a_wrapping, a_variable, no_tag, wrapping-tag, wrapping-symbol, wrapping-tagged, sort-tag, sort-range}
use Rattle.terms.proofs.SlotLaws.{slot-by-tag}
use Rattle.terms.specs.Tag.{tagged, free_by, free_tag, wrapping_tag, WrapperTag}
use Rattle.terms.specs.Entry.{Begins}
use Rattle.terms.specs.Graph.{free, wrapper_node, IsSymbol}
use Rattle.terms.specs.TermGraph.{right_nodes, variable_nodes, right_variables, tag_in, value_in, home_for, home_by, home, right_in, node_for, node_by, node_tag}
use Rattle.terms.specs.TermGraph.{node_value, first_child, second_child, node_of, TwoTerms, SizesOf, AtHome, OwnEntry, HasChild}
use Rattle.terms.proofs.TermGraphLaws.{home-there, left-side, right_side}
use Rattle.terms.proofs.SizeLaws.{tag-inside, tag-there, pair-there, wrapped-there, whole-entry}

-- The node of an entry, by its tag.
module _ (e : List ℕ) (base slots k : ℕ) where
  pub home-variable : {n : ℕ} → VariableTag (tag_in e k) → tag_in e k ≤ signature_tag → n ≡ value_in e k
      → slots + variables * (tag_in e k - plain_tag) + n % variables ≡ home e base slots k
  unfolding home home_by
  home-variable {n} some few q = rw q (go (tagged (tag_in e k)))
    where
      go : (w : Tagged (tag_in e k)) → slots + variables * (tag_in e k - plain_tag) + value_in e k % variables ≡ home_for w (value_in e k) slots (base + k)
      go (an_atom g) = absurd (omega arith)
      go (a_pair g) = absurd (omega arith)
      go (a_wrapping w g) = absurd (omega (arith, wrapping-symbol w g))
      go (a_variable s g) = rw g (omega (arith, slot-by-tag s (value_in e k % variables)))
      go (no_tag (inl low)) = absurd (omega arith)
      go (no_tag (inr high)) = absurd (omega arith)

  own-by : ((s : Sort) → tag_in e k ≡ sort_tag s → ⊥) → base + k ≡ home e base slots k
  unfolding home home_by
  own-by off = go (tagged (tag_in e k))
    where
      go : (w : Tagged (tag_in e k)) → base + k ≡ home_for w (value_in e k) slots (base + k)
      go (an_atom g) = refl
      go (a_pair g) = refl
      go (a_wrapping w g) = refl
      go (a_variable s g) = absurd (off s g)
      go (no_tag g) = refl

  pub home-own : ¬ VariableTag (tag_in e k) → base + k ≡ home e base slots k
  home-own symbol = own-by (λ s g. symbol (sort-tag s g))

  pub home-past : signature_tag < tag_in e k → base + k ≡ home e base slots k
  home-past far = own-by (λ s g. omega (arith, sort-range s g))

-- The tag of a node, in each of its three regions.
module _ (s t : List ℕ) {i : ℕ} where
  pub left-tag : i < right_nodes → node_tag s t i ≡ tag_in s i
  unfolding node_tag
  left-tag h = rw (lt-ltb i right_nodes h)

  pub right-tag : right_nodes ≤ i → i < variable_nodes → node_tag s t i ≡ tag_in t (i - right_nodes)
  unfolding node_tag
  right-tag l h = rw (le-ltb i right_nodes l, lt-ltb i variable_nodes h)

  pub past-tag : variable_nodes ≤ i → node_tag s t i ≡ 0
  unfolding node_tag
  past-tag h = rw (le-ltb i right_nodes (omega arith), le-ltb i variable_nodes h)

-- Its value.
module _ (s t : List ℕ) {i : ℕ} where
  pub left-value : i < right_nodes → node_value s t i ≡ value_in s i
  unfolding node_value
  left-value h = rw (lt-ltb i right_nodes h)

  pub right-value : right_nodes ≤ i → i < variable_nodes → node_value s t i ≡ value_in t (i - right_nodes)
  unfolding node_value
  right-value l h = rw (le-ltb i right_nodes l, lt-ltb i variable_nodes h)

module _ (s t : List ℕ) where
  -- What stands at a node, by its tag.
  pub node-by : (i : ℕ) {n : ℕ} → node_tag s t i ≡ n → node_of s t i ≡ node_by n (node_value s t i) (first_child s t i) (second_child s t i)
  unfolding node_of
  node-by i e = ap (λ (m : ℕ). node_by m (node_value s t i) (first_child s t i) (second_child s t i)) e

  pub wrapper-node : (i : ℕ) (w : Wrapping) → node_tag s t i ≡ wrapping_tag w → node_of s t i ≡ wrapper_node w (node_value s t i) (first_child s t i)
  unfolding node_by
  wrapper-node i w e = node-by i e ∙ rw (wrapping-tagged w) refl

  free-node : {n : ℕ} (w : Tagged n) (v l r : ℕ) → free_by w ≡ true → IsSymbol (node_for w v l r) → ⊥
  free-node (an_atom e) v l r f is = false≢true f
  free-node (a_pair e) v l r f is = false≢true f
  free-node (a_wrapping w e) v l r f is = false≢true f
  free-node (a_variable s e) v l r f is = is
  free-node (no_tag e) v l r f is = is

  symbol-node : {n : ℕ} (w : Tagged n) (v l r : ℕ) → free_by w ≡ false → IsSymbol (node_for w v l r)
  symbol-node (an_atom e) v l r f = tt
  symbol-node (a_pair e) v l r f = tt
  symbol-node (a_wrapping w e) v l r f = tt
  symbol-node (a_variable s e) v l r f = absurd (true≢false f)
  symbol-node (no_tag e) v l r f = absurd (true≢false f)

  pub not-symbol : (i : ℕ) → free_tag (node_tag s t i) ≡ true → IsSymbol (node_of s t i) → ⊥
  unfolding node_of node_by free_tag
  not-symbol i f is = free-node (tagged (node_tag s t i)) (node_value s t i) (first_child s t i) (second_child s t i) f is

  symbol-by : {n : ℕ} (w : Tagged n) (v l r : ℕ) → IsSymbol (node_for w v l r) → free_by w ≡ false
  symbol-by (an_atom e) v l r is = refl
  symbol-by (a_pair e) v l r is = refl
  symbol-by (a_wrapping w e) v l r is = refl
  symbol-by (a_variable s e) v l r is = absurd is
  symbol-by (no_tag e) v l r is = absurd is

  pub symbol-tag : (i : ℕ) → IsSymbol (node_of s t i) → free_tag (node_tag s t i) ≡ false
  unfolding node_of node_by free_tag
  symbol-tag i is = symbol-by (tagged (node_tag s t i)) (node_value s t i) (first_child s t i) (second_child s t i) is

  pub is-symbol : (i : ℕ) → free_tag (node_tag s t i) ≡ false → IsSymbol (node_of s t i)
  unfolding node_of node_by free_tag
  is-symbol i f = symbol-node (tagged (node_tag s t i)) (node_value s t i) (first_child s t i) (second_child s t i) f

-- Nodes past the entries are free.
pub past-free : (s t : List ℕ) (i : ℕ) → variable_nodes ≤ i → node_of s t i ≡ free
unfolding node_of node_by
past-free s t i h = rw (past-tag s t h)

-- A symbol stands at an entry's own node.
pub symbol_low : (s t : List ℕ) {i : ℕ} → IsSymbol (node_of s t i) → i < variable_nodes
symbol_low s t {i} is = elim (dec_lt i variable_nodes) [ yes l ↦ l | no n ↦ absurd (subst IsSymbol (past-free s t i (omega arith)) is) ]

some-symbol : (s t : List ℕ) (i : ℕ) → IsSymbol (node_of s t i) → 0 < node_tag s t i
unfolding node_of node_by
some-symbol s t i is = go (tagged (node_tag s t i)) is
  where
    go : {n : ℕ} (w : Tagged n) → IsSymbol (node_for w (node_value s t i) (first_child s t i) (second_child s t i)) → 0 < n
    go (an_atom e) is = omega arith
    go (a_pair e) is = omega arith
    go (a_wrapping w e) is = let n = wrapping-tag w e in omega arith
    go (a_variable v e) is = absurd is
    go (no_tag e) is = absurd is

-- An entry with a tag is whole.
some-tag : {e : List ℕ} (k : ℕ) → Begins e → 0 < tag_in e k → 4 * (k + 1) ≤ length e
some-tag {e} k b some = go (tag_in e k) refl some
  where
    go : (n : ℕ) → tag_in e k ≡ n → 0 < n → 4 * (k + 1) ≤ length e
    go zero g h = absurd (omega arith)
    go (suc n) g h = whole-entry k b (tag-inside e k g)

module _ {s t : List ℕ} (both : TwoTerms s t) {i : ℕ} where
  pub tag-at-entry : 0 < node_tag s t i → OwnEntry s t i
  tag-at-entry some = elim (dec_lt i variable_nodes) [
    | yes l ↦ record {
      low = l;
      left = λ h. some-tag i both.left (rw (left-tag s t h) at some);
      right = λ h. some-tag (i - right_nodes) both.right (rw (right-tag s t h l) at some);
    }
    | no n ↦ let none = past-tag s t {i = i} (omega arith) in absurd (omega arith)
  ]

  pub symbol-inside : IsSymbol (node_of s t i) → OwnEntry s t i
  symbol-inside is = tag-at-entry (some-symbol s t i is)

-- The tag of an entry's own node is one of those there are.
pub own-tag : {s t : List ℕ} {i : ℕ} → TwoTerms s t → OwnEntry s t i → node_tag s t i ≤ signature_tag
own-tag {s} {t} {i} both own = elim (dec_lt i right_nodes) [
  | yes h ↦ rw (left-tag s t h) (tag-there i both.left (omega (arith, own.left h)))
  | no n ↦ let far : right_nodes ≤ i = omega arith in rw (right-tag s t far own.low) (tag-there (i - right_nodes) both.right (omega (arith, own.right far)))
]

-- A node at home that is no variable's is a symbol's.
pub home-symbol : {s t : List ℕ} {i : ℕ} → AtHome s t i → i < variable_nodes → IsSymbol (node_of s t i)
home-symbol at_home low = ⊎_elim (λ high. absurd (omega arith)) (λ is. is) at_home.is

-- The entries of each side are found at home.
pub home-left : (s t : List ℕ) (k : ℕ) → TwoTerms s t → 4 * (k + 1) ≤ length s → AtHome s t (home s 0 variable_nodes k)
home-left s t k both fit =
    let there = home-there (node_of s t) s 0 variable_nodes both.left_short (left-side s t) both.left k (omega arith) (omega arith) (omega arith) fit in
    record { small = there.0; is = there.1 }

pub home-right : (s t : List ℕ) (k : ℕ) → TwoTerms s t → 4 * (k + 1) ≤ length t → AtHome s t (home t right_nodes right_variables k)
home-right s t k both fit =
    let there =
    home-there (node_of s t) t right_nodes right_variables both.right_short (right_side s t) both.right k (omega arith) (omega arith) (omega arith) fit in
    record { small = there.0; is = there.1 }

-- Where the children stand of a pair, or of something around a term, at entry k.
first_fits : {e : List ℕ} (k : ℕ) → Begins e → (tag_in e k ≡ pair_tag) ⊎ WrapperTag (tag_in e k) → 4 * (k + 1 + 1) ≤ length e
first_fits k b (inl two) = whole-entry (k + 1) b (pair-there k b two).is.left-fits
first_fits k b (inr one) = whole-entry (k + 1) b (wrapped-there k b one.wrapping one.is).is.content-fits

-- The children of a node, on each side.
pub child-inside : {s t : List ℕ} {i : ℕ} → TwoTerms s t → HasChild s t i → OwnEntry s t i
child-inside both (inl two) = tag-at-entry both (omega arith)
child-inside both (inr one) = tag-at-entry both (omega (arith, wrapping-tag one.wrapping one.is))

module _ (s t : List ℕ) (i : ℕ) where
  pub first-on-left : i < right_nodes → home s 0 variable_nodes (i + 1) ≡ first_child s t i
  unfolding first_child
  first-on-left h = rw (lt-ltb i right_nodes h)

  pub first-on-right : right_nodes ≤ i → i < variable_nodes → home t right_nodes right_variables (i - right_nodes + 1) ≡ first_child s t i
  unfolding first_child
  first-on-right l h = rw (le-ltb i right_nodes l, lt-ltb i variable_nodes h)

  pub second-on-left : i < right_nodes → home s 0 variable_nodes (right_in s i) ≡ second_child s t i
  unfolding second_child
  second-on-left h = rw (lt-ltb i right_nodes h)

  pub second-on-right : right_nodes ≤ i → i < variable_nodes → home t right_nodes right_variables (right_in t (i - right_nodes)) ≡ second_child s t i
  unfolding second_child
  second-on-right l h = rw (le-ltb i right_nodes l, lt-ltb i variable_nodes h)

module _ {s t : List ℕ} {i : ℕ} (both : TwoTerms s t) where
  pub left-first-fits : HasChild s t i → i < right_nodes → 4 * (i + 1 + 1) ≤ length s
  left-first-fits (inl two) h = first_fits i both.left (inl (sym (left-tag s t h) ∙ two))
  left-first-fits (inr one) h =
      first_fits i both.left (inr (record { wrapping = one.wrapping; is = sym (left-tag s t h) ∙ one.is }))

  pub right-first-fits : HasChild s t i → right_nodes ≤ i → i < variable_nodes → 4 * (i - right_nodes + 1 + 1) ≤ length t
  right-first-fits (inl two) l h = first_fits (i - right_nodes) both.right (inl (sym (right-tag s t l h) ∙ two))
  right-first-fits (inr one) l h =
      first_fits (i - right_nodes) both.right (inr (record { wrapping = one.wrapping; is = sym (right-tag s t l h) ∙ one.is }))

-- The right half of a pair at entry k, by the sizes.
pub record RightThere (e z : List ℕ) (k : ℕ) : Type 0 where
  pub inside : k + 1 < length z
  pub read : k + 1 + get_or z (k + 1) 0 ≡ right_in e k
  pub fits : 4 * (right_in e k + 1) ≤ length e

right_there : {e z : List ℕ} (k : ℕ) → Begins e → SizesOf e z → tag_in e k ≡ pair_tag → RightThere e z k
unfolding right_in
right_there k b sizes two =
    let p = (pair-there k b two).is in
    let next = whole-entry (k + 1) b p.left-fits in
    record {
      inside = sizes.inside (k + 1) next;
      read = ap (λ (n : ℕ). k + 1 + n) (sizes.at (k + 1) next);
      fits = whole-entry (right_in _ k) b p.right-fits;
    }

module _ {s t z : List ℕ} {i : ℕ} (both : TwoTerms s t) (two : node_tag s t i ≡ pair_tag) where
  pub left-right-there : SizesOf s z → i < right_nodes → RightThere s z i
  left-right-there sizes h = right_there i both.left sizes (sym (left-tag s t h) ∙ two)

  pub right-right-there : SizesOf t z → right_nodes ≤ i → i < variable_nodes → RightThere t z (i - right_nodes)
  right-right-there sizes l h = right_there (i - right_nodes) both.right sizes (sym (right-tag s t l h) ∙ two)
