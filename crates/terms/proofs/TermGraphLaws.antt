-- Laws of the graph of two terms, side by side: where a term's entries stand, and the messages that a valid valuation gives
-- their nodes.
use mathlib.Core.Path.{◌≡◌, refl, sym, ap, ap₂, ◌∙◌, subst}
use mathlib.Core.Bool.{Bool, true, false}
use mathlib.Core.List.{List, [], ◌∷◌}
use mathlib.Core.Logic.{◌⊎◌, inl, inr, ∥∥₁_elim, ∥∥₁_map}
use mathlib.Core.HLevel.{⊥_prop}
use mathlib.Core.Option.{Option, none, some}
use native.Mathlib.Bridge.{le_prop}
use Prim.Native.Nat.{ℕ, ◌+◌, ◌*◌, ◌-◌, ◌%◌, ◌<◌, ◌≤◌}
use native.Mathlib.Omega.{arith}
use native.Mathlib.Nat.{zero-add}
use lib.Dec.{ltb}
use lib.ListN.{length, get_or, drop, length-drop, get_or-eq_default}
use lib.Seq.{drop-drop, get_or-drop}
use borrow.Author.Tests.{lt-ltb, le-ltb, ltb-true, ltb-false}
use borrow.Author.Rules.{part_to_end}
use Rattle.blocks.specs.Limits.{most_term_bytes}
use Rattle.terms.specs.Term.{Term, variable, atom, pair, Message, Sort, Variable, named, replace, wrapped, Wrapping}
use Rattle.terms.specs.Tag.{atom_tag, pair_tag, sort_tag, variables, sort-tagged, wrapping_tag, wrapping-tagged}
use Rattle.terms.specs.Entry.{size, terms_of, term_of, Reads, Begins, tag_at, value_at, from}
use Rattle.terms.specs.Reading.{First, first_atom, first_pair, first_wrapped, first_variable, none≢some, nothing_read, first}
use Rattle.terms.specs.Slot.{slot_in}
use Rattle.terms.specs.Graph.{Node, free, atom_node, pair_node, wrapper_node, IsSymbol, made, Valid}
use Rattle.terms.specs.TermGraph.{right_nodes, variable_nodes, right_variables, all_nodes, tag_in, value_in, home_by, home, right_in, node_by, node_tag, node_value}
use Rattle.terms.specs.TermGraph.{first_child, second_child, node_of, TwoTerms}
use Rattle.terms.proofs.EntryLaws.{four, term_of-reads, reads-atom, reads-pair, reads-wrapped, reads-variable, past, suffix}
use Rattle.terms.proofs.SlotLaws.{slot_small}

-- The first entry of what is left from entry k on is entry k.
pub tag_in_lem : (e : List ℕ) (k : ℕ) → tag_in e k ≡ tag_at (drop (4 * k) e)
tag_in_lem e k = let here : 4 * k + 0 ≡ 4 * k = omega arith in sym (get_or-drop (4 * k) e 0 0 ∙ ap (λ (n : ℕ). get_or e n 0) here)

pub value_in_lem : (e : List ℕ) (k : ℕ) → value_in e k ≡ value_at (drop (4 * k) e)
value_in_lem e k =
    let high : 4 * k + 3 ≡ 4 * k + 2 + 1 = omega arith in
    sym (ap₂ (λ (x y : ℕ). x + 256 * y) (get_or-drop (4 * k) e 2 0) (get_or-drop (4 * k) e 3 0 ∙ ap (λ (n : ℕ). get_or e n 0) high))

pub value-part : (e : List ℕ) (k : ℕ) {n : ℕ} → n ≡ value_at (from (4 * k) e) → n ≡ value_in e k
value-part e k is = is ∙ ap value_at (part_to_end e (4 * k)) ∙ sym (value_in_lem e k)

-- The tag of an entry, as the code reads it.
pub tag-from : (e : List ℕ) (k : ℕ) → get_or e (4 * k) 0 ≡ tag_at (from (4 * k) e)
tag-from e k = rw part_to_end (tag_in_lem e k)

-- The next entry, and the one past the left half of a pair.
next-entry : (e : List ℕ) (k : ℕ) → drop 4 (drop (4 * k) e) ≡ drop (4 * (k + 1)) e
next-entry e k = let far : 4 * k + 4 ≡ 4 * (k + 1) = omega arith in rw (drop-drop, far)

pub right-in : (e : List ℕ) (k : ℕ) {t : Term Variable} {l : List (Term Variable)} → Reads (drop (4 * (k + 1)) e) (t ∷ l) → right_in e k ≡ k + 1 + size t
unfolding right_in
right-in e k r = ap (λ (x : Term Variable). k + 1 + size x) (term_of-reads r)

-- A pair stands at entry k: where its halves stand.
pub record PairIn (e : List ℕ) (k : ℕ) (t u : Term Variable) (l : List (Term Variable)) : Type 0 where
  pub tag : tag_in e k ≡ pair_tag
  pub left : Reads (drop (4 * (k + 1)) e) (t ∷ u ∷ l)
  pub right : Reads (drop (4 * right_in e k) e) (u ∷ l)
  pub left-fits : 4 * (k + 1) < length e
  pub right-fits : 4 * right_in e k < length e
  pub after : k < right_in e k

pub pair-in : (e : List ℕ) (k : ℕ) {t u : Term Variable} {l : List (Term Variable)} → Reads (drop (4 * k) e) (pair t u ∷ l) → PairIn e k t u l
pair-in e k {t} {u} {l} r =
    let f = reads-pair r in
    let left : Reads (drop (4 * (k + 1)) e) (t ∷ u ∷ l) = rw next-entry at f.2 in
    let to : right_in e k ≡ k + 1 + size t = right-in e k left in
    let far : 4 * (k + 1) + 4 * size t ≡ 4 * right_in e k = omega arith in
    let right : Reads (drop (4 * right_in e k) e) (u ∷ l) = rw (drop-drop, far) at (past t left) in
    let room = four left in
    let more = four right in
    record {
      tag = tag_in_lem e k ∙ f.0;
      left = left;
      right = right;
      left-fits = omega (arith, length-drop (4 * (k + 1)) e);
      right-fits = omega (arith, length-drop (4 * right_in e k) e);
      after = omega arith;
    }

-- A term with something around it stands at entry k: what it holds stands next.
pub record WrappedIn (w : Wrapping) (e : List ℕ) (k q : ℕ) (t : Term Variable) (l : List (Term Variable)) : Type 0 where
  pub tag : tag_in e k ≡ wrapping_tag w
  pub key : value_in e k ≡ q
  pub content : Reads (drop (4 * (k + 1)) e) (t ∷ l)
  pub content-fits : 4 * (k + 1) < length e

pub wrapped-in : {w : Wrapping} (e : List ℕ) (k : ℕ) {q : ℕ} {t : Term Variable} {l : List (Term Variable)} → Reads (drop (4 * k) e) (wrapped w q t ∷ l)
    → WrappedIn w e k q t l
wrapped-in e k {q} {t} {l} r =
    let f = reads-wrapped r in
    let below : Reads (drop (4 * (k + 1)) e) (t ∷ l) = rw next-entry at f.2 in
    let room = four below in
    record { tag = tag_in_lem e k ∙ f.0; key = value_in_lem e k ∙ f.1; content = below; content-fits = omega (arith, length-drop (4 * (k + 1)) e) }

-- An entry with the tag of a sort: its node is its variable's, and free.
home-sort : (s : Sort) (n slots own : ℕ) → home_by (sort_tag s) n slots own ≡ slots + slot_in s (n % variables)
unfolding home_by
home-sort s n slots own = rw (sort-tagged s) refl

node-sort : (s : Sort) (n l r : ℕ) → node_by (sort_tag s) n l r ≡ free
unfolding node_by
node-sort s n l r = rw (sort-tagged s) refl

-- An entry with the tag of what is put around a term: its node is its own.
home-wrapping : (w : Wrapping) (n slots own : ℕ) → home_by (wrapping_tag w) n slots own ≡ own
unfolding home_by
home-wrapping w n slots own = rw (wrapping-tagged w) refl

node-wrapping : (w : Wrapping) (n l r : ℕ) → node_by (wrapping_tag w) n l r ≡ wrapper_node w n l
unfolding node_by
node-wrapping w n l r = rw (wrapping-tagged w) refl

mod-small : (n : ℕ) → n % variables < variables
mod-small n = omega arith

-- One side of the graph: entries e from node base on, variables from slots on.
module _ (node : ℕ → Node) (e : List ℕ) (base slots : ℕ) (short : length e ≤ most_term_bytes)
    (at_Side : (k : ℕ) → k < right_nodes → node (base + k) ≡ node_by (tag_in e k) (value_in e k) (home e base slots (k + 1)) (home e base slots (right_in e k))) where
  node-tag : {k n : ℕ} → k < right_nodes → tag_in e k ≡ n → node (base + k) ≡ node_by n (value_in e k) (home e base slots (k + 1)) (home e base slots (right_in e k))
  node-tag {k} h g = at_Side k h ∙ ap (λ (m : ℕ). node_by m (value_in e k) (home e base slots (k + 1)) (home e base slots (right_in e k))) g

  home-tag : (k : ℕ) {n : ℕ} → tag_in e k ≡ n → home e base slots k ≡ home_by n (value_in e k) slots (base + k)
  unfolding home
  home-tag k g = ap (λ (m : ℕ). home_by m (value_in e k) slots (base + k)) g

  -- An entry is found at a variable's node or where a symbol stands.
  pub home-there : Begins e → (k : ℕ) → variable_nodes ≤ slots → slots ≤ right_variables → base ≤ right_nodes → 4 * (k + 1) ≤ length e
      → (home e base slots k < all_nodes) × ((variable_nodes ≤ home e base slots k) ⊎ IsSymbol (node (home e base slots k)))
  unfolding home_by node_by
  home-there b k from-variable_nodes up_to_lem low fit = let there = suffix k b (omega arith) in go (first there.reads)
    where
      own : {n : ℕ} → tag_in e k ≡ n → home_by n (value_in e k) slots (base + k) ≡ base + k
          → IsSymbol (node_by n (value_in e k) (home e base slots (k + 1)) (home e base slots (right_in e k)))
          → (home e base slots k < all_nodes) × ((variable_nodes ≤ home e base slots k) ⊎ IsSymbol (node (home e base slots k)))
      own g q is =
          let here : home e base slots k ≡ base + k = home-tag k g ∙ q in
          let symbol : IsSymbol (node (base + k)) = subst IsSymbol (sym (node-tag (omega arith) g)) is in
          (omega arith, inr (subst (λ (n : ℕ). IsSymbol (node n)) (sym here) symbol))

      slot : {n : ℕ} → home e base slots k ≡ n → variable_nodes ≤ n → n < all_nodes
          → (home e base slots k < all_nodes) × ((variable_nodes ≤ home e base slots k) ⊎ IsSymbol (node (home e base slots k)))
      slot here l h = (omega arith, inl (omega arith))

      go : {l : List (Term Variable)} → First (tag_at (drop (4 * k) e)) (value_at (drop (4 * k) e)) (drop 4 (drop (4 * k) e)) l
          → (home e base slots k < all_nodes) × ((variable_nodes ≤ home e base slots k) ⊎ IsSymbol (node (home e base slots k)))
      go (first_atom g q r) = own (tag_in_lem e k ∙ g) refl tt
      go (first_pair g n q r) = own (tag_in_lem e k ∙ g) refl tt
      go (first_wrapped {w = w} i g q r) = own (tag_in_lem e k ∙ i) (rw (wrapping-tagged w) refl) (rw (wrapping-tagged w) tt)
      go (first_variable {s = s} g v n q r) =
          let low = slot_small s (mod-small (value_in e k)) in
          slot (home-tag k (tag_in_lem e k ∙ g) ∙ home-sort s (value_in e k) slots (base + k)) (omega arith) (omega arith)

  module _ (v : ℕ → Message) (by : Variable → Message)
      (given : (s : Sort) (x : ℕ) → x < variables → v (slots + slot_in s x) ≡ by (named s x)) where
    -- A variable's entry is found at its variable's node.
    variable-value : (k : ℕ) (x : Variable) {l : List (Term Variable)} → Reads (drop (4 * k) e) (variable x ∷ l) → v (home e base slots k) ≡ by x
    variable-value k (named s x) r =
        let f = reads-variable r in
        let n : value_in e k % variables ≡ x = ap (λ (m : ℕ). m % variables) (value_in_lem e k ∙ f.1) ∙ omega (arith, f.2) in
        ap v (home-tag k (tag_in_lem e k ∙ f.0) ∙ home-sort s (value_in e k) slots (base + k)) ∙ ap (λ (m : ℕ). v (slots + slot_in s m)) n ∙ given s x f.2

    -- A valid valuation gives every entry's node the instance of the term that stands there.
    pub values : Valid node v → (t : Term Variable) (k : ℕ) {l : List (Term Variable)} → k < right_nodes → Reads (drop (4 * k) e) (t ∷ l)
        → v (home e base slots k) ≡ replace by t
    unfolding replace home_by node_by made
    values valid (variable x) k h r = variable-value k x r
    values valid (atom a) k h r =
        let f = reads-atom r in
        let tag : tag_in e k ≡ atom_tag = tag_in_lem e k ∙ f.0 in
        let is : node (base + k) ≡ atom_node (value_in e k) = node-tag h tag in
        ap v (home-tag k tag) ∙ valid.makes (base + k) (subst IsSymbol (sym is) tt) ∙ ap (made v) is ∙ ap atom (value_in_lem e k ∙ f.1)
    values valid (pair t u) k h r =
        let p = pair-in e k r in
        let is : node (base + k) ≡ pair_node (home e base slots (k + 1)) (home e base slots (right_in e k)) = node-tag h p.tag in
        let first : v (home e base slots (k + 1)) ≡ replace by t = values valid t (k + 1) (omega arith) p.left in
        let second : v (home e base slots (right_in e k)) ≡ replace by u = values valid u (right_in e k) (omega arith) p.right in
        ap v (home-tag k p.tag) ∙ valid.makes (base + k) (subst IsSymbol (sym is) tt) ∙ ap (made v) is ∙ ap₂ pair first second
    values valid (wrapped w q t) k h r =
        let p = wrapped-in e k r in
        let is : node (base + k) ≡ wrapper_node w (value_in e k) (home e base slots (k + 1)) = node-tag h p.tag ∙ node-wrapping w _ _ _ in
        let first : v (home e base slots (k + 1)) ≡ replace by t = values valid t (k + 1) (omega arith) p.content in
        ap v (home-tag k p.tag ∙ home-wrapping w _ _ _) ∙ valid.makes (base + k) (subst IsSymbol (sym is) tt) ∙ ap (made v) is
        ∙ ap₂ (wrapped w) p.key first

    -- The other way round: where every entry's own node has the instance of its term, the valuation is valid there.
    module _ (own : (k : ℕ) → k < right_nodes → v (base + k) ≡ replace by (term_of (drop (4 * k) e))) where
      own_value : (k : ℕ) {n : ℕ} → k < right_nodes → tag_in e k ≡ n → home_by n (value_in e k) slots (base + k) ≡ base + k
          → v (home e base slots k) ≡ replace by (term_of (drop (4 * k) e))
      own_value k h g q = ap v (home-tag k g ∙ q) ∙ own k h

      pub home-value : (k : ℕ) (t : Term Variable) {l : List (Term Variable)} → k < right_nodes → Reads (drop (4 * k) e) (t ∷ l)
          → v (home e base slots k) ≡ replace by t
      unfolding replace home_by
      home-value k (variable x) h r = variable-value k x r
      home-value k (atom a) h r = own_value k h (tag_in_lem e k ∙ (reads-atom r).0) refl ∙ ap (replace by) (term_of-reads r)
      home-value k (pair t u) h r = own_value k h (tag_in_lem e k ∙ (reads-pair r).0) refl ∙ ap (replace by) (term_of-reads r)
      home-value k (wrapped w q t) h r = own_value k h (tag_in_lem e k ∙ (reads-wrapped r).0) (home-wrapping w _ _ _) ∙ ap (replace by) (term_of-reads r)

      made-there : (k : ℕ) (t : Term Variable) {l : List (Term Variable)} → k < right_nodes → Reads (drop (4 * k) e) (t ∷ l) → IsSymbol (node (base + k))
          → v (base + k) ≡ made v (node (base + k))
      unfolding replace node_by made
      made-there k (variable (named s x)) h r is =
          absurd (subst IsSymbol (node-tag h (tag_in_lem e k ∙ (reads-variable r).0) ∙ node-sort s (value_in e k) _ _) is)
      made-there k (atom a) h r is =
          let f = reads-atom r in
          own k h ∙ ap (replace by) (term_of-reads r) ∙ ap atom (sym (value_in_lem e k ∙ f.1)) ∙ ap (made v) (sym (node-tag h (tag_in_lem e k ∙ f.0)))
      made-there k (pair t u) h r is =
          let p = pair-in e k r in
          let first : v (home e base slots (k + 1)) ≡ replace by t = home-value (k + 1) t (omega arith) p.left in
          let second : v (home e base slots (right_in e k)) ≡ replace by u = home-value (right_in e k) u (omega arith) p.right in
          own k h ∙ ap (replace by) (term_of-reads r) ∙ ap₂ pair (sym first) (sym second) ∙ ap (made v) (sym (node-tag h p.tag))
      made-there k (wrapped w q t) h r is =
          let p = wrapped-in e k r in
          let first : v (home e base slots (k + 1)) ≡ replace by t = home-value (k + 1) t (omega arith) p.content in
          own k h ∙ ap (replace by) (term_of-reads r) ∙ ap₂ (wrapped w) (sym p.key) (sym first)
          ∙ ap (made v) (sym (node-tag h p.tag ∙ node-wrapping w _ _ _))

      pub side-makes : Begins e → (k : ℕ) → k < right_nodes → IsSymbol (node (base + k)) → v (base + k) ≡ made v (node (base + k))
      unfolding node_by
      side-makes whole k h is = go (ltb (4 * k) (length e)) refl
        where
          go : (b : Bool) → ltb (4 * k) (length e) ≡ b → v (base + k) ≡ made v (node (base + k))
          go true q = let b = suffix k whole (ltb-true (4 * k) (length e) q) in made-there k b.term h b.reads is
          go false q =
              let past_end : tag_in e k ≡ 0 = get_or-eq_default e 0 (ltb-false (4 * k) (length e) q) in
              absurd (subst IsSymbol (node-tag h past_end) is)

-- The two sides.
pub left-side : (s t : List ℕ) (k : ℕ) → k < right_nodes
    → node_of s t (0 + k) ≡ node_by (tag_in s k) (value_in s k) (home s 0 variable_nodes (k + 1)) (home s 0 variable_nodes (right_in s k))
unfolding node_of node_tag node_value first_child second_child
left-side s t k h = rw zero-add (simp (lt-ltb k right_nodes h))

pub right_side : (s t : List ℕ) (k : ℕ) → k < right_nodes
    → node_of s t (right_nodes + k) ≡ node_by (tag_in t k) (value_in t k) (home t right_nodes right_variables (k + 1)) (home t right_nodes right_variables (right_in t k))
unfolding node_of node_tag node_value first_child second_child
right_side s t k h =
    let back : right_nodes + k - right_nodes ≡ k = omega arith in
    let low : ltb (right_nodes + k) right_nodes ≡ false = le-ltb (right_nodes + k) right_nodes (omega arith) in
    let high : ltb (right_nodes + k) variable_nodes ≡ true = lt-ltb (right_nodes + k) variable_nodes (omega arith) in
    simp (low, high, back)

-- The terms that lists of entries begin with can be read back from the lists.
begins_again : {e : List ℕ} → ∥ Begins e ∥₁ → Begins e
begins_again {e} b = go (terms_of e) refl
  where
    go : (o : Option (List (Term Variable))) → terms_of e ≡ o → Begins e
    go none q = absurd (∥∥₁_elim b ⊥_prop (λ w. none≢some _ (sym q ∙ w.reads.is)))
    go (some []) q = absurd (∥∥₁_elim b ⊥_prop (λ w. nothing_read (sym q ∙ w.reads.is)))
    go (some (t ∷ l)) q = record { term = t; others = l; reads = record { is = q }; room = ∥∥₁_elim b le_prop (λ w. w.room) }

pub two_terms : {s t : List ℕ} → ∥ TwoTerms s t ∥₁ → TwoTerms s t
two_terms two = record {
  left = begins_again (∥∥₁_map two (λ w. w.left));
  right = begins_again (∥∥₁_map two (λ w. w.right));
  left_short = ∥∥₁_elim two le_prop (λ w. w.left_short);
  right_short = ∥∥₁_elim two le_prop (λ w. w.right_short);
}
