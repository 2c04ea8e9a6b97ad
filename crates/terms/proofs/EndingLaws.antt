-- Laws of the walk that tests whether every way down over the classes ends.
use mathlib.Core.Path.{◌≡◌, refl, sym, ap, ◌∙◌, subst}
use mathlib.Core.Bool.{Bool, true, false, true≢false, false≢true}
use mathlib.Core.List.{List, [], ◌∷◌}
use mathlib.Core.Logic.{◌⊎◌, inl, inr, ⊎_elim}
use Prim.Native.Nat.{ℕ, zero, suc, ◌+◌, ◌-◌, ◌/◌, ◌<◌, ◌≤◌}
use native.Mathlib.Omega.{arith}
use native.Mathlib.Decide.{dec_lt, ℕ_discrete}
use lib.ListN.{length, set}
use lib.Seq.{get_or-set_same, get_or-set_other}
use Rattle.terms.specs.declared.ending.Mark.{Mark}
use Rattle.terms.specs.declared.ending.Mark.TheVariants.{Unmet, Open, Ended}
use Rattle.terms.specs.Term.{Message}
use Rattle.terms.specs.Tag.{pair_tag, WrapperTag, Tagged, an_atom, a_pair, a_wrapping, a_variable, no_tag, tagged}
use Rattle.terms.specs.Entry.{size}
use Rattle.terms.specs.Graph.{IsSymbol, Child, Valid, Respects, Finite, finite}
use Rattle.terms.specs.TermGraph.{right_nodes, variable_nodes, node_for, node_by, node_tag, node_value, first_child, second_child, node_of, TwoTerms, AtHome}
use Rattle.terms.specs.TermGraph.{OwnEntry, HasChild}
use Rattle.terms.specs.Names.{name_of, Linked}
use Rattle.terms.specs.Ending.{ChildrenEnd, ParentEnds, Sound, Below, ChildrenBelow, mark_of, unmet, MarksKept, Walked, EachFrom}
use Rattle.terms.proofs.GraphLaws.{child-symbol, falls}
use Rattle.terms.proofs.NodeLaws.{node-by, wrapper-node, past-free, symbol-inside, home-symbol}
use Rattle.terms.proofs.NameLaws.{name-named, name-home}

-- P holds of none; and of one more, below.
pub each_none : (P : ℕ → Type 0) (low : ℕ) → EachFrom P low low
each_none P low = record { each = λ k h g. absurd (omega arith) }

pub each-down : {P : ℕ → Type 0} {low high : ℕ} → EachFrom P low high → P (low - 1) → EachFrom P (low - 1) high
each-down {P} {low} {high} o p = record {
  each = λ j h g. elim (dec_lt j low) [ yes l ↦ let same : j ≡ low - 1 = omega arith in rw same p | no n ↦ o.each j (omega arith) g ];
}

pub each-up : {P : ℕ → Type 0} {k low high : ℕ} → EachFrom P k high → k ≤ low → EachFrom P low high
each-up all up = record { each = λ j h g. all.each j (omega arith) g }

-- ---- marks

unmet≢open : Unmet ≡ Open → ⊥
unmet≢open e = let z : ◌≡◌ {A = ℕ} 0 1 = cc in omega arith

unmet≢ended : Unmet ≡ Ended → ⊥
unmet≢ended e = let z : ◌≡◌ {A = ℕ} 0 1 = cc in omega arith

open≢ended : Open ≡ Ended → ⊥
open≢ended e = let z : ◌≡◌ {A = ℕ} 0 1 = cc in omega arith

-- One more met; and a mark over another.
pub fewer-unmet : (m : List Mark) (a : ℕ) → a < length m → mark_of m a ≡ Unmet → unmet (set m a Open) < unmet m
unfolding unmet
fewer-unmet [] a h q = absurd (omega arith)
fewer-unmet (x ∷ m) zero h q = rw q (omega arith)
fewer-unmet (x ∷ m) (suc a) h q = let ih = fewer-unmet m a (omega arith) q in omega arith

no-more-unmet : (m : List Mark) (a : ℕ) → unmet (set m a Ended) ≤ unmet m
unfolding unmet
no-more-unmet [] a = omega arith
no-more-unmet (x ∷ m) zero = omega arith
no-more-unmet (x ∷ m) (suc a) = let ih = no-more-unmet m a in omega arith

-- ---- children of nodes

-- A node's children by its tag.
module _ (s t : List ℕ) (i : ℕ) where
  childless : (node_tag s t i ≡ pair_tag → ⊥) → ¬ WrapperTag (node_tag s t i) → (j : ℕ) → Child j (node_of s t i) → ⊥
  unfolding node_of node_by
  childless no-pair no-wrapper = go (tagged (node_tag s t i))
    where
      go : (w : Tagged (node_tag s t i)) (j : ℕ) → Child j (node_for w (node_value s t i) (first_child s t i) (second_child s t i)) → ⊥
      go (an_atom e) j child = child
      go (a_pair e) j child = no-pair e
      go (a_wrapping w e) j child = no-wrapper (record { wrapping = w; is = e })
      go (a_variable v e) j child = child
      go (no_tag e) j child = child

  pair-children : node_tag s t i ≡ pair_tag → (j : ℕ) → Child j (node_of s t i) → (j ≡ first_child s t i) ⊎ (j ≡ second_child s t i)
  unfolding node_by
  pair-children two j child = subst (Child j) (node-by s t i two) child

  content-children : WrapperTag (node_tag s t i) → (j : ℕ) → Child j (node_of s t i) → j ≡ first_child s t i
  content-children one j child = subst (Child j) (wrapper-node s t i one.wrapping one.is) child

-- ---- answers

-- Yes, with the marks kept.
pub yes-kept : {s t c : List ℕ} {m n : List Mark} {P : Type 0} → MarksKept s t c m n → P → Walked s t c m n P true
yes-kept kept p = record { ends = λ e. (p, kept); never = λ e. absurd (true≢false e) }

-- Nothing was marked on the way.
pub kept_same : {s t c : List ℕ} {m : List Mark} → Sound s t c m → MarksKept s t c m m
kept_same sound = record { sound = sound; fewer = omega arith; open_before = λ a h q. q }

pub yes-at-once : {s t c : List ℕ} {m : List Mark} {P : Type 0} → Sound s t c m → P → Walked s t c m m P true
yes-at-once sound = yes-kept (kept_same sound)

-- A way was found that never ends.
pub no_way : {s t c : List ℕ} {m n : List Mark} {P : Type 0} → ((v : ℕ → Message) → Valid (node_of s t) v → Respects (name_of c) v → ⊥)
    → Walked s t c m n P false
no_way none = record { ends = λ e. absurd (false≢true e); never = λ e. none }

-- The same answer for what follows.
pub answer-map : {s t c : List ℕ} {m n : List Mark} {P Q : Type 0} {r : Bool} → (P → Q) → Walked s t c m n P r → Walked s t c m n Q r
answer-map f w = record { ends = λ e. (f (w.ends e).0, (w.ends e).1); never = w.never }

-- ---- at a class: node i, whose class is named a

-- A class whose name is no entry's node: nothing stands below it.
pub past-ends : (s t c : List ℕ) (i : ℕ) {a : ℕ} → a ≡ name_of c i → variable_nodes ≤ a → Finite (node_of s t) (name_of c) i
past-ends s t c i is high =
    finite (λ j child. absurd (subst (Child j) (past-free s t (name_of c i) (subst (λ (n : ℕ). variable_nodes ≤ n) is high)) child))

-- A class whose name is an entry's node: a symbol stands there.
pub symbol-there : {s t c : List ℕ} (i : ℕ) {a : ℕ} → Linked s t c → AtHome s t i → a ≡ name_of c i → a < variable_nodes → IsSymbol (node_of s t a)
symbol-there {s} {t} i linked at_home is low = home-symbol (rw is (name-home linked i at_home)) low

-- A class whose children end.
pub class-ends : {s t c : List ℕ} (i : ℕ) {a : ℕ} → a ≡ name_of c i → ChildrenEnd s t c a → Finite (node_of s t) (name_of c) i
class-ends {s} {t} i is all = finite (λ j child. all.child j (subst (λ (n : ℕ). Child j (node_of s t n)) (sym is) child))

-- A way that leads back to an open class.
pub back-again : {s t c : List ℕ} {m : List Mark} {i a : ℕ} → a ≡ name_of c i → a < variable_nodes → mark_of m a ≡ Open → Below s t c m i
    → (v : ℕ → Message) → Valid (node_of s t) v → Respects (name_of c) v → ⊥
back-again {i = i} {a = a} is low one below v valid respects =
    let less = below.smaller v valid respects a low one in
    let same : size (v i) ≡ size (v a) = ap size (respects.same i ∙ ap v (sym is)) in
    omega arith

-- Class a open: the marks stay sound, and the children of a are below all open classes.
module _ {s t c : List ℕ} {m : List Mark} {a : ℕ} (inside : a < length m) where
  pub open-sound : Sound s t c m → Sound s t c (set m a Open)
  open-sound sound = record {
    ends = λ b h end. elim (ℕ_discrete b a) [
      | yes e ↦ absurd (open≢ended (sym (get_or-set_same m a Open Unmet inside) ∙ (rw e at end)))
      | no n ↦ sound.ends b h (rw (get_or-set_other m a b Open Unmet n) at end)
    ];
  }

  pub open-below : {i : ℕ} → a ≡ name_of c i → Below s t c m i → ChildrenBelow s t c (set m a Open) a
  open-below {i} is below = record { child = λ j child. record { smaller = λ v valid respects. go j child v valid respects } }
    where
      go : (j : ℕ) → Child j (node_of s t a) → (v : ℕ → Message) → Valid (node_of s t) v → Respects (name_of c) v
          → (b : ℕ) → b < variable_nodes → mark_of (set m a Open) b ≡ Open → size (v j) < size (v b)
      go j child v valid respects b h one =
          let down = falls (node_of s t) (name_of c) v valid respects i j (subst (λ (n : ℕ). Child j (node_of s t n)) is child) in
          elim (ℕ_discrete b a) [
            | yes e ↦ let same : v i ≡ v b = respects.same i ∙ ap v (sym (e ∙ is)) in rw same at down
            | no n ↦ let up = below.smaller v valid respects b h (sym (get_or-set_other m a b Open Unmet n) ∙ one) in omega arith
          ]

-- Class a ended, once its children have: n are the marks that their walk left.
module _ {s t c : List ℕ} {m n : List Mark} {a : ℕ} (inside : a < length m) (still : a < length n) (met : mark_of m a ≡ Unmet) where
  closed-kept : ChildrenEnd s t c a → MarksKept s t c (set m a Open) n → MarksKept s t c m (set n a Ended)
  closed-kept all kept = record {
    sound = record {
      ends = λ b h end. elim (ℕ_discrete b a) [ yes e ↦ rw e all | no o ↦ kept.sound.ends b h (rw (get_or-set_other n a b Ended Unmet o) at end) ];
    };
    fewer = let first = fewer-unmet m a inside met in let then = kept.fewer in let last = no-more-unmet n a in omega arith;
    open_before = λ b h one. elim (ℕ_discrete b a) [
      | yes e ↦ absurd (open≢ended (sym (rw e at one) ∙ get_or-set_same n a Ended Unmet still))
      | no o ↦ sym (get_or-set_other m a b Open Unmet o) ∙ kept.open_before b h (sym (get_or-set_other n a b Ended Unmet o) ∙ one)
    ];
  }

  pub closed : (i : ℕ) → a ≡ name_of c i → ChildrenEnd s t c a × MarksKept s t c (set m a Open) n
      → Walked s t c m (set n a Ended) (Finite (node_of s t) (name_of c) i) true
  closed i is done = yes-kept (closed-kept done.0 done.1) (class-ends i is done.0)

-- ---- at the children of node a

-- After a walk a node is still below.
pub below-kept : {s t c : List ℕ} {m n : List Mark} {i : ℕ} → MarksKept s t c m n → Below s t c m i → Below s t c n i
below-kept kept below = record { smaller = λ v valid respects a h one. below.smaller v valid respects a h (kept.open_before a h one) }

-- One walk after another.
pub kept-both : {s t c : List ℕ} {m n o : List Mark} → MarksKept s t c m n → MarksKept s t c n o → MarksKept s t c m o
kept-both first then = record {
  sound = then.sound;
  fewer = let p = first.fewer in let q = then.fewer in omega arith;
  open_before = λ a h one. first.open_before a h (then.open_before a h one);
}

-- The children of node a, by its tag.
module _ {s t c : List ℕ} {a : ℕ} where
  pub first_below : {m : List Mark} {x : ℕ} → node_tag s t a ≡ pair_tag → x ≡ first_child s t a → ChildrenBelow s t c m a → Below s t c m x
  unfolding node_by
  first_below two is all = rw is (all.child (first_child s t a) (subst (Child (first_child s t a)) (sym (node-by s t a two)) (inl refl)))

  pub second_below : {m : List Mark} {x : ℕ} → node_tag s t a ≡ pair_tag → x ≡ second_child s t a → ChildrenBelow s t c m a → Below s t c m x
  unfolding node_by
  second_below two is all = rw is (all.child (second_child s t a) (subst (Child (second_child s t a)) (sym (node-by s t a two)) (inr refl)))

  pub content-below : {m : List Mark} {x : ℕ} → WrapperTag (node_tag s t a) → x ≡ first_child s t a → ChildrenBelow s t c m a → Below s t c m x
  content-below one is all =
      rw is (all.child (first_child s t a) (subst (Child (first_child s t a)) (sym (wrapper-node s t a one.wrapping one.is)) refl))

  pub child-below : {m : List Mark} {x : ℕ} → HasChild s t a → x ≡ first_child s t a → ChildrenBelow s t c m a → Below s t c m x
  child-below (inl two) is all = first_below two is all
  child-below (inr one) is all = content-below one is all

  pub no-children-end : (node_tag s t a ≡ pair_tag → ⊥) → ¬ WrapperTag (node_tag s t a) → ChildrenEnd s t c a
  no-children-end no-pair no-wrapper = record { child = λ j child. absurd (childless s t a no-pair no-wrapper j child) }

  pub content-ends : {x : ℕ} → WrapperTag (node_tag s t a) → x ≡ first_child s t a → Finite (node_of s t) (name_of c) x → ChildrenEnd s t c a
  content-ends one is first = record { child = λ j child. subst (Finite (node_of s t) (name_of c)) (is ∙ sym (content-children s t a one j child)) first }

  halves-end : {x y : ℕ} → node_tag s t a ≡ pair_tag → x ≡ first_child s t a → y ≡ second_child s t a
      → Finite (node_of s t) (name_of c) x → Finite (node_of s t) (name_of c) y → ChildrenEnd s t c a
  halves-end two is-first is-second first second = record { child = λ j child. go j (pair-children s t a two j child) }
    where
      go : (j : ℕ) → (j ≡ first_child s t a) ⊎ (j ≡ second_child s t a) → Finite (node_of s t) (name_of c) j
      go j (inl e) = subst (Finite (node_of s t) (name_of c)) (is-first ∙ sym e) first
      go j (inr e) = subst (Finite (node_of s t) (name_of c)) (is-second ∙ sym e) second

  -- The first half has ended; the second half answers for both.
  pub halves-walked : {m n o : List Mark} {x y : ℕ} {r : Bool} → node_tag s t a ≡ pair_tag → x ≡ first_child s t a → y ≡ second_child s t a
      → Finite (node_of s t) (name_of c) x × MarksKept s t c m n → Walked s t c n o (Finite (node_of s t) (name_of c) y) r
      → Walked s t c m o (ChildrenEnd s t c a) r
  halves-walked two is-first is-second first w = record {
    ends = λ e. (halves-end two is-first is-second first.0 (w.ends e).0, kept-both first.1 (w.ends e).1);
    never = w.never;
  }

-- ---- over all entries

-- An entry with children is at home.
pub parent-home : {s t : List ℕ} {k : ℕ} → OwnEntry s t k → HasChild s t k → AtHome s t k
unfolding node_by
parent-home {s} {t} {k} there has = record {
  small = omega (arith, there.low);
  is = inr (⊎_elim (λ two. subst IsSymbol (sym (node-by s t k two)) tt) (λ one. subst IsSymbol (sym (wrapper-node s t k one.wrapping one.is)) tt) has);
}

-- Every way down from an entry ends; or it has no children.
pub parent-ends : {s t c : List ℕ} {k : ℕ} → Finite (node_of s t) (name_of c) k → ParentEnds s t c k
parent-ends f = record { parent = λ j child. f }

pub no-parent : {s t c : List ℕ} {k : ℕ} → (node_tag s t k ≡ pair_tag → ⊥) → ¬ WrapperTag (node_tag s t k) → ParentEnds s t c k
no-parent {s} {t} {k = k} no-pair no-wrapper = record { parent = λ j child. absurd (childless s t k no-pair no-wrapper j child) }

-- Nothing is marked at the start.
module _ (s t c : List ℕ) (m : List Mark) (none : (a : ℕ) → a < variable_nodes → mark_of m a ≡ Unmet) where
  pub start-sound : Sound s t c m
  start-sound = record { ends = λ a h end. absurd (unmet≢ended (sym (none a h) ∙ end)) }

  pub start-below : (i : ℕ) → Below s t c m i
  start-below i = record { smaller = λ v valid respects a h one. absurd (unmet≢open (sym (none a h) ∙ one)) }

-- The entries of each side stand at its nodes.
module _ (s t : List ℕ) (two : TwoTerms s t) where
  pub left-entries : EachFrom (OwnEntry s t) 0 (length s / 4)
  left-entries = record {
    each = λ k h g. record { low = omega (arith, two.left_short); left = λ l. omega arith; right = λ l. absurd (omega (arith, two.left_short)) };
  }

  pub right-entries : EachFrom (OwnEntry s t) right_nodes (right_nodes + length t / 4)
  right-entries = record {
    each = λ k h g. record { low = omega (arith, two.right_short); left = λ l. absurd (omega arith); right = λ l. omega arith };
  }

-- A node with children is an entry of one of the terms.
parent-inside : {s t : List ℕ} → TwoTerms s t → (a j : ℕ) → Child j (node_of s t a) → (a < length s / 4) ⊎ ((right_nodes ≤ a) × (a < right_nodes + length t / 4))
parent-inside {s} {t} two a j child =
    let there : OwnEntry s t a = symbol-inside two {i = a} (child-symbol (node_of s t a) j child) in
    elim (dec_lt a right_nodes) [ yes l ↦ inl (omega (arith, there.left l)) | no n ↦ inr (omega arith, omega (arith, there.right (omega arith))) ]

-- Where every way down from the entries ends, every way down does.
pub all-finite : {s t c : List ℕ} → TwoTerms s t → Linked s t c → EachFrom (ParentEnds s t c) 0 (length s / 4)
    → EachFrom (ParentEnds s t c) right_nodes (right_nodes + length t / 4) → (i : ℕ) → Finite (node_of s t) (name_of c) i
all-finite {s} {t} {c} two linked left right i = finite (λ j child. go j child (parent-inside two (name_of c i) j child))
  where
    of-name : (j : ℕ) → Child j (node_of s t (name_of c i)) → Finite (node_of s t) (name_of c) (name_of c i) → Finite (node_of s t) (name_of c) j
    of-name j child (finite f) = f j (subst (λ (n : ℕ). Child j (node_of s t n)) (sym (name-named linked i)) child)

    go : (j : ℕ) → Child j (node_of s t (name_of c i)) → (name_of c i < length s / 4) ⊎ ((right_nodes ≤ name_of c i) × (name_of c i < right_nodes + length t / 4))
        → Finite (node_of s t) (name_of c) j
    go j child (inl l) = of-name j child ((left.each (name_of c i) (omega arith) l).parent j child)
    go j child (inr l) = of-name j child ((right.each (name_of c i) l.0 l.1).parent j child)
