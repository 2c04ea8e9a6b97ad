-- Laws of the graph: uniting two classes, and the valuation that closed and finite classes give.
use mathlib.Core.Path.{◌≡◌, refl, sym, ap, ap₂, ◌∙◌, subst, subst₂}
use mathlib.Core.Logic.{inl, inr}
use mathlib.Core.Bool.{Bool, true, false, true≢false, false≢true}
use Prim.Native.Nat.{ℕ, ◌<◌}
use native.Mathlib.Omega.{arith}
use lib.Dec.{eqb}
use borrow.Author.Tests.{eqb-true, eqb-false, eq-eqb, ne_eqb}
use Rattle.terms.specs.Term.{atom, pair, Message, wrapped}
use Rattle.terms.specs.Entry.{size}
use Rattle.terms.specs.Decisions.{pick}
use Rattle.terms.specs.Graph.{Node, free, atom_node, pair_node, wrapper_node, IsSymbol, made, Child, Valid, Respects, ClosedFor, Classes, ClassStep}
use Rattle.terms.specs.Graph.{Clash, Outcome, Finite, finite, Any}

-- a is renamed to b.
unfoldable pub rename : ℕ → ℕ → ℕ → ℕ
rename a b x = pick (eqb x a) b x

pub rename-hit : {a b x : ℕ} → x ≡ a → rename a b x ≡ b
unfolding rename
rename-hit {a} {b} {x} e = rw (eq-eqb x a e)

pub rename-miss : {a x : ℕ} (b : ℕ) → (x ≡ a → ⊥) → rename a b x ≡ x
unfolding rename
rename-miss {a} {x} b e = rw (ne_eqb x a e)

data Renamed (a b x : ℕ) : Type 0 where
  hit : x ≡ a → rename a b x ≡ b → Renamed a b x
  miss : (x ≡ a → ⊥) → rename a b x ≡ x → Renamed a b x

renamed : (a b x : ℕ) → Renamed a b x
renamed a b x = go (eqb x a) refl
  where
    go : (t : Bool) → eqb x a ≡ t → Renamed a b x
    go true e = let q : x ≡ a = eqb-true x a e in hit q (rename-hit q)
    go false e = let q : (x ≡ a → ⊥) = eqb-false x a e in miss q (rename-miss b q)

-- The classes named a and b as one, named b.
abbrev pub merge : ℕ → ℕ → (ℕ → ℕ) → ℕ → ℕ
merge a b name i = rename a b (name i)

module _ (node : ℕ → Node) (name : ℕ → ℕ) (cs : Classes node name) (a b : ℕ) (a-named : name a ≡ a) (b-named : name b ≡ b) where
  module _ (v : ℕ → Message) where
    merged-forth : Respects name v → v a ≡ v b → Respects (merge a b name) v
    merged-forth r e = record { same = λ i. go i (renamed a b (name i)) }
      where
        go : (i : ℕ) → Renamed a b (name i) → v i ≡ v (merge a b name i)
        go i (hit q m) = r.same i ∙ ap v q ∙ e ∙ ap v (sym m)
        go i (miss q m) = r.same i ∙ ap v (sym m)

    merged-joins : Respects (merge a b name) v → v a ≡ v b
    merged-joins r = r.same a ∙ ap v (rename-hit a-named)

    merged-back : Respects (merge a b name) v → Respects name v
    merged-back r = record { same = λ i. go i (renamed a b (name i)) }
      where
        go : (i : ℕ) → Renamed a b (name i) → v i ≡ v (name i)
        go i (hit q m) = r.same i ∙ ap v m ∙ sym (merged-joins r) ∙ ap v (sym q)
        go i (miss q m) = r.same i ∙ ap v m

    merged-closed : ClosedFor node name v → (IsSymbol (node a) → made v (node a) ≡ made v (node b)) → ClosedFor node (merge a b name) v
    merged-closed c e = record { makes = λ i s. go i s (renamed a b (name i)) }
      where
        go : (i : ℕ) → IsSymbol (node i) → Renamed a b (name i) → made v (node i) ≡ made v (node (merge a b name i))
        go i s (hit q m) =
            let at_a : IsSymbol (node a) = subst (λ (n : ℕ). IsSymbol (node n)) q (cs.kept i s) in
            c.makes i s ∙ ap (λ (n : ℕ). made v (node n)) q ∙ e at_a ∙ ap (λ (n : ℕ). made v (node n)) (sym m)
        go i s (miss q m) = c.makes i s ∙ ap (λ (n : ℕ). made v (node n)) (sym m)

  merged-classes : (a ≡ b → ⊥) → (IsSymbol (node a) → IsSymbol (node b)) → Classes node (merge a b name)
  merged-classes apart keeps = record { named = λ i. go i (renamed a b (name i)); kept = λ i s. stay i s (renamed a b (name i)) }
    where
      b-stays : merge a b name b ≡ b
      b-stays = rename-miss b (λ e. apart (sym e ∙ b-named)) ∙ b-named

      go : (i : ℕ) → Renamed a b (name i) → merge a b name (merge a b name i) ≡ merge a b name i
      go i (hit q m) = ap (merge a b name) m ∙ b-stays ∙ sym m
      go i (miss q m) = ap (merge a b name) m ∙ ap (rename a b) (cs.named i)

      stay : (i : ℕ) → IsSymbol (node i) → Renamed a b (name i) → IsSymbol (node (merge a b name i))
      stay i s (hit q m) = subst (λ (n : ℕ). IsSymbol (node n)) (sym m) (keeps (subst (λ (n : ℕ). IsSymbol (node n)) q (cs.kept i s)))
      stay i s (miss q m) = subst (λ (n : ℕ). IsSymbol (node n)) (sym m) (cs.kept i s)

-- Steps one after the other.
module _ (node : ℕ → Node) (Q : (ℕ → Message) → Type 0) where
  pub stay : {name : ℕ → ℕ} → Classes node name → ClassStep node Q name name (λ v. Unit {0})
  stay cs = record { classes = cs; forth = λ v x r q. r; back = λ v r. r; holds = λ v r q. tt; closes = λ v r c. c }

  module _ {name mid : ℕ → ℕ} {P : (ℕ → Message) → Type 0} where
    pub both : {next : ℕ → ℕ} {P' : (ℕ → Message) → Type 0} → ClassStep node Q name mid P → ClassStep node Q mid next P'
        → ClassStep node Q name next (λ v. P v × P' v)
    both s t = record {
      classes = t.classes;
      forth = λ v x r q. t.forth v x (s.forth v x r q.0) q.1;
      back = λ v r. s.back v (t.back v r);
      holds = λ v r q. (s.holds v (t.back v r) q, t.holds v r q);
      closes = λ v r c. t.closes v r (s.closes v (t.back v r) c);
    }

    pub second-clash : {P' : (ℕ → Message) → Type 0} → ClassStep node Q name mid P → Clash node mid P' → Clash node name (λ v. P v × P' v)
    second-clash s t = record { never = λ v x r q. t.never v x (s.forth v x r q.0) q.1 }

pub first-clash : {node : ℕ → Node} {name : ℕ → ℕ} {P P' : (ℕ → Message) → Type 0} → Clash node name P → Clash node name (λ v. P v × P' v)
first-clash t = record { never = λ v x r q. t.never v x r q.0 }

-- The same step for equations that say the same.
pub restate : {node : ℕ → Node} {Q : (ℕ → Message) → Type 0} {name next : ℕ → ℕ} {P P' : (ℕ → Message) → Type 0}
    → ((v : ℕ → Message) → Valid node v → P' v → P v) → ((v : ℕ → Message) → Q v → P v → P' v) → ClassStep node Q name next P → ClassStep node Q name next P'
restate to of s = record {
  classes = s.classes;
  forth = λ v x r q. s.forth v x r (to v x q);
  back = s.back;
  holds = λ v r q. of v q (s.holds v r q);
  closes = s.closes;
}

pub restate-clash : {node : ℕ → Node} {name : ℕ → ℕ} {P P' : (ℕ → Message) → Type 0}
    → ((v : ℕ → Message) → Valid node v → P' v → P v) → Clash node name P → Clash node name P'
restate-clash to t = record { never = λ v x r q. t.never v x r (to v x q) }

-- A step made, a clash found.
pub done : {node : ℕ → Node} {Q : (ℕ → Message) → Type 0} {name next : ℕ → ℕ} {P : (ℕ → Message) → Type 0} → ClassStep node Q name next P
    → Outcome node Q name next P true
done s = record { stepped = λ e. s; clashed = λ e. absurd (true≢false e) }

pub failed : {node : ℕ → Node} {Q : (ℕ → Message) → Type 0} {name next : ℕ → ℕ} {P : (ℕ → Message) → Type 0} → Clash node name P
    → Outcome node Q name next P false
failed c = record { stepped = λ e. absurd (false≢true e); clashed = λ e. c }

-- Uniting the classes of i and j.
module _ (node : ℕ → Node) (name : ℕ → ℕ) (cs : Classes node name) (i j : ℕ) where
  -- ... which are one already.
  pub already : name i ≡ name j → ClassStep node Any name name (λ v. v i ≡ v j)
  already e = record { classes = cs; forth = λ v x r q. r; back = λ v r. r; holds = λ v r q. r.same i ∙ ap v e ∙ sym (r.same j); closes = λ v r c. c }

  -- The messages of i and j are those of their classes' names.
  of-names : {v : ℕ → Message} → Respects name v → v i ≡ v j → v (name i) ≡ v (name j)
  of-names r e = sym (r.same i) ∙ e ∙ r.same j

  -- First the two classes become one, named by j's name; then a step makes the equations P of their names' children
  -- hold, without which no valid valuation gives the names one message, and with which they make one message.
  pub united : {next : ℕ → ℕ} {P : (ℕ → Message) → Type 0} → ((v : ℕ → Message) → Valid node v → v (name i) ≡ v (name j) → P v)
      → ((v : ℕ → Message) → P v → IsSymbol (node (name i)) → made v (node (name i)) ≡ made v (node (name j)))
      → ClassStep node Any (merge (name i) (name j) name) next P → ClassStep node Any name next (λ v. v i ≡ v j)
  united needed enough s = record {
    classes = s.classes;
    forth = λ v x r q. s.forth v x (merged-forth node name cs (name i) (name j) (cs.named i) (cs.named j) v r (of-names r q)) (needed v x (of-names r q));
    back = λ v r. merged-back node name cs (name i) (name j) (cs.named i) (cs.named j) v (s.back v r);
    holds = λ v r q.
        let old : Respects name v = merged-back node name cs (name i) (name j) (cs.named i) (cs.named j) v (s.back v r) in
        old.same i ∙ merged-joins node name cs (name i) (name j) (cs.named i) (cs.named j) v (s.back v r) ∙ sym (old.same j);
    closes = λ v r c. s.closes v r (merged-closed node name cs (name i) (name j) (cs.named i) (cs.named j) v c (λ is. enough v (s.holds v r tt) is));
  }

  pub united-clash : {P : (ℕ → Message) → Type 0} → ((v : ℕ → Message) → Valid node v → v (name i) ≡ v (name j) → P v)
      → Clash node (merge (name i) (name j) name) P → Clash node name (λ v. v i ≡ v j)
  united-clash needed s = record {
    never = λ v x r q.
        s.never v x (merged-forth node name cs (name i) (name j) (cs.named i) (cs.named j) v r (of-names r q)) (needed v x (of-names r q));
  }

  -- Names that no valid valuation gives one message.
  pub apart-clash : ((v : ℕ → Message) → Valid node v → v (name i) ≡ v (name j) → ⊥) → Clash node name (λ v. v i ≡ v j)
  apart-clash never = record { never = λ v x r q. never v x (of-names r q) }

  pub united-classes : (name i ≡ name j → ⊥) → (IsSymbol (node (name i)) → IsSymbol (node (name j))) → Classes node (merge (name i) (name j) name)
  united-classes apart keeps = merged-classes node name cs (name i) (name j) (cs.named i) (cs.named j) apart keeps

-- The empty classes: every node by itself.
pub alone : (node : ℕ → Node) → Classes node (λ i. i)
alone node = record { named = λ i. refl; kept = λ i s. s }

-- Finite classes give a valuation.
abbrev assembled : (n : Node) → ((j : ℕ) → Child j n → Message) → Message
assembled free f = atom 1000
assembled (atom_node a) f = atom a
assembled (pair_node l r) f = pair (f l (inl refl)) (f r (inr refl))
assembled (wrapper_node w k c) f = wrapped w k (f c refl)

module _ (node : ℕ → Node) (name : ℕ → ℕ) where
  build : {i : ℕ} → Finite node name i → Message
  build {i} (finite f) = assembled (node (name i)) (λ j h. build (f j h))

  assembled-same : (n m : Node) → n ≡ m → (f : (j : ℕ) → Child j n → Message) (g : (j : ℕ) → Child j m → Message)
      → ((j j' : ℕ) (h : Child j n) (h' : Child j' m) → j ≡ j' → f j h ≡ g j' h') → assembled n f ≡ assembled m g
  assembled-same free free e f g same = refl
  assembled-same free (atom_node b) e f g same = let z : ◌≡◌ {A = ℕ} 0 1 = cc in absurd (omega arith)
  assembled-same free (pair_node x y) e f g same = let z : ◌≡◌ {A = ℕ} 0 1 = cc in absurd (omega arith)
  assembled-same free (wrapper_node w k c) e f g same = let z : ◌≡◌ {A = ℕ} 0 1 = cc in absurd (omega arith)
  assembled-same (atom_node a) free e f g same = let z : ◌≡◌ {A = ℕ} 0 1 = cc in absurd (omega arith)
  assembled-same (atom_node a) (atom_node b) e f g same = let p : a ≡ b = cc in ap atom p
  assembled-same (atom_node a) (pair_node x y) e f g same = let z : ◌≡◌ {A = ℕ} 0 1 = cc in absurd (omega arith)
  assembled-same (atom_node a) (wrapper_node w k c) e f g same = let z : ◌≡◌ {A = ℕ} 0 1 = cc in absurd (omega arith)
  assembled-same (pair_node l r) free e f g same = let z : ◌≡◌ {A = ℕ} 0 1 = cc in absurd (omega arith)
  assembled-same (pair_node l r) (atom_node b) e f g same = let z : ◌≡◌ {A = ℕ} 0 1 = cc in absurd (omega arith)
  assembled-same (pair_node l r) (pair_node x y) e f g same =
      let p : l ≡ x = cc in let q : r ≡ y = cc in ap₂ pair (same l x (inl refl) (inl refl) p) (same r y (inr refl) (inr refl) q)
  assembled-same (pair_node l r) (wrapper_node w k c) e f g same = let z : ◌≡◌ {A = ℕ} 0 1 = cc in absurd (omega arith)
  assembled-same (wrapper_node w k c) free e f g same = let z : ◌≡◌ {A = ℕ} 0 1 = cc in absurd (omega arith)
  assembled-same (wrapper_node w k c) (atom_node b) e f g same = let z : ◌≡◌ {A = ℕ} 0 1 = cc in absurd (omega arith)
  assembled-same (wrapper_node w k c) (pair_node x y) e f g same = let z : ◌≡◌ {A = ℕ} 0 1 = cc in absurd (omega arith)
  assembled-same (wrapper_node w k c) (wrapper_node w' k' d) e f g same =
      let o : w ≡ w' = cc in let p : k ≡ k' = cc in let q : c ≡ d = cc in let s = same c d refl refl q in cc

  build-same : {i j : ℕ} (x : Finite node name i) (y : Finite node name j) → name i ≡ name j → build x ≡ build y
  unfolding build
  build-same {i} {j} (finite f) (finite g) e =
      assembled-same (node (name i)) (node (name j)) (ap node e) (λ k h. build (f k h)) (λ k h. build (g k h))
      (λ k k' h h' q. build-same (f k h) (g k' h') (ap name q))

  -- The valuation, and what it makes.
  module _ (cs : Classes node name) (ends : (i : ℕ) → Finite node name i) where
    abbrev value : ℕ → Message
    value i = build (ends i)

    assembled-made : (n : Node) (f : (j : ℕ) → Child j n → Message) → ((j : ℕ) (h : Child j n) → f j h ≡ value j) → assembled n f ≡ made value n
    unfolding made
    assembled-made free f e = refl
    assembled-made (atom_node a) f e = refl
    assembled-made (pair_node l r) f e = ap₂ pair (e l (inl refl)) (e r (inr refl))
    assembled-made (wrapper_node w k c) f e = ap (wrapped w k) (e c refl)

    build-made : {i : ℕ} (x : Finite node name i) → build x ≡ made value (node (name i))
    unfolding build
    build-made {i} (finite f) = assembled-made (node (name i)) (λ j h. build (f j h)) (λ j h. build-same (f j h) (ends j) refl)

    value-respects : Respects name value
    value-respects = record { same = λ i. build-same (ends i) (ends (name i)) (sym (cs.named i)) }

    value-valid : ClosedFor node name value → Valid node value
    value-valid c = record { makes = λ i s. build-made (ends i) ∙ sym (c.makes i s) }

-- A valuation that respects the classes, and is valid where they are closed.
pub record Valued (node : ℕ → Node) (name : ℕ → ℕ) : Type 0 where
  pub v : ℕ → Message
  pub respects : Respects name v
  pub makes : (i : ℕ) → v i ≡ made v (node (name i))
  pub valid : ClosedFor node name v → Valid node v

pub valued : {node : ℕ → Node} {name : ℕ → ℕ} → Classes node name → ((i : ℕ) → Finite node name i) → Valued node name
valued {node} {name} cs ends = record { v = value node name cs ends; respects = value-respects node name cs ends; makes = λ i. build-made node name cs ends (ends i); valid = value-valid node name cs ends }

-- Only symbols have children.
pub child-symbol : (n : Node) (j : ℕ) → Child j n → IsSymbol n
child-symbol free j h = h
child-symbol (atom_node a) j h = absurd h
child-symbol (pair_node x y) j h = tt
child-symbol (wrapper_node w k c) j h = tt

-- Where a valid valuation respects the classes, a child's message is smaller than its parent's.
module _ (node : ℕ → Node) (name : ℕ → ℕ) (v : ℕ → Message) (valid : Valid node v) (r : Respects name v) where
  smaller : (n : Node) (j : ℕ) → Child j n → size (v j) < size (made v n)
  unfolding made size
  smaller free j h = absurd h
  smaller (atom_node a) j h = absurd h
  smaller (pair_node x y) j (inl e) = rw e (omega arith)
  smaller (pair_node x y) j (inr e) = rw e (omega arith)
  smaller (wrapper_node w k c) j h = rw h (omega arith)

  pub falls : (i j : ℕ) → Child j (node (name i)) → size (v j) < size (v i)
  falls i j h =
      let made-is : v i ≡ made v (node (name i)) = r.same i ∙ valid.makes (name i) (child-symbol (node (name i)) j h) in
      let less = smaller (node (name i)) j h in
      rw made-is less

-- The answer of a step, said of equal nodes.
pub moved : {node : ℕ → Node} {Q : (ℕ → Message) → Type 0} {name next : ℕ → ℕ} {x y p q : ℕ} {r : Bool} → x ≡ p → y ≡ q
    → Outcome node Q name next (λ v. v x ≡ v y) r → Outcome node Q name next (λ v. v p ≡ v q) r
moved {node} {Q} {name} {next} {r = r} e f o = subst₂ (λ (a b : ℕ). Outcome node Q name next (λ v. v a ≡ v b) r) e f o

-- The answers of two steps, the first of which was made.
pub both-answer : {node : ℕ → Node} {Q : (ℕ → Message) → Type 0} {name mid next : ℕ → ℕ} {P P' : (ℕ → Message) → Type 0} {r : Bool}
    → ClassStep node Q name mid P → Outcome node Q mid next P' r → Outcome node Q name next (λ v. P v × P' v) r
both-answer {node} {Q} s o = record { stepped = λ e. both node Q s (o.stepped e); clashed = λ e. second-clash node Q s (o.clashed e) }
