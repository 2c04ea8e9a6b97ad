-- What the step that unites two classes answers, branch by branch, said of the array of links.
use mathlib.Core.Path.{◌≡◌, sym, ap, ◌∙◌, subst}
use mathlib.Core.Bool.{Bool, true, false}
use mathlib.Core.List.{List}
use mathlib.Core.Logic.{⊎_elim}
use Prim.Native.Nat.{ℕ, ◌<◌, max, min}
use native.Mathlib.Omega.{arith}
use native.Mathlib.Decide.{dec_lt}
use lib.ListN.{set}
use Rattle.terms.specs.declared.classes.How.{How}
use Rattle.terms.specs.declared.classes.How.TheVariants.{Free, Differ, Atoms, Wrappers, Pairs}
use Rattle.terms.specs.Term.{Message}
use Rattle.terms.specs.Tag.{free_tag}
use Rattle.terms.specs.Graph.{Node, Respects, Classes, Outcome, Any}
use Rattle.terms.specs.TermGraph.{node_tag, first_child, second_child, node_of, AtHome}
use Rattle.terms.specs.Names.{name_of, Linked, class_count}
use Rattle.terms.specs.Meeting.{MeetAs}
use Rattle.terms.proofs.GraphLaws.{merge, restate, restate-clash, done, failed}
use Rattle.terms.proofs.NodeLaws.{past-tag}
use Rattle.terms.proofs.NameLaws.{name-named, name-home, classes-of, joined-linked, joined-names, joined-fewer}
use Rattle.terms.proofs.ClassLaws.{one_class, free-class, tags-clash, values-clash, equal-atoms, equal-wrappers, equal-pairs}

-- The names a and b of two classes, a above b.
pub record TwoNames (s t c : List ℕ) (a b : ℕ) : Type 0 where
  pub linked : Linked s t c
  pub first : AtHome s t a
  pub second : AtHome s t b
  pub first-named : name_of c a ≡ a
  pub second-named : name_of c b ≡ b
  pub above : b < a

pub two-names : {s t c : List ℕ} {a b : ℕ} → Linked s t c → AtHome s t a → AtHome s t b → name_of c a ≡ a → name_of c b ≡ b → b < a → TwoNames s t c a b
two-names linked first second first-named second-named above =
    record { linked = linked; first = first; second = second; first-named = first-named; second-named = second-named; above = above }

-- The answer of the meeting.
pub met-as : (s t : List ℕ) (a b : ℕ) {met h : How} → MeetAs s t a b met → met ≡ h → MeetAs s t a b h
met-as s t a b m told = subst (MeetAs s t a b) told m

module _ {s t c : List ℕ} {a b : ℕ} (w : TwoNames s t c a b) where
  cs : Classes (node_of s t) (name_of c)
  cs = classes-of w.linked

  a-is : a ≡ name_of c a
  a-is = sym w.first-named

  b-is : b ≡ name_of c b
  b-is = sym w.second-named

  apart : a ≡ b → ⊥
  apart e = omega (arith, w.above)

  pub differ-answer : MeetAs s t a b Differ → Outcome (node_of s t) Any (name_of c) (name_of c) (λ v. v a ≡ v b) false
  differ-answer m = ⊎_elim
      (λ off. failed (tags-clash s t (name_of c) cs a b a-is b-is m.0.left m.0.right off))
      (λ q. failed (values-clash s t (name_of c) cs a b a-is b-is m.0.left m.0.right q.0 q.1 q.2)) m.1

  -- From here on a leads to b.
  pub names-linked : Linked s t (set c a b)
  names-linked = joined-linked w.linked w.first w.second w.first-named w.second-named w.above

  pub names-fewer : class_count (set c a b) < class_count c
  names-fewer = joined-fewer w.linked w.first w.first-named w.above

  names-merged : merge a b (name_of c) ≡ name_of (set c a b)
  names-merged = joined-names w.linked w.first w.second w.first-named w.second-named w.above

  pub free-answer : MeetAs s t a b Free → Outcome (node_of s t) Any (name_of c) (name_of (set c a b)) (λ v. v a ≡ v b) true
  unfolding free_tag
  free-answer m =
      let none : free_tag (node_tag s t a) ≡ true = ap free_tag (past-tag s t m) in
      done (rw names-merged at (free-class s t (name_of c) cs a b a-is b-is apart none))

  pub atoms-answer : MeetAs s t a b Atoms → Outcome (node_of s t) Any (name_of c) (name_of (set c a b)) (λ v. v a ≡ v b) true
  atoms-answer m = done (rw names-merged at (equal-atoms s t (name_of c) cs a b a-is b-is m.0.left m.0.right m.1 apart m.2 m.3 m.4))

  module _ {next : ℕ → ℕ} {r : Bool} where
    pub contents-answer : MeetAs s t a b Wrappers → Outcome (node_of s t) Any (name_of (set c a b)) next (λ v. v (first_child s t a) ≡ v (first_child s t b)) r
        → Outcome (node_of s t) Any (name_of c) next (λ v. v a ≡ v b) r
    contents-answer m o =
        equal-wrappers s t (name_of c) cs a b a-is b-is m.0.left m.0.right m.1 m.2 m.3 (rw (← names-merged) at o)

    pub halves-answer : MeetAs s t a b Pairs
        → Outcome (node_of s t) Any (name_of (set c a b)) next
        (λ v. (v (first_child s t a) ≡ v (first_child s t b)) × (v (second_child s t a) ≡ v (second_child s t b))) r
        → Outcome (node_of s t) Any (name_of c) next (λ v. v a ≡ v b) r
    halves-answer m o = equal-pairs s t (name_of c) cs a b a-is b-is m.0.left m.0.right m.1 m.2 (rw (← names-merged) at o)

-- What is said of the names of two classes, said of two of their nodes.
module _ {s t c : List ℕ} (linked : Linked s t c) {i j a b : ℕ} (ea : a ≡ name_of c i) (eb : b ≡ name_of c j) where
  pub one-class-answer : a ≡ b → Outcome (node_of s t) Any (name_of c) (name_of c) (λ v. v i ≡ v j) true
  one-class-answer e = done (one_class s t (name_of c) (classes-of linked) i j ea eb e)

  pub found-names : AtHome s t i → AtHome s t j → b < a → TwoNames s t c a b
  found-names first second above = record {
    linked = linked;
    first = rw ea (name-home linked i first);
    second = rw eb (name-home linked j second);
    first-named = rw ea (name-named linked i);
    second-named = rw eb (name-named linked j);
    above = above;
  }

  names-meet : {v : ℕ → Message} → Respects (name_of c) v → v i ≡ v j → v a ≡ v b
  names-meet {v} r e = ap v ea ∙ sym (r.same i) ∙ e ∙ r.same j ∙ ap v (sym eb)

  nodes-meet : {v : ℕ → Message} → Respects (name_of c) v → v a ≡ v b → v i ≡ v j
  nodes-meet {v} r e = r.same i ∙ ap v (sym ea) ∙ e ∙ ap v eb ∙ sym (r.same j)

  pub nodes-answer : {next : ℕ → ℕ} {r : Bool} → Outcome (node_of s t) Any (name_of c) next (λ v. v a ≡ v b) r
      → Outcome (node_of s t) Any (name_of c) next (λ v. v i ≡ v j) r
  nodes-answer o = record {
    stepped = λ e.
        let step = o.stepped e in
        record {
          classes = step.classes;
          forth = λ v x r q. step.forth v x r (names-meet r q);
          back = step.back;
          holds = λ v r q. nodes-meet (step.back v r) (step.holds v r q);
          closes = step.closes;
        };
    clashed = λ e. record { never = λ v x r q. (o.clashed e).never v x r (names-meet r q) };
  }

-- The same of the nodes the other way round.
pub turned : {node : ℕ → Node} {name next : ℕ → ℕ} {i j : ℕ} {r : Bool} → Outcome node Any name next (λ v. v i ≡ v j) r
    → Outcome node Any name next (λ v. v j ≡ v i) r
turned o = record { stepped = λ e. restate (λ v x q. sym q) (λ v x q. sym q) (o.stepped e); clashed = λ e. restate-clash (λ v x q. sym q) (o.clashed e) }

-- And of the higher one and the lower one of the two names.
module _ {s t c : List ℕ} (linked : Linked s t c) {i j a b : ℕ} (ea : a ≡ name_of c i) (eb : b ≡ name_of c j) where
  pub ordered-names : AtHome s t i → AtHome s t j → (a ≡ b → ⊥) → TwoNames s t c (max a b) (min a b)
  ordered-names first second apart = elim (dec_lt b a) [
    | yes above ↦
        let high : max a b ≡ a = omega arith in
        let low : min a b ≡ b = omega arith in
        rw (high, low) (found-names linked ea eb first second above)
    | no below ↦
        let high : max a b ≡ b = omega arith in
        let low : min a b ≡ a = omega arith in
        rw (high, low) (found-names linked eb ea second first (omega arith))
  ]

  pub ordered-answer : {next : ℕ → ℕ} {r : Bool} → Outcome (node_of s t) Any (name_of c) next (λ v. v (max a b) ≡ v (min a b)) r
      → Outcome (node_of s t) Any (name_of c) next (λ v. v i ≡ v j) r
  ordered-answer o = elim (dec_lt b a) [
    | yes above ↦
        let high : max a b ≡ a = omega arith in
        let low : min a b ≡ b = omega arith in
        nodes-answer linked ea eb (rw (high, low) at o)
    | no below ↦
        let high : max a b ≡ b = omega arith in
        let low : min a b ≡ a = omega arith in
        turned (nodes-answer linked eb ea (rw (high, low) at o))
  ]
