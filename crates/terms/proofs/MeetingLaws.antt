-- Laws of the walk over two terms side by side.
use mathlib.Core.Path.{◌≡◌, refl, sym, ap, ◌∙◌}
use mathlib.Core.Bool.{Bool, true, false, false≢true}
use mathlib.Core.List.{List}
use mathlib.Core.Logic.{◌↔◌}
use Prim.Native.Nat.{ℕ, zero, suc, ◌+◌, ◌*◌, ◌-◌, ◌<◌, ◌≤◌}
use native.Mathlib.Omega.{arith}
use native.Mathlib.Decide.{ℕ_discrete}
use lib.Dec.{eqb}
use lib.ListN.{length, get_or, set}
use lib.Seq.{get_or-set_same, get_or-set_other}
use borrow.Author.Tests.{eq-eqb, ne_eqb}
use Rattle.terms.specs.declared.atom.Atom.{Atom}
use Rattle.terms.specs.declared.sharing.Beside.{Beside}
use Rattle.terms.specs.Term.{Term, variable, atom, pair, Variable, one_nonce, range_of, replace, wrapped}
use Rattle.terms.specs.Instance.{NonceTerm, PutsNonces, Share}
use Rattle.terms.specs.Tag.{SymbolTag, children_of}
use Rattle.terms.specs.Entry.{size, term_of, Begins, tag_at, from}
use Rattle.terms.specs.Decisions.{pick}
use Rattle.terms.specs.Occurs.{replace-none}
use Rattle.terms.specs.Slot.{any_slots, slot_of}
use Rattle.terms.specs.Front.{Ran, Goes}
use Rattle.terms.specs.TermGraph.{TwoTerms}
use Rattle.terms.specs.Meetings.{RootsDiffer, left_noted, right_noted, Noted, NotedIn, noted_slot, Distinct, Same, AllSame, Walking, Stops, Reduced}
use Rattle.terms.proofs.TagLaws.{one-child}
use Rattle.terms.proofs.EntryLaws.{size-positive, leaf_first, from-from, from-length, from_start}
use Rattle.terms.proofs.SlotLaws.{symbol-slot, nonce-slot}
use Rattle.terms.proofs.FrontLaws.{front-begins, parted, alike-term, alike-other, front-few}
use Rattle.terms.proofs.SameLaws.{alike-none, alike-one}
use Rattle.terms.proofs.InstanceLaws.{alike-share}
use Rattle.terms.proofs.TermGraphLaws.{tag-from}

-- Terms whose roots differ are made the same by no replacements.
pub roots-apart : {s t : List ℕ} → TwoTerms s t → RootsDiffer s t → (by by' : Variable → Term Variable) → ¬ (replace by (term_of s) ≡ replace by' (term_of t))
roots-apart two roots by by' h =
    alike-other 1 (front-few two.left (omega arith)) (front-few two.right (omega arith)) (omega arith) by by'
    (λ x is. absurd (symbol-slot two.left roots.left x is)) (λ x is. absurd (symbol-slot two.right roots.right x is)) roots.differ
    ((alike-one two.left two.right by by').1 h)

-- Nothing is noted yet.
pub walking_start : {s t : List ℕ} {m : List Beside} → TwoTerms s t → Walking s t m 0 0 0 1
walking_start {s} {t} two = record {
  noted = record { few = omega arith; left = λ k h. absurd (omega arith); right = λ k h. absurd (omega arith) };
  passed = omega arith;
  inside = omega arith;
  other_inside = omega arith;
  front = rw (from_start s) (front-few two.left (omega arith));
  other_front = rw (from_start t) (front-few two.right (omega arith));
  same = λ by by'. (
    λ h. (record { each = λ k l. absurd (omega arith) }, rw (from_start s, from_start t) ((alike-one two.left two.right by by').1 h)),
    λ h. (alike-one two.left two.right by by').0 (rw (from_start s, from_start t) at h.1),
  );
}

-- A part's part.
further : (i k : ℕ) (e : List ℕ) → from (4 * k) (from (4 * i) e) ≡ from (4 * (i + k)) e
further i k e = let there : 4 * i + 4 * k ≡ 4 * (i + k) = omega arith in rw (from-from, there) refl

module _ {s t : List ℕ} {m : List Beside} {n i j need : ℕ} (w : Walking s t m n i j need) where
  -- Past a run of equal symbols.
  pub walking_run : {k left : ℕ} → Ran need (from (4 * i) s) (from (4 * j) t) k left → Walking s t m n (i + k) (j + k) left
  walking_run {k} {left} r = record {
    noted = w.noted;
    passed = omega (arith, w.passed);
    inside = omega (arith, w.inside, r.inside, from-length (4 * i) s);
    other_inside = omega (arith, w.other_inside, r.other_inside, from-length (4 * j) t);
    front = rw (further i k s) at r.front;
    other_front = rw (further j k t) at r.other_front;
    same = λ by by'. (
      λ h. let p = (w.same by by').0 h in (p.0, rw (further i k s, further j k t) at ((r.alike by by').0 p.1)),
      λ h. (w.same by by').1 (h.0, (r.alike by by').1 (rw (further i k s, further j k t) h.1)),
    );
  }

  -- Where it stops with terms left.
  pub run-stops : {k left : ℕ} → ¬ Goes (from (4 * i) s) (from (4 * j) t) k left → ¬ (left ≡ 0) → Stops s t (i + k) (j + k)
  run-stops {k} off some_left = record {
    differ = rw (← further i k s, ← further j k t) (λ low same. off (record { some_left = some_left; symbol = low; same = same }));
  }

  -- No term is left.
  pub walking-done : need ≡ 0 → Reduced s t m n
  walking-done none = record {
    noted = w.noted;
    same = λ by by'. (λ h. ((w.same by by').0 h).0, λ h. (w.same by by').1 (h, alike-none by by' _ _ none));
  }

  module _ (some_left : ¬ (need ≡ 0)) where
    -- There is an entry on each side.
    pub walking-room : (4 * (i + 1) ≤ length s) × (4 * (j + 1) ≤ length t)
    walking-room = (
      omega (arith, (front-begins w.front some_left).room, from-length (4 * i) s),
      omega (arith, (front-begins w.other_front some_left).room, from-length (4 * j) t),
    )

    -- Different symbols.
    pub walking-apart : SymbolTag (tag_at (from (4 * i) s)) → SymbolTag (tag_at (from (4 * j) t)) → Stops s t i j
        → (by by' : Variable → Term Variable) → ¬ (replace by (term_of s) ≡ replace by' (term_of t))
    walking-apart low low' stops by by' h =
        alike-other need w.front w.other_front some_left by by' (λ x is. absurd (symbol-slot (front-begins w.front some_left) low x is))
        (λ x is. absurd (symbol-slot (front-begins w.other_front some_left) low' x is)) (stops.differ low) ((w.same by by').0 h).1

    -- The entries are noted, and the walk goes on behind the terms there.
    module _ (two : TwoTerms s t) {a b : ℕ} (is : a ≡ size (term_of (from (4 * i) s))) (is' : b ≡ size (term_of (from (4 * j) t)))
        (fits : 4 * (i + a) ≤ length s) (fits' : 4 * (j + b) ≤ length t) (low : n < length m) where
      abbrev note : Beside
      note = record { i = i; j = j }

      abbrev d : List Beside
      d = set m n note

      read : get_or d n (record { i = 0; j = 0 }) ≡ note
      read = get_or-set_same m n note _ low

      here : left_noted d n ≡ i
      here = ap (λ (b : Beside). b.i) read

      there : right_noted d n ≡ j
      there = ap (λ (b : Beside). b.j) read

      before : (k : ℕ) → k < n → (left_noted d k ≡ left_noted m k) × (right_noted d k ≡ right_noted m k)
      before k h =
          let same : get_or d k (record { i = 0; j = 0 }) ≡ get_or m k (record { i = 0; j = 0 }) = get_or-set_other m n k note _ (omega arith) in
          (ap (λ (b : Beside). b.i) same, ap (λ (b : Beside). b.j) same)

      earlier : {k : ℕ} → k < n + 1 → ¬ (k ≡ n) → k < n
      earlier h off = omega arith

      noted_more : Noted s t d (n + 1)
      noted_more = record {
        few = omega (arith, w.passed, walking-room.0, two.left_short);
        left = λ k h. elim (ℕ_discrete k n) [
          | yes e ↦ rw (e, here) walking-room.0
          | no off ↦ rw (before k (earlier h off)).0 (w.noted.left k (earlier h off))
        ];
        right = λ k h. elim (ℕ_discrete k n) [
          | yes e ↦ rw (e, there) walking-room.1
          | no off ↦ rw (before k (earlier h off)).1 (w.noted.right k (earlier h off))
        ];
      }

      all_more : (by by' : Variable → Term Variable) → AllSame by by' s t d (n + 1) ↔ (AllSame by by' s t m n × Same by by' s t i j)
      all_more by by' = (
        λ h. (
          record { each = λ k l. rw ((before k l).0, (before k l).1) at (h.each k (omega arith)) },
          rw (here, there) at (h.each n (omega arith)),
        ),
        λ h. record {
          each = λ k l. elim (ℕ_discrete k n) [
            | yes e ↦ rw (e, here, there) h.1
            | no off ↦ rw ((before k (earlier l off)).0, (before k (earlier l off)).1) (h.0.each k (earlier l off))
          ];
        },
      )

      pub walking-more : Walking s t d (n + 1) (i + a) (j + b) (need - 1)
      walking-more =
          let p = (parted need w.front some_left).others in
          let q = (parted need w.other_front some_left).others in
          record {
            noted = noted_more;
            passed = omega (arith, w.passed, is, size-positive (term_of (from (4 * i) s)));
            inside = fits;
            other_inside = fits';
            front = rw (← is, further i a s) at p;
            other_front = rw (← is', further j b t) at q;
            same = λ by by'.
                let term = alike-term need w.front w.other_front some_left by by' in (
                  λ h. let o = (w.same by by').0 h in let u = term.0 o.1 in
                      ((all_more by by').1 (o.0, record { same = u.0 }), rw (← is, ← is', further i a s, further j b t) at u.1),
                  λ h. let o = (all_more by by').0 h.0 in
                      (w.same by by').1 (o.0, term.1 (o.1.same, rw (← is, ← is', further i a s, further j b t) h.1)),
                );
          }

-- A term without children has one entry.
leaf-one : {e : List ℕ} → Begins e → children_of (tag_at e) ≡ 0 → 1 ≡ size (term_of e)
unfolding children_of
leaf-one {e} b none =
    leaf_first b (λ two. let z : children_of (tag_at e) ≡ 2 = ap children_of two in absurd (omega arith))
    (λ one. absurd (omega (arith, one-child one)))

-- Entries without children are noted, and the walk goes on at the next ones.
pub walking-leaves : {s t : List ℕ} {m : List Beside} {n i j need : ℕ} (w : Walking s t m n i j need) → ¬ (need ≡ 0) → TwoTerms s t → children_of (get_or s (4 * i) 0) ≡ 0
    → children_of (get_or t (4 * j) 0) ≡ 0 → n < length m → Walking s t (set m n (record { i = i; j = j })) (n + 1) (i + 1) (j + 1) (need - 1)
walking-leaves {s} {t} {i = i} {j = j} w some_left two leaf leaf' low =
    let room = walking-room w some_left in
    walking-more w some_left two (leaf-one (front-begins w.front some_left) (ap children_of (sym (tag-from s i)) ∙ leaf))
    (leaf-one (front-begins w.other_front some_left) (ap children_of (sym (tag-from t j)) ∙ leaf')) (omega (arith, room.0)) (omega (arith, room.1)) low

-- ---- variables that can take what stands opposite

pub noted_in : {s t : List ℕ} {m : List Beside} {n : ℕ} → Noted s t m n → NotedIn s m n
noted_in w = record { few = w.few; inside = w.left }

-- A term with a variable's slot is a variable.
pub record AVariable (t : Term Variable) : Type 0 where
  pub x : Variable
  pub is : t ≡ variable x

slot-variable : (t : Term Variable) → slot_of t < any_slots → AVariable t
unfolding slot_of
slot-variable (variable x) low = record { x = x; is = refl }
slot-variable (atom a) low = absurd (omega arith)
slot-variable (pair t u) low = absurd (omega arith)
slot-variable (wrapped w k t) low = absurd (omega arith)

-- One more of them.
pub distinct_none : (s : List ℕ) (m : List Beside) → Distinct s m 0
distinct_none s m = record { variables = λ k h. absurd (omega arith); apart = λ j k h l. absurd (omega arith) }

pub distinct_more : {s : List ℕ} {m : List Beside} {k : ℕ} → Distinct s m k → noted_slot s m k < any_slots → ((j : ℕ) → j < k → ¬ (noted_slot s m j ≡ noted_slot s m k))
    → Distinct s m (k + 1)
distinct_more {s} {m} {k} d low new = record {
  variables = λ j h. elim (ℕ_discrete j k) [ yes e ↦ rw e low | no off ↦ d.variables j (omega arith) ];
  apart = λ i j h l. elim (ℕ_discrete j k) [ yes e ↦ rw e (new i (omega arith)) | no off ↦ d.apart i j h (omega arith) ];
}

-- The slots of the first k are marked.
pub record Seen (s : List ℕ) (m : List Beside) (seen : List Bool) (k : ℕ) : Type 0 where
  pub marked : (j : ℕ) → j < k → get_or seen (noted_slot s m j) false ≡ true

module _ {s : List ℕ} {m : List Beside} {seen : List Bool} {k x : ℕ} (w : Seen s m seen k) (is : x ≡ noted_slot s m k) where
  pub seen-new : get_or seen x false ≡ false → (j : ℕ) → j < k → ¬ (noted_slot s m j ≡ noted_slot s m k)
  seen-new off j h e = false≢true (sym off ∙ ap (λ (y : ℕ). get_or seen y false) (is ∙ sym e) ∙ w.marked j h)

  pub seen_more : x < length seen → Seen s m (set seen x true) (k + 1)
  seen_more inside = record {
    marked = λ j h. elim (ℕ_discrete (noted_slot s m j) x) [
      | yes e ↦ rw e (get_or-set_same seen x true false inside)
      | no off ↦ get_or-set_other seen x (noted_slot s m j) true false off ∙ w.marked j (earlier-one j h off)
    ];
  }
    where
      earlier-one : (j : ℕ) → j < k + 1 → ¬ (noted_slot s m j ≡ x) → j < k
      earlier-one j h off = elim (ℕ_discrete j k) [ yes e ↦ absurd (off (rw e (sym is))) | no other ↦ omega arith ]

-- Each variable is replaced by the term that stands opposite.
abbrev opposite : List ℕ → List Beside → ℕ → Term Variable
opposite t m k = term_of (from (4 * right_noted m k) t)

taken : List ℕ → List ℕ → List Beside → ℕ → Variable → Term Variable
taken s t m zero x = variable x
taken s t m (suc k) x = pick (eqb (noted_slot s m k) (slot_of (variable x))) (opposite t m k) (taken s t m k x)

module _ (s t : List ℕ) (m : List Beside) {n : ℕ} (d : Distinct s m n) where
  takes : (x : Variable) (k : ℕ) → k < n → noted_slot s m k ≡ slot_of (variable x) → (l : ℕ) → k < l → l ≤ n → taken s t m l x ≡ opposite t m k
  unfolding taken
  takes x k h is zero low few = absurd (omega arith)
  takes x k h is (suc l) low few = elim (ℕ_discrete l k) [
    | yes e ↦ rw (e, eq-eqb (noted_slot s m k) (slot_of (variable x)) is) refl
    | no off ↦
        let other : (noted_slot s m l ≡ slot_of (variable x) → ⊥) = λ q. d.apart k l (omega arith) (omega arith) (is ∙ sym q) in
        rw (ne_eqb (noted_slot s m l) (slot_of (variable x)) other) (takes x k h is l (omega arith) (omega arith))
  ]

  met : (k : ℕ) → k < n → AVariable (term_of (from (4 * left_noted m k) s))
      → replace (taken s t m n) (term_of (from (4 * left_noted m k) s)) ≡ replace variable (opposite t m k)
  unfolding replace
  met k h v = rw v.is (takes v.x k h (ap slot_of v.is) n h (omega arith)) ∙ sym (replace-none (opposite t m k))

  -- A nonce variable is none of them, and stays.
  taken-nonce : (atoms : List Atom) (x : Variable) → range_of x ≡ one_nonce → (l : ℕ) → l ≤ n → NonceTerm atoms range_of (taken s t m l x)
  unfolding NonceTerm taken
  taken-nonce atoms x is zero few = is
  taken-nonce atoms x is (suc l) few =
      let far = nonce-slot x is in
      let near = d.variables l (omega arith) in
      rw (ne_eqb (noted_slot s m l) (slot_of (variable x)) (omega arith)) (taken-nonce atoms x is l (omega arith))

  stays : (atoms : List Atom) → PutsNonces atoms range_of variable
  unfolding NonceTerm
  stays atoms x is = is

  pub free-match : (atoms : List Atom) → Reduced s t m n → Share atoms (term_of s) (term_of t)
  free-match atoms r = alike-share (taken s t m n) variable (λ x is. taken-nonce atoms x is n (omega arith)) (stays atoms) ((r.same (taken s t m n) variable).1 (record {
    each = λ k h. record { same = met k h (slot-variable _ (d.variables k h)) };
  }))
