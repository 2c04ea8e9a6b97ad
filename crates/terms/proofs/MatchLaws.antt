-- Laws of matching by a walk over the pattern's entries left: bindings, and a step for each branch.
use mathlib.Core.Path.{◌≡◌, refl, sym, ◌∙◌}
use mathlib.Core.Bool.{Bool, true}
use mathlib.Core.List.{List}
use mathlib.Core.Logic.{◌↔◌}
use Prim.Native.Nat.{ℕ, ◌+◌, ◌*◌, ◌-◌, ◌<◌, ◌≤◌}
use native.Mathlib.Omega.{arith}
use native.Mathlib.Decide.{ℕ_discrete, dec_lt}
use lib.ListN.{length, get_or, set, replicate, get_or-replicate, get_or-eq_default, length-replicate}
use lib.Seq.{get_or-set_same, get_or-set_other}
use Rattle.terms.specs.declared.atom.Atom.{Atom}
use Rattle.terms.specs.Term.{Term, variable, Variable, range_of, replace}
use Rattle.terms.specs.Instance.{NonceTerm, PutsNonces}
use Rattle.terms.specs.Tag.{children_of}
use Rattle.terms.specs.Entry.{size, term_of, Begins, tag_at, from}
use Rattle.terms.specs.Decisions.{Says, says_same}
use Rattle.terms.specs.Slot.{slot_count, slot_of, in_slot, Held, Bindings}
use Rattle.std.specs.Prelude.{Some, None}
use Rattle.terms.specs.Front.{Front, Takes, SameFirst, Bound, Agrees, Comparable, Bindable, Ready, NoncesBound, MayTake, Made}
use Rattle.terms.proofs.EntryLaws.{term_of-reads, fits, from-from, from-length}
use Rattle.terms.proofs.SlotLaws.{slot-of-slot, slot-first, nonce-slot, high-slot}
use Rattle.terms.proofs.FrontLaws.{next, front-begins, opened, parted, KeepsFirst, next-term, next-symbol, other-symbol, none-compared}

-- Where no slot holds anything, nothing is bound.
pub none-bound : (i k : ℕ) → ¬ Bound (replicate slot_count None) i k
none-bound i k h = let is : get_or (replicate {A = Held} slot_count None) i None ≡ None = none i (dec_lt i slot_count) in cc
  where
    none : (i : ℕ) → Dec (i < slot_count) → get_or (replicate {A = Held} slot_count None) i None ≡ None
    none i (yes l) = get_or-replicate slot_count i None None l
    none i (no far) = get_or-eq_default (replicate slot_count None) None {n = i} (omega (arith, length-replicate {A = Held} slot_count None))

-- The replacement of the bindings; a variable that is not bound stays.
bound-term : List ℕ → Held → Variable → Term Variable
bound-term t (Some k) x = term_of (from (4 * k) t)
bound-term t None x = variable x

bindings : (t : List ℕ) (bound : Bindings) → Variable → Term Variable
bindings t bound x = bound-term t (get_or bound (slot_of (variable x)) None) x

bindings-agree : (t : List ℕ) (bound : Bindings) → Agrees t bound (bindings t bound)
unfolding bindings bound-term
bindings-agree t bound = record { held = λ i k h. rw (slot-of-slot i, h) refl }

bindings-nonces : {atoms : List Atom} {t : List ℕ} {bound : Bindings} → NoncesBound atoms t bound → PutsNonces atoms range_of (bindings t bound)
unfolding bindings bound-term NonceTerm
bindings-nonces {atoms} {t} {bound} nonces x is = go (get_or bound (slot_of (variable x)) None) refl
  where
    go : (h : Held) → get_or bound (slot_of (variable x)) None ≡ h → NonceTerm atoms range_of (bound-term t h x)
    go (Some k) e = nonces.each _ k e (high-slot (nonce-slot x is))
    go None e = is

-- A term that begins past byte n is within.
pub begins-within : (n : ℕ) (e : List ℕ) → Begins (from n e) → n + 4 ≤ length e
begins-within n e b = omega (arith, b.room, from-length n e)

term-within : (n : ℕ) (e : List ℕ) → Begins (from n e) → n + 4 * size (term_of (from n e)) ≤ length e
term-within n e b =
    let is : term_of (from n e) ≡ b.term = term_of-reads b.reads in
    let room : 4 * size (term_of (from n e)) ≤ length (from n e) = rw is (fits b.term b.reads) in
    omega (arith, from-length n e, begins-within n e b)

-- Bound so, a replacement agrees if it agreed before and replaces the slot's variable by that term.
module _ (t : List ℕ) (bound : Bindings) (x at : ℕ) (long : x < length bound) where
  still : (i : ℕ) → ¬ (i ≡ x) → get_or (set bound x (Some at)) i None ≡ get_or bound i None
  still i off = get_or-set_other bound x i (Some at) None off

  new : get_or (set bound x (Some at)) x None ≡ Some at
  new = get_or-set_same bound x (Some at) None long

  -- What is bound now is the new term, or was bound before.
  bound-cases : (P : ℕ → ℕ → Type 0) → P x at → ((i k : ℕ) → Bound bound i k → P i k) → (i k : ℕ) → Bound (set bound x (Some at)) i k → P i k
  bound-cases P here there i k h = go (ℕ_discrete i x)
    where
      go : Dec (i ≡ x) → P i k
      go (yes is) = let same : at ≡ k = let n = new in cc in rw (is, ← same) here
      go (no off) = there i k (sym (still i off) ∙ h)

  bind-agrees : (by : Variable → Term Variable) → Agrees t bound by → by (in_slot x) ≡ term_of (from (4 * at) t) → Agrees t (set bound x (Some at)) by
  bind-agrees by a new = record { held = bound-cases (λ i k. by (in_slot i) ≡ term_of (from (4 * k) t)) new a.held }

  bind_held : ((i k : ℕ) → Bound bound i k → Begins (from (4 * k) t)) → Begins (from (4 * at) t)
      → (i k : ℕ) → Bound (set bound x (Some at)) i k → Begins (from (4 * k) t)
  bind_held held b = bound-cases (λ i k. Begins (from (4 * k) t)) b held

  bound-new : (by : Variable → Term Variable) → Agrees t (set bound x (Some at)) by → by (in_slot x) ≡ term_of (from (4 * at) t)
  bound-new by a = a.held x at new

  bound-old : (by : Variable → Term Variable) → Bindable t (get_or bound x None) at → Agrees t (set bound x (Some at)) by → Agrees t bound by
  bound-old by free a = record { held = λ i k h. go i k h (ℕ_discrete i x) }
    where
      go : (i k : ℕ) → Bound bound i k → Dec (i ≡ x) → by (in_slot i) ≡ term_of (from (4 * k) t)
      go i k h (yes is) = rw is (bound-new by a ∙ sym (free.same k (rw is at h)))
      go i k h (no off) = a.held i k (still i off ∙ h)

-- Nothing is left to compare.
pub made_none : {atoms : List Atom} {p t : List ℕ} {bound : Bindings} {at need : ℕ} → need ≡ 0 → NoncesBound atoms t bound → Made atoms p t at need bound
made_none {p = p} {t} {bound} {at} is nonces = record { by = bindings t bound; nonces = bindings-nonces nonces; agrees = bindings-agree t bound; takes = none-compared _ p (from (4 * at) t) is }

module _ {p t : List ℕ} {bound : Bindings} {at need : ℕ} (r : Ready p t at need bound) (some_left : ¬ (need ≡ 0)) where
  pub pattern-begins : Begins p
  pattern-begins = front-begins r.pattern some_left

  pub subject-begins : Begins (from (4 * at) t)
  subject-begins = front-begins r.subject some_left

  entry-small : at ≤ 62
  entry-small = omega (arith, r.inside, r.small)

  -- A variable stands first: past its term, with that term bound.
  module _ {x : ℕ} (slot : x ≡ slot_of (term_of p)) (low : x < slot_count) (long : x < length bound) where
    variable-there : term_of p ≡ variable (in_slot x)
    variable-there = rw slot ((slot-first pattern-begins).in-slot (rw slot at low))

    past-variable : from (4 * size (term_of p)) p ≡ from 4 p
    unfolding size
    past-variable = rw variable-there refl

    past-term : {s : ℕ} → s ≡ size (term_of (from (4 * at) t)) → from (4 * size (term_of (from (4 * at) t))) (from (4 * at) t) ≡ from (4 * (at + s)) t
    past-term {s} is = let there : 4 * at + 4 * s ≡ 4 * (at + s) = omega arith in rw (← is, from-from, there) refl

    pub comparable : Comparable t (get_or bound x None) at
    comparable = record { held = λ k is. r.held x k is; here = subject-begins; inside = omega (arith, r.inside) }

    pub variable-ready : {s : ℕ} → s ≡ size (term_of (from (4 * at) t)) → {more : Bindings} → more ≡ set bound x (Some at) → Ready (from 4 p) t (at + s) (need - 1) more
    variable-ready {s} is new =
        let others : Front (need - 1) (from (4 * (at + s)) t) = rw (past-term is) at (parted need r.subject some_left).others in
        rw new (record {
          pattern = rw past-variable at (parted need r.pattern some_left).others;
          subject = others;
          held = bind_held t bound x at long r.held subject-begins;
          inside = omega (arith, term-within (4 * at) t subject-begins, from-length (4 * (at + s)) t, others.room);
          small = r.small;
        })

    variable-term : {s : ℕ} → s ≡ size (term_of (from (4 * at) t)) → (by : Variable → Term Variable) → Takes by need p (from (4 * at) t)
        ↔ ((by (in_slot x) ≡ term_of (from (4 * at) t)) × Takes by (need - 1) (from 4 p) (from (4 * (at + s)) t))
    unfolding replace
    variable-term is by = rw (past-variable, past-term is, variable-there) at (next-term need r.pattern r.subject some_left by)

    variable-made : (atoms : List Atom) → {s : ℕ} → s ≡ size (term_of (from (4 * at) t)) → Bindable t (get_or bound x None) at
        → Made atoms p t at need bound ↔ Made atoms (from 4 p) t (at + s) (need - 1) (set bound x (Some at))
    variable-made atoms {s} is free = (
      λ m. (let h = (variable-term is m.by).0 m.takes in record {
        by = m.by;
        nonces = m.nonces;
        agrees = bind-agrees t bound x at long m.by m.agrees h.0;
        takes = h.1;
      }),
      λ m. record {
        by = m.by;
        nonces = m.nonces;
        agrees = bound-old t bound x at long m.by free m.agrees;
        takes = (variable-term is m.by).1 (bound-new t bound x at long m.by m.agrees, m.takes);
      },
    )

    pub variable-step : (atoms : List Atom) → {s : ℕ} → s ≡ size (term_of (from (4 * at) t)) → {more : Bindings} → more ≡ set bound x (Some at) → Bindable t (get_or bound x None) at
        → (b : Bool) → Says b (Made atoms (from 4 p) t (at + s) (need - 1) more) → Says b (Made atoms p t at need bound)
    variable-step atoms is new free b says = let m = variable-made atoms is free in says_same b m.1 m.0 (rw new at says)

    -- A nonce is bound where one is wanted.
    pub variable-nonces : (atoms : List Atom) → NoncesBound atoms t bound → MayTake atoms x t at → {more : Bindings} → more ≡ set bound x (Some at) → NoncesBound atoms t more
    variable-nonces atoms nonces may new = rw new (record { each = bound-cases t bound x at long (λ i k. MayTake atoms i t k) may nonces.each })

    -- Where it is the last term, its end is not asked for.
    pub variable-last : (atoms : List Atom) → need ≡ 1 → NoncesBound atoms t bound → MayTake atoms x t at → Bindable t (get_or bound x None) at → Made atoms p t at need bound
    variable-last atoms one nonces may free =
        let last : need - 1 ≡ 0 = omega arith in
        variable-step atoms {s = size (term_of (from (4 * at) t))} refl {more = set bound x (Some at)} refl free true
        (made_none last (variable-nonces atoms nonces may refl))

    -- The term is no nonce, and one is wanted.
    pub variable-refused : (atoms : List Atom) → ¬ MayTake atoms x t at → ¬ Made atoms p t at need bound
    variable-refused atoms off m = off (λ is. rw ((variable-term refl m.by).0 m.takes).0 at (m.nonces (in_slot x) is))

    pub variable-clash : (atoms : List Atom) → ¬ Bindable t (get_or bound x None) at → ¬ Made atoms p t at need bound
    variable-clash atoms off m = off (record { same = λ k is. sym (m.agrees.held x k is) ∙ ((variable-term refl m.by).0 m.takes).0 })

  -- A symbol stands first: its children are next, or it is not the same.
  module _ {x : ℕ} (slot : x ≡ slot_of (term_of p)) (high : slot_count ≤ x) where
    keeps : (by : Variable → Term Variable) → KeepsFirst by p
    keeps by y is = absurd ((slot-first pattern-begins).off-slot (rw slot at high) y is)

    past-entry : from 4 (from (4 * at) t) ≡ from (4 * (at + 1)) t
    past-entry = let there : 4 * at + 4 ≡ 4 * (at + 1) = omega arith in rw (from-from, there) refl

    pub symbol-ready : SameFirst p (from (4 * at) t) → {k : ℕ} → k ≡ children_of (tag_at p) → Ready (from 4 p) t (at + 1) (need - 1 + k) bound
    symbol-ready same is =
        let children : Front (next need p) (from (4 * (at + 1)) t) = rw (past-entry, ← same.tag) at (opened need r.subject some_left).below in
        rw is (record {
          pattern = (opened need r.pattern some_left).below;
          subject = children;
          held = r.held;
          inside = omega (arith, begins-within (4 * at) t subject-begins, from-length (4 * (at + 1)) t, children.room);
          small = r.small;
        })

    symbol-made : (atoms : List Atom) → SameFirst p (from (4 * at) t) → Made atoms p t at need bound ↔ Made atoms (from 4 p) t (at + 1) (next need p) bound
    symbol-made atoms is = (
      λ m. record { by = m.by; nonces = m.nonces; agrees = m.agrees; takes = (step m.by).0 m.takes },
      λ m. record { by = m.by; nonces = m.nonces; agrees = m.agrees; takes = (step m.by).1 m.takes },
    )
      where
        step : (by : Variable → Term Variable) → Takes by need p (from (4 * at) t) ↔ Takes by (next need p) (from 4 p) (from (4 * (at + 1)) t)
        step by = rw past-entry at (next-symbol need r.pattern r.subject some_left by (keeps by) is)

    pub symbol-step : (atoms : List Atom) → SameFirst p (from (4 * at) t) → {k : ℕ} → k ≡ children_of (tag_at p)
        → (b : Bool) → Says b (Made atoms (from 4 p) t (at + 1) (need - 1 + k) bound) → Says b (Made atoms p t at need bound)
    symbol-step atoms same is b says = let m = symbol-made atoms same in says_same b m.1 m.0 (rw is at says)

    pub symbol-clash : (atoms : List Atom) → ¬ SameFirst p (from (4 * at) t) → ¬ Made atoms p t at need bound
    symbol-clash atoms off m = other-symbol need r.pattern r.subject some_left m.by (keeps m.by) off m.takes
