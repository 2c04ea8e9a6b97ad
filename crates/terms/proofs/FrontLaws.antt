-- Laws of the first terms of entries: what one entry, and what one term, says of them.
use mathlib.Core.Path.{◌≡◌, refl, sym, ap, ◌∙◌, ap₂}
use mathlib.Core.List.{List, [], ◌∷◌, map}
use mathlib.Core.Option.{Option, none, some}
use mathlib.Core.Logic.{◌↔◌}
use Prim.Native.Nat.{ℕ, zero, suc, ◌+◌, ◌*◌, ◌-◌, ◌≤◌}
use native.Mathlib.Omega.{arith}
use lib.ListN.{length, take, drop, length-drop}
use borrow.Author.Rules.{part_to_end}
use Rattle.terms.specs.Term.{Term, variable, atom, pair, Variable, named, replace, wrapped}
use Rattle.terms.specs.Tag.{Tagged, an_atom, a_pair, a_wrapping, a_variable, no_tag, tagged, children_of, sort-tagged, wrapping-tagged}
use Rattle.terms.specs.Entry.{Symbol, atom_symbol, pair_symbol, wrapper_symbol, variable_symbol, tag_of, value_of, size, before, term_of, Reads, Begins}
use Rattle.terms.specs.Entry.{tag_at, value_at, from}
use Rattle.terms.specs.Reading.{First, first_atom, first_pair, first_wrapped, first_variable, none≢some, first}
use Rattle.terms.specs.Front.{list_of, front_of, Front, Takes, SameFirst, Alike}
use Rattle.terms.proofs.TagLaws.{sort-childless, wrapping-child}
use Rattle.terms.proofs.EntryLaws.{term_of-reads, past, fits, size-positive, begins}

-- A symbol is known by its tag and its value.
symbol_for : {tag : ℕ} → Tagged tag → ℕ → Symbol
symbol_for (an_atom e) n = atom_symbol n
symbol_for (a_pair e) n = pair_symbol
symbol_for (a_wrapping w e) n = wrapper_symbol w n
symbol_for (a_variable s e) n = variable_symbol (named s n)
symbol_for (no_tag e) n = pair_symbol

symbol-for : (s : Symbol) → symbol_for (tagged (tag_of s)) (value_of s) ≡ s
unfolding symbol_for tagged tag_of value_of
symbol-for (atom_symbol a) = refl
symbol-for pair_symbol = refl
symbol-for (wrapper_symbol w k) = rw (wrapping-tagged w) refl
symbol-for (variable_symbol (named s x)) = rw (sort-tagged s) refl

same-symbol : (s r : Symbol) → tag_of s ≡ tag_of r → value_of s ≡ value_of r → s ≡ r
same-symbol s r t v =
    sym (symbol-for s) ∙ ap₂ (λ (n m : ℕ). symbol_for (tagged n) m) t v ∙ symbol-for r

-- The symbol of a term that stands first, and the terms with its children in its place.
top_of : List (Term Variable) → Option Symbol
top_of [] = none
top_of (variable x ∷ l) = some (variable_symbol x)
top_of (atom a ∷ l) = some (atom_symbol a)
top_of (pair t u ∷ l) = some pair_symbol
top_of (wrapped w k t ∷ l) = some (wrapper_symbol w k)

after : List (Term Variable) → List (Term Variable)
after [] = []
after (variable x ∷ l) = l
after (atom a ∷ l) = l
after (pair t u ∷ l) = t ∷ u ∷ l
after (wrapped w k t ∷ l) = t ∷ l

-- The symbol is no variable, or one that is replaced by itself.
abbrev Keeps : (Variable → Term Variable) → Symbol → Type 0
Keeps by s = (x : Variable) → s ≡ variable_symbol x → by x ≡ variable x

module _ {m : List (Term Variable)} where
  -- What a symbol makes shows the symbol and what it was made of.
  before-shows : (s : Symbol) (l : List (Term Variable)) → before s l ≡ some m → (top_of m ≡ some s) × (after m ≡ l)
  unfolding before top_of after
  before-shows (atom_symbol a) l e = let q : m ≡ atom a ∷ l = cc in rw q (refl, refl)
  before-shows (variable_symbol x) l e = let q : m ≡ variable x ∷ l = cc in rw q (refl, refl)
  before-shows pair_symbol [] e = absurd (none≢some _ e)
  before-shows pair_symbol (t ∷ []) e = absurd (none≢some _ e)
  before-shows pair_symbol (t ∷ u ∷ l) e = let q : m ≡ pair t u ∷ l = cc in rw q (refl, refl)
  before-shows (wrapper_symbol w k) [] e = absurd (none≢some _ e)
  before-shows (wrapper_symbol w k) (t ∷ l) e = let q : m ≡ wrapped w k t ∷ l = cc in rw q (refl, refl)

  -- A symbol that is kept makes the same of replaced terms.
  before-replaced : (by : Variable → Term Variable) (s : Symbol) → Keeps by s → (l : List (Term Variable)) → before s l ≡ some m
      → before s (map (replace by) l) ≡ some (map (replace by) m)
  unfolding before replace
  before-replaced by (atom_symbol a) k l e = let q : m ≡ atom a ∷ l = cc in rw q refl
  before-replaced by (variable_symbol x) k l e = let q : m ≡ variable x ∷ l = cc in rw q (rw (k x refl) refl)
  before-replaced by pair_symbol k [] e = absurd (none≢some _ e)
  before-replaced by pair_symbol k (t ∷ []) e = absurd (none≢some _ e)
  before-replaced by pair_symbol k (t ∷ u ∷ l) e = let q : m ≡ pair t u ∷ l = cc in rw q refl
  before-replaced by (wrapper_symbol w n) k [] e = absurd (none≢some _ e)
  before-replaced by (wrapper_symbol w n) k (t ∷ l) e = let q : m ≡ wrapped w n t ∷ l = cc in rw q refl

-- The first terms of entries that read as these.
front_reads : {e : List ℕ} {l : List (Term Variable)} → Reads e l → (n : ℕ) → front_of n e ≡ take n l
unfolding front_of
front_reads r n = ap (λ (o : Option (List (Term Variable))). take n (list_of o)) r.is

-- There is an entry for each of the terms.
reads-room : (l : List (Term Variable)) {e : List ℕ} → Reads e l → 4 * length l ≤ length e
reads-room [] r = omega arith
reads-room (t ∷ l) {e} r = omega (arith, reads-room l (past t r), fits t r, size-positive t, length-drop (4 * size t) e)

front : {n : ℕ} {e : List ℕ} {l : List (Term Variable)} → Reads e l → n ≤ length l → Front n e
front {l = l} r h = record { all = l; reads = r; enough = h; room = omega (arith, reads-room l r) }

-- How many terms are left to compare after this entry.
abbrev pub next : ℕ → List ℕ → ℕ
next need e = need - 1 + children_of (tag_at e)

-- The first entry as a symbol, and the first terms as what that symbol makes of those after it.
pub record Opened (need : ℕ) (e : List ℕ) : Type 0 where
  pub symbol : Symbol
  pub tag : tag_at e ≡ tag_of symbol
  pub value : value_at e ≡ value_of symbol
  pub below : Front (next need e) (from 4 e)
  pub makes : before symbol (front_of (next need e) (from 4 e)) ≡ some (front_of need e)

opening : (s : Symbol) (need k : ℕ) {e : List ℕ} (all rest : List (Term Variable)) → Reads e all → Reads (drop 4 e) rest → tag_at e ≡ tag_of s
    → value_at e ≡ value_of s → next need e ≡ k → k ≤ length rest → before s (take k rest) ≡ some (take need all) → Opened need e
opening s need k {e} all rest reads below tag value is enough makes =
    let there : Reads (from 4 e) rest = rw part_to_end below in
    record {
      symbol = s;
      tag = tag;
      value = value;
      below = front there (rw is enough);
      makes = rw (is, front_reads there, front_reads reads) makes;
    }

-- Where a term is left, the entries begin with one.
front-some : {A : Type 0} {need : ℕ} {e : List ℕ} → Front need e → ¬ (need ≡ 0)
    → ((t : Term Variable) (l : List (Term Variable)) → Reads e (t ∷ l) → need ≤ suc (length l) → A) → A
front-some {A} {need} {e} f some_left then = go f.all f.reads f.enough
  where
    go : (l : List (Term Variable)) → Reads e l → need ≤ length l → A
    go [] r h = absurd (some_left (omega arith))
    go (t ∷ l) r h = then t l r h

pub front-begins : {need : ℕ} {e : List ℕ} → Front need e → ¬ (need ≡ 0) → Begins e
front-begins f some_left = front-some f some_left (λ t l r h. begins r)

pub opened : (need : ℕ) {e : List ℕ} → Front need e → ¬ (need ≡ 0) → Opened need e
unfolding tag_of value_of before children_of
opened zero f some_left = absurd (some_left refl)
opened (suc n) {e} f some_left = front-some f some_left (λ t l r h. go t l r h (first r))
  where
    go : (t : Term Variable) (l : List (Term Variable)) → Reads e (t ∷ l) → suc n ≤ suc (length l)
        → First (tag_at e) (value_at e) (drop 4 e) (t ∷ l) → Opened (suc n) e
    go t l r h (first_atom {m} g q k) =
        let same : l ≡ m = cc in
        let long : length l ≡ length m = ap length same in
        opening (atom_symbol (value_at e)) (suc n) n (t ∷ l) m r k g refl (rw g (omega arith)) (omega arith) (cc)
    go t l r h (first_pair {t = v} {u = w} {m} g z q k) =
        let same : l ≡ m = cc in
        let long : length l ≡ length m = ap length same in
        opening pair_symbol (suc n) (suc (suc n)) (t ∷ l) (v ∷ w ∷ m) r k g z (rw g (omega arith)) (omega arith) (cc)
    go t l r h (first_wrapped {w = w} {t = v} {m = m} i g q k) =
        let same : l ≡ m = cc in
        let long : length l ≡ length m = ap length same in
        opening (wrapper_symbol w (value_at e)) (suc n) (suc n) (t ∷ l) (v ∷ m) r k i refl (rw i (omega (arith, wrapping-child w))) (omega arith) (cc)
    go t l r h (first_variable {s = s} {m = m} g v z q k) =
        let same : l ≡ m = cc in
        let long : length l ≡ length m = ap length same in
        opening (variable_symbol (named s (value_at e))) (suc n) n (t ∷ l) m r k g refl (rw g (omega (arith, sort-childless s))) (omega arith) (cc)

-- The first terms as the one that stands first, and those past it.
pub record Parted (need : ℕ) (e : List ℕ) : Type 0 where
  pub others : Front (need - 1) (from (4 * size (term_of e)) e)
  pub splits : front_of need e ≡ term_of e ∷ front_of (need - 1) (from (4 * size (term_of e)) e)

pub parted : (need : ℕ) {e : List ℕ} → Front need e → ¬ (need ≡ 0) → Parted need e
parted zero f some_left = absurd (some_left refl)
parted (suc n) {e} f some_left = front-some f some_left go
  where
    go : (t : Term Variable) (l : List (Term Variable)) → Reads e (t ∷ l) → suc n ≤ suc (length l) → Parted (suc n) e
    go t l r h =
        let is : term_of e ≡ t = term_of-reads r in
        let there : Reads (from (4 * size t) e) l = rw part_to_end (past t r) in
        let less : suc n - 1 ≡ n = omega arith in
        record {
          others = rw (is, less) (front there (omega arith));
          splits = rw (is, less, front_reads there, front_reads r) refl;
        }

-- The replacement keeps the first symbol: it is no variable, or one that is replaced by itself.
abbrev pub KeepsFirst : (Variable → Term Variable) → List ℕ → Type 0
KeepsFirst by e = (x : Variable) → term_of e ≡ variable x → by x ≡ variable x

kept : {by : Variable → Term Variable} {need : ℕ} {e : List ℕ} (o : Opened need e) → Parted need e → KeepsFirst by e → Keeps by o.symbol
unfolding before
kept o p keeps x is = let made = rw is at o.makes in keeps x (cc p.splits)

module _ (need : ℕ) {e f : List ℕ} (left : Front need e) (right : Front need f) (some_left : ¬ (need ≡ 0)) (by : Variable → Term Variable) where
  -- A term against a term, and then the others.
  pub next-term : Takes by need e f
      ↔ ((replace by (term_of e) ≡ term_of f) × Takes by (need - 1) (from (4 * size (term_of e)) e) (from (4 * size (term_of f)) f))
  next-term =
      let a = (parted need left some_left).splits in
      let b = (parted need right some_left).splits in
      (λ h. (let q = rw (a, b) at h.same in (cc, record { same = cc })), λ h. record { same = rw (a, b) (cc h.1.same) })

  -- The same symbol on both sides, and then its children with the others.
  pub next-symbol : KeepsFirst by e → SameFirst e f → Takes by need e f ↔ Takes by (next need e) (from 4 e) (from 4 f)
  next-symbol keeps first-same =
      let o = opened need left some_left in
      let u = opened need right some_left in
      let is : o.symbol ≡ u.symbol = same-symbol o.symbol u.symbol (cc) (cc) in
      let makes = before-replaced by o.symbol (kept o (parted need left some_left) keeps) _ o.makes in
      let makes' : before o.symbol (front_of (next need e) (from 4 f)) ≡ some (front_of need f) = rw (is, first-same.tag) u.makes in (
        λ h. record { same = sym (before-shows o.symbol _ (makes ∙ ap some h.same)).1 ∙ (before-shows o.symbol _ makes').1 },
        λ h. record { same = cc h.same },
      )

  -- Another symbol.
  pub other-symbol : KeepsFirst by e → ¬ SameFirst e f → ¬ Takes by need e f
  other-symbol keeps off h =
      let o = opened need left some_left in
      let u = opened need right some_left in
      let a = (before-shows o.symbol _ (before-replaced by o.symbol (kept o (parted need left some_left) keeps) _ o.makes)).0 in
      let b = (before-shows u.symbol _ u.makes).0 in
      let is : o.symbol ≡ u.symbol = cc h.same in
      off (record { tag = cc; value = cc })

-- The same for replacements on both sides.
module _ (need : ℕ) {e f : List ℕ} (left : Front need e) (right : Front need f) (some_left : ¬ (need ≡ 0)) (by by' : Variable → Term Variable) where
  -- A term against a term, and then the others.
  pub alike-term : Alike by by' need e f
      ↔ ((replace by (term_of e) ≡ replace by' (term_of f)) × Alike by by' (need - 1) (from (4 * size (term_of e)) e) (from (4 * size (term_of f)) f))
  alike-term =
      let a = (parted need left some_left).splits in
      let b = (parted need right some_left).splits in
      (λ h. (let q = rw (a, b) at h.same in (cc, record { same = cc })), λ h. record { same = rw (a, b) (cc h.1.same) })

  -- Symbols that are no variables stand first.
  module _ (keeps : KeepsFirst by e) (keeps' : KeepsFirst by' f) where
    made : before (opened need left some_left).symbol (map (replace by) (front_of (next need e) (from 4 e))) ≡ some (map (replace by) (front_of need e))
    made = let o = opened need left some_left in before-replaced by o.symbol (kept o (parted need left some_left) keeps) _ o.makes

    made' : before (opened need right some_left).symbol (map (replace by') (front_of (next need f) (from 4 f))) ≡ some (map (replace by') (front_of need f))
    made' = let o = opened need right some_left in before-replaced by' o.symbol (kept o (parted need right some_left) keeps') _ o.makes

    -- The same symbol on both sides, and then its children with the others.
    pub alike-symbol : SameFirst e f → Alike by by' need e f ↔ Alike by by' (next need e) (from 4 e) (from 4 f)
    alike-symbol first-same =
        let o = opened need left some_left in
        let u = opened need right some_left in
        let tags = first-same.tag in
        let is : o.symbol ≡ u.symbol = same-symbol o.symbol u.symbol (cc) (cc) in
        let a = (before-shows o.symbol _ made).1 in
        let b = (before-shows u.symbol _ made').1 in
        let other : before o.symbol (map (replace by') (front_of (next need e) (from 4 f))) ≡ some (map (replace by') (front_of need f)) = rw (is, tags) made' in (
          λ h. record { same = rw tags (rw tags at (sym a) ∙ ap after h.same ∙ b) },
          λ h. record { same = cc (h.same, made, other) },
        )

    -- Another symbol.
    pub alike-other : ¬ SameFirst e f → ¬ Alike by by' need e f
    alike-other off h =
        let o = opened need left some_left in
        let u = opened need right some_left in
        let a = (before-shows o.symbol _ made).0 in
        let b = (before-shows u.symbol _ made').0 in
        let is : o.symbol ≡ u.symbol = cc h.same in
        off (record { tag = cc; value = cc })

-- No term is left.
pub none-compared : {need : ℕ} (by : Variable → Term Variable) (e f : List ℕ) → need ≡ 0 → Takes by need e f
unfolding front_of
none-compared by e f is = record { same = rw is refl }

-- The first term, where the entries begin with one.
pub front-few : {n : ℕ} {e : List ℕ} → Begins e → n ≤ 1 → Front n e
front-few b few = front b.reads (omega arith)
