-- Laws of marks at, above or below an entry: what laying a pattern around a term flags, by the symbols of both. Assumes nothing.
use mathlib.Core.Path.{◌≡◌, refl, sym, ap, ◌∙◌}
use mathlib.Core.Bool.{Bool, true, false, false≢true, ◌||◌}
use mathlib.Core.List.{List, [], ◌∷◌, ◌++◌}
use mathlib.Core.Logic.{◌⊎◌, inl, inr, ◌↔◌}
use mathlib.Core.Option.{some, none-ne-some}
use Prim.Native.Nat.{ℕ, ◌+◌, ◌*◌, ◌/◌, ◌-◌, ◌<◌, ◌≤◌}
use native.Mathlib.Omega.{arith}
use native.Mathlib.Decide.{ℕ_discrete}
use borrow.Author.Rules.{part_to_end}
use lib.ListN.{length, get_or, set, drop, length-set}
use lib.Seq.{get_or-set_same, get_or-set_other}
use Rattle.blocks.specs.Kinds.{bad_kind}
use Rattle.blocks.specs.Block.{block_at, kind_of}
use Rattle.terms.specs.Term.{Term, Variable, variable, pair, Range, sort, marked, wrapped, Wrapping}
use Rattle.terms.specs.Tag.{pair_tag, signature_tag, wrapping_tag, WrapperTag, children_of, MarkedTag, sort_tag, wrapping-symbol}
use Rattle.terms.proofs.TagLaws.{two-children, one-child, two-tag, one_tag, marked-sort, mark-tagged, marked-variable}
use Rattle.terms.specs.Place.{Turn, Place, left, right, inside, subterm_at}
use Rattle.terms.specs.Entry.{size, term_of, tag_at, value_at, Reads, Begins, from, entry_at}
use Rattle.terms.specs.Reading.{First, first_atom, first_pair, first_wrapped, first_variable, first}
use Rattle.terms.specs.Decisions.{Says, says_same}
use Rattle.terms.specs.TermGraph.{right_in}
use Rattle.terms.proofs.EntryLaws.{begins-tag, from_start, term_of-reads, term-reads, begins, fits, size-positive, pair-first, wrapped-first, from-from, from-length, reads-pair, reads-variable, reads-wrapped}
use Rattle.terms.proofs.TermGraphLaws.{pair-in, wrapped-in, tag-from, right-in}
use Rattle.terms.proofs.SizeLaws.{size-at, marked-inside}
use Rattle.terms.proofs.PlaceLaws.{Composite, composite, is_pair, is_wrapped}
use Rattle.terms.proofs.PlacedLaws.{placed, placed-within, placed-begins, spotted, subterm-at}
use Rattle.judge.specs.Hat.{mark_named, MarkAt, Marked}
use Rattle.judge.specs.File.{pattern_of}
use Rattle.judge.specs.Listed.{MarkTag, LastMark, Noted, TermPart}
use Rattle.judge.specs.CoverEntries.{sub_at, On, Painted, Raised, MarkOver, MarkUnder, MarkAround, LayingAround}
use Rattle.std.proofs.lemmas.Bool.{or_cases}
use Rattle.terms.proofs.AnswerLaws.{says-yes}
use Rattle.judge.proofs.Covering.Flags.{yes-says, painted-raised, raised-none, raised-as, raised-twice}
use Rattle.judge.proofs.Covering.Marks.{mark-marked, mark-pair, mark-wrapped, from-reads}

-- ---- terms

-- A mark around is a mark.
pub around-marked : {p u : Term Variable} {h k : ℕ} → MarkAround p u h k → Marked p
around-marked (inl m) = record { name = m.name; place = m.place; stands = m.stands }
around-marked (inr m) = record { name = m.name; place = m.place ++ m.rest; stands = m.stands }

-- Any mark lies at or below the root.
root-under : {p : Term Variable} (u : Term Variable) {h k : ℕ} → Marked p → k ≡ h → MarkAround p u h k
unfolding subterm_at entry_at
root-under u m is = inr (record { name = m.name; place = []; rest = m.place; subterm = u; stands = m.stands; under = refl; entry = omega arith })

-- A marked variable: all entries of the term are at or below it.
marked-around : (x : Range × ℕ) (u : Term Variable) {h k : ℕ} → MarkAround (variable (mark_named x)) u h k ↔ ((h ≤ k) × (k < h + size u))
unfolding subterm_at entry_at
marked-around x u {h} {k} = (to, λ w. inl ((mark-marked {h = h} {k = k} x u).1 w))
  where
    root : (q r : Place) {n : Range × ℕ} → MarkAt (variable (mark_named x)) (q ++ r) n → h + entry_at q u ≡ k → (h ≤ k) × (k < h + size u)
    root [] r e is = (omega arith, omega (arith, size-positive u))
    root (left ∷ q) r e is = absurd (none-ne-some _ e)
    root (right ∷ q) r e is = absurd (none-ne-some _ e)
    root (inside ∷ q) r e is = absurd (none-ne-some _ e)

    to : MarkAround (variable (mark_named x)) u h k → (h ≤ k) × (k < h + size u)
    to (inl m) = (mark-marked {h = h} {k = k} x u).0 m
    to (inr m) = root m.place m.rest m.stands m.entry

-- Both terms have a place in the same direction: both are pairs, or both are wrapped.
data SameShape (p u : Term Variable) : Type 0 where
  pairs : {a b c d : Term Variable} → p ≡ pair a b → u ≡ pair c d → SameShape p u
  wrappers : {v w : Wrapping} {i j : ℕ} {a c : Term Variable} → p ≡ wrapped v i a → u ≡ wrapped w j c → SameShape p u

pair-no-wrapper : (t : Turn) (q r : Place) (a b c : Term Variable) (w : Wrapping) (j : ℕ) {s x : Term Variable} → subterm_at (t ∷ q) (pair a b) ≡ some s
    → subterm_at (t ∷ r) (wrapped w j c) ≡ some x → ⊥
unfolding subterm_at
pair-no-wrapper left q r a b c w j e f = none-ne-some _ f
pair-no-wrapper right q r a b c w j e f = none-ne-some _ f
pair-no-wrapper inside q r a b c w j e f = none-ne-some _ e

same_shape : (t : Turn) (q r : Place) (p u : Term Variable) {s x : Term Variable} → subterm_at (t ∷ q) p ≡ some s → subterm_at (t ∷ r) u ≡ some x → SameShape p u
same_shape t q r p u e f = go (composite t q p e) (composite t r u f)
  where
    go : Composite p → Composite u → SameShape p u
    go (is_pair a) (is_pair b) = pairs a b
    go (is_wrapped a) (is_wrapped b) = wrappers a b
    go (is_pair a) (is_wrapped b) = absurd (pair-no-wrapper t q r _ _ _ _ _ (rw a at e) (rw b at f))
    go (is_wrapped a) (is_pair b) = absurd (pair-no-wrapper t r q _ _ _ _ _ (rw b at f) (rw a at e))

-- Other symbols: only the root has marks below it.
differ-around : {p u : Term Variable} {h k : ℕ} → ((x : Range × ℕ) → ¬ (p ≡ variable (mark_named x))) → ¬ SameShape p u
    → MarkAround p u h k ↔ (Marked p × (k ≡ h))
unfolding subterm_at entry_at
differ-around {p} {u} {h} {k} no-mark other = (λ m. (around-marked m, root m), λ w. root-under u w.0 w.1)
  where
    over : (q : Place) {n : Range × ℕ} {s : Term Variable} → MarkAt p q n → subterm_at q u ≡ some s → k ≡ h
    over [] {n} e f = absurd (no-mark n (let same : p ≡ variable (mark_named n) = cc in same))
    over (t ∷ q) e f = absurd (other (same_shape t q q p u e f))

    under : (q r : Place) {n : Range × ℕ} {s : Term Variable} → MarkAt p (q ++ r) n → subterm_at q u ≡ some s → h + entry_at q u ≡ k → k ≡ h
    under [] r e f is = omega arith
    under (t ∷ q) r e f is = absurd (other (same_shape t (q ++ r) q p u e f))

    root : MarkAround p u h k → k ≡ h
    root (inl m) = over m.place m.stands m.under
    root (inr m) = under m.place m.rest m.stands m.under m.entry

-- A mark below, one turn further down.
turned : (t : Turn) {at h k : ℕ} {p u below over : Term Variable} → ((q : Place) → subterm_at (t ∷ q) p ≡ subterm_at q below)
    → ((q : Place) → subterm_at (t ∷ q) u ≡ subterm_at q over) → ((q : Place) → at + entry_at q over ≡ h + entry_at (t ∷ q) u)
    → MarkUnder below over at k → MarkUnder p u h k
turned t stands under number m = record {
  name = m.name;
  place = t ∷ m.place;
  rest = m.rest;
  subterm = m.subterm;
  stands = stands (m.place ++ m.rest) ∙ m.stands;
  under = under m.place ∙ m.under;
  entry = sym (number m.place) ∙ m.entry;
}

module _ {h k : ℕ} where
  pair-around : (a b c d : Term Variable) → MarkAround (pair a b) (pair c d) h k
      ↔ ((MarkAround a c (h + 1) k ⊎ MarkAround b d (h + 1 + size c) k) ⊎ (Marked (pair a b) × (k ≡ h)))
  unfolding subterm_at entry_at
  pair-around a b c d = (to, back)
    where
      Parts : Type 0
      Parts = (MarkAround a c (h + 1) k ⊎ MarkAround b d (h + 1 + size c) k) ⊎ (Marked (pair a b) × (k ≡ h))

      over : MarkOver a c (h + 1) k ⊎ MarkOver b d (h + 1 + size c) k → Parts
      over (inl m) = inl (inl (inl m))
      over (inr m) = inl (inr (inl m))

      under : (q r : Place) {n : Range × ℕ} {s : Term Variable} → MarkAt (pair a b) (q ++ r) n → subterm_at q (pair c d) ≡ some s → h + entry_at q (pair c d) ≡ k → Parts
      under [] r e f is = inr (record { name = _; place = r; stands = e }, omega arith)
      under (left ∷ q) r e f is = inl (inl (inr (record { name = _; place = q; rest = r; subterm = _; stands = e; under = f; entry = omega arith })))
      under (right ∷ q) r e f is = inl (inr (inr (record { name = _; place = q; rest = r; subterm = _; stands = e; under = f; entry = omega arith })))
      under (inside ∷ q) r e f is = absurd (none-ne-some _ f)

      to : MarkAround (pair a b) (pair c d) h k → Parts
      to (inl m) = over ((mark-pair a b c d).0 m)
      to (inr m) = under m.place m.rest m.stands m.under m.entry

      back : Parts → MarkAround (pair a b) (pair c d) h k
      back (inl (inl (inl m))) = inl ((mark-pair a b c d).1 (inl m))
      back (inl (inr (inl m))) = inl ((mark-pair a b c d).1 (inr m))
      back (inl (inl (inr m))) = inr (turned left (λ q. refl) (λ q. refl) (λ q. omega arith) m)
      back (inl (inr (inr m))) = inr (turned right (λ q. refl) (λ q. refl) (λ q. omega arith) m)
      back (inr w) = root-under (pair c d) w.0 w.1

  wrapped-around : (v w : Wrapping) (i j : ℕ) (a c : Term Variable) → MarkAround (wrapped v i a) (wrapped w j c) h k
      ↔ (MarkAround a c (h + 1) k ⊎ (Marked (wrapped v i a) × (k ≡ h)))
  unfolding subterm_at entry_at
  wrapped-around v w i j a c = (to, back)
    where
      Parts : Type 0
      Parts = MarkAround a c (h + 1) k ⊎ (Marked (wrapped v i a) × (k ≡ h))

      under : (q r : Place) {n : Range × ℕ} {s : Term Variable} → MarkAt (wrapped v i a) (q ++ r) n → subterm_at q (wrapped w j c) ≡ some s
          → h + entry_at q (wrapped w j c) ≡ k → Parts
      under [] r e f is = inr (record { name = _; place = r; stands = e }, omega arith)
      under (inside ∷ q) r e f is = inl (inr (record { name = _; place = q; rest = r; subterm = _; stands = e; under = f; entry = omega arith }))
      under (left ∷ q) r e f is = absurd (none-ne-some _ f)
      under (right ∷ q) r e f is = absurd (none-ne-some _ f)

      to : MarkAround (wrapped v i a) (wrapped w j c) h k → Parts
      to (inl m) = inl (inl ((mark-wrapped v w i j a c).0 m))
      to (inr m) = under m.place m.rest m.stands m.under m.entry

      back : Parts → MarkAround (wrapped v i a) (wrapped w j c) h k
      back (inl (inl m)) = inl ((mark-wrapped v w i j a c).1 m)
      back (inl (inr m)) = inr (turned inside (λ q. refl) (λ q. refl) (λ q. omega arith) m)
      back (inr m) = root-under (wrapped w j c) m.0 m.1

-- Which terms are marked, by their symbols.
marked-pair : {a b : Term Variable} → Marked (pair a b) ↔ (Marked a ⊎ Marked b)
unfolding subterm_at
marked-pair {a} {b} = (λ m. to m.place m.stands, back)
  where
    to : (q : Place) {n : Range × ℕ} → MarkAt (pair a b) q n → Marked a ⊎ Marked b
    to [] e = let z : ◌≡◌ {A = ℕ} 0 1 = cc in absurd (omega arith)
    to (left ∷ q) e = inl (record { name = _; place = q; stands = e })
    to (right ∷ q) e = inr (record { name = _; place = q; stands = e })
    to (inside ∷ q) e = absurd (none-ne-some _ e)

    back : Marked a ⊎ Marked b → Marked (pair a b)
    back (inl m) = record { name = m.name; place = left ∷ m.place; stands = m.stands }
    back (inr m) = record { name = m.name; place = right ∷ m.place; stands = m.stands }

marked-wrapped : {w : Wrapping} {i : ℕ} {a : Term Variable} → Marked (wrapped w i a) ↔ Marked a
unfolding subterm_at
marked-wrapped {w} {i} {a} = (λ m. to m.place m.stands, λ m. record { name = m.name; place = inside ∷ m.place; stands = m.stands })
  where
    to : (q : Place) {n : Range × ℕ} → MarkAt (wrapped w i a) q n → Marked a
    to [] e = let z : ◌≡◌ {A = ℕ} 0 1 = cc in absurd (omega arith)
    to (inside ∷ q) e = record { name = _; place = q; stands = e }
    to (left ∷ q) e = absurd (none-ne-some _ e)
    to (right ∷ q) e = absurd (none-ne-some _ e)

marked-leaf : (t : Term Variable) → ¬ Composite t → ((x : Range × ℕ) → ¬ (t ≡ variable (mark_named x))) → ¬ Marked t
unfolding subterm_at
marked-leaf t leaf no-mark m = go m.place m.stands
  where
    go : (q : Place) {n : Range × ℕ} → MarkAt t q n → ⊥
    go [] {n} e = no-mark n (let same : t ≡ variable (mark_named n) = cc in same)
    go (a ∷ q) e = leaf (composite a q t e)

-- ---- entries

-- The root by its tag.
module _ (e : List ℕ) (h : ℕ) (b : Begins (from (4 * h) e)) where
  marked-root : MarkedTag (get_or e (4 * h) 0) → (x : Range × ℕ) × (sub_at e h ≡ variable (mark_named x))
  unfolding sort_tag
  marked-root tag = go (first b.reads)
    where
      is-tag : MarkedTag (tag_at (from (4 * h) e))
      is-tag = rw (tag-from e h) at tag

      go : First (tag_at (from (4 * h) e)) (value_at (from (4 * h) e)) (drop 4 (from (4 * h) e)) (b.term ∷ b.others) → (x : Range × ℕ) × (sub_at e h ≡ variable (mark_named x))
      go (first_variable {s = s} g v n q k) = let is = marked-sort s g is-tag in ((is.0, _), term_of-reads (rw is.1 at (rw q at b.reads)))
      go (first_atom g q k) = absurd (omega (arith, marked-variable is-tag))
      go (first_pair g n q k) = absurd (omega (arith, marked-variable is-tag))
      go (first_wrapped {w = w} i g q k) = absurd (omega (arith, wrapping-symbol w i, marked-variable is-tag))

  root-tag : {t : Term Variable} → sub_at e h ≡ t → (n : ℕ) → (Reads (from (4 * h) e) (t ∷ b.others) → tag_at (from (4 * h) e) ≡ n) → get_or e (4 * h) 0 ≡ n
  root-tag is n tag = tag-from e h ∙ tag (term-reads b is)

  marked-tag : {x : Range × ℕ} → sub_at e h ≡ variable (mark_named x) → MarkedTag (get_or e (4 * h) 0)
  unfolding sort_tag
  marked-tag {x} is = mark-tagged x.0 (root-tag is (sort_tag (sort marked x.0)) (λ r. (reads-variable r).0))

  pair-tag : {t u : Term Variable} → sub_at e h ≡ pair t u → get_or e (4 * h) 0 ≡ pair_tag
  pair-tag is = root-tag is pair_tag (λ r. (reads-pair r).0)

  wrapped-tag : {w : Wrapping} {i : ℕ} {t : Term Variable} → sub_at e h ≡ wrapped w i t → WrapperTag (get_or e (4 * h) 0)
  wrapped-tag {w} is = record { wrapping = w; is = root-tag is (wrapping_tag w) (λ r. (reads-wrapped r).0) }

  no-composite : ¬ (get_or e (4 * h) 0 ≡ pair_tag) → ¬ WrapperTag (get_or e (4 * h) 0) → ¬ Composite (sub_at e h)
  no-composite no-pair no-wrapper (is_pair is) = no-pair (pair-tag is)
  no-composite no-pair no-wrapper (is_wrapped is) = no-wrapper (wrapped-tag is)

-- A pair at entry h, and something around a term.
record PairAt (e : List ℕ) (h : ℕ) : Type 0 where
  term : sub_at e h ≡ pair (sub_at e (h + 1)) (sub_at e (h + 1 + size (sub_at e (h + 1))))
  left-begins : Begins (from (4 * (h + 1)) e)
  right-begins : Begins (from (4 * (h + 1 + size (sub_at e (h + 1)))) e)
  left-inside : 4 * (h + 1) < length e
  right-inside : 4 * (h + 1 + size (sub_at e (h + 1))) < length e

drop-reads : (e : List ℕ) (n : ℕ) {l : List (Term Variable)} → Reads (from n e) l → Reads (drop n e) l
drop-reads e n r = rw part_to_end at r

pair-at : (e : List ℕ) (h : ℕ) → Begins (from (4 * h) e) → get_or e (4 * h) 0 ≡ pair_tag → PairAt e h
pair-at e h b tag =
    let f = pair-first b (sym (tag-from e h) ∙ tag) in
    let i = pair-in e h (drop-reads e (4 * h) f.whole) in
    let left_is : sub_at e (h + 1) ≡ f.left = term_of-reads (from-reads e (4 * (h + 1)) i.left) in
    let to : right_in e h ≡ h + 1 + size (sub_at e (h + 1)) = right-in e h i.left ∙ ap (λ (x : Term Variable). h + 1 + size x) (sym left_is) in
    let right-reads : Reads (drop (4 * (h + 1 + size (sub_at e (h + 1)))) e) (f.right ∷ f.others) = rw to at i.right in
    let there = from-reads e (4 * (h + 1 + size (sub_at e (h + 1)))) right-reads in
    let right_is : sub_at e (h + 1 + size (sub_at e (h + 1))) ≡ f.right = term_of-reads there in
    let whole : sub_at e h ≡ pair f.left f.right = term_of-reads f.whole in
    record {
      term = whole ∙ ap (λ (x : Term Variable). pair x f.right) (sym left_is) ∙ ap (λ (x : Term Variable). pair (sub_at e (h + 1)) x) (sym right_is);
      left-begins = begins (from-reads e (4 * (h + 1)) i.left);
      right-begins = begins there;
      left-inside = i.left-fits;
      right-inside = let fits = i.right-fits in omega arith;
    }

record WrappedAt (e : List ℕ) (h : ℕ) : Type 0 where
  wrapping : Wrapping
  key : ℕ
  term : sub_at e h ≡ wrapped wrapping key (sub_at e (h + 1))
  content-begins : Begins (from (4 * (h + 1)) e)
  content-inside : 4 * (h + 1) < length e

wrapped-at : (e : List ℕ) (h : ℕ) → Begins (from (4 * h) e) → WrapperTag (get_or e (4 * h) 0) → WrappedAt e h
wrapped-at e h b one =
    let f = wrapped-first b one.wrapping (sym (tag-from e h) ∙ one.is) in
    let i = wrapped-in e h (drop-reads e (4 * h) f.whole) in
    let content-is : sub_at e (h + 1) ≡ f.content = term_of-reads (from-reads e (4 * (h + 1)) i.content) in
    let whole = term_of-reads f.whole in
    record {
      wrapping = one.wrapping;
      key = _;
      term = whole ∙ ap (λ (x : Term Variable). wrapped one.wrapping (value_at (from (4 * h) e)) x) (sym content-is);
      content-begins = begins (from-reads e (4 * (h + 1)) i.content);
      content-inside = i.content-fits;
    }

-- The marks of a term are found by their tags.
pub marks-by-tags : {e : List ℕ} {i n : ℕ} → Begins (from (4 * i) e) → n ≡ i + size (sub_at e i) → MarkTag e i n ↔ Marked (sub_at e i)
marks-by-tags {e} {i} {n} b is = (to, back)
  where
    reads : Reads (from (4 * i) e) (sub_at e i ∷ b.others)
    reads = term-reads b refl

    there : (j k : ℕ) → i + j ≡ k → from (4 * j) (from (4 * i) e) ≡ from (4 * k) e
    there j k sum = let far : 4 * i + 4 * j ≡ 4 * k = omega arith in from-from (4 * j) (4 * i) e ∙ ap (λ (m : ℕ). from m e) far

    to : MarkTag e i n → Marked (sub_at e i)
    to w =
        let low = w.above in let high = w.below in
        let q = spotted (sub_at e i) (w.number - i) (omega arith) in
        let at = there (w.number - i) w.number (omega arith) in
        let same : sub_at e w.number ≡ q.subterm = ap term_of (sym at) ∙ subterm-at q.is reads in
        let begin : Begins (from (4 * w.number) e) = rw at at (placed-begins q.is reads) in
        let x = marked-root e w.number begin w.tag in
        record { name = x.0; place = q.place; stands = q.is.stands ∙ ap some (sym same ∙ x.1) }

    back : Marked (sub_at e i) → MarkTag e i n
    back m =
        let q = placed m.place (sub_at e i) m.stands in
        let j = entry_at m.place (sub_at e i) in
        let at = there j (i + j) refl in
        let same : sub_at e (i + j) ≡ variable (mark_named m.name) = ap term_of (sym at) ∙ subterm-at q reads in
        let begin : Begins (from (4 * (i + j)) e) = rw at at (placed-begins q reads) in
        record { number = i + j; above = omega arith; below = omega (arith, placed-within q); tag = marked-tag e (i + j) begin same }

-- A bad block, by where its last mark stands.
pub bad-noted : {file t : List ℕ} {i v : ℕ} → kind_of (block_at file i) ≡ bad_kind → TermPart file i t → LastMark t v → Noted file i v
unfolding pattern_of
bad-noted {file} {t} {i} {v} is part last = record {
  marked = (λ some-mark. (is, rw term at (same.0 (found some-mark))), λ w z. none z (same.1 (rw term w.1)));
  behind = λ kind. rw part.part at last.behind;
}
  where
    start : from (4 * 0) t ≡ t
    start = from_start t

    term : sub_at t 0 ≡ pattern_of (block_at file i)
    term = ap term_of (start ∙ part.part)

    long : size (sub_at t 0) ≡ size (term_of t)
    long = ap (λ (q : List ℕ). size (term_of q)) start

    same : MarkTag t 0 (length t / 4) ↔ Marked (sub_at t 0)
    same = marks-by-tags {e = t} {i = 0} {n = length t / 4} (rw start part.term) (omega (arith, part.whole, long))

    found : ¬ (v ≡ 0) → MarkTag t 0 (length t / 4)
    found some-mark = let tag = last.here some-mark in record { number = v - 1; above = omega arith; below = omega (arith, marked-inside t (v - 1) tag, part.whole); tag = tag }

    none : v ≡ 0 → ¬ MarkTag t 0 (length t / 4)
    none z w = last.behind w.number (omega arith) w.tag

-- The flag of one entry, put on or as it is.
put-on-raised : {flags : List Bool} {h : ℕ} {P : Type 0} → length flags ≡ 64 → h < 64 → (r : Bool) → Says r P
    → Raised flags (set flags h (get_or flags h false || r)) (λ k. P × (k ≡ h))
put-on-raised {flags} {h} {P} long small r says = record {
  long = length-set flags h (get_or flags h false || r) ∙ long;
  on = λ k. (λ o. to k o (ℕ_discrete k h), λ w. back k w (ℕ_discrete k h));
}
  where
    here : get_or (set flags h (get_or flags h false || r)) h false ≡ (get_or flags h false || r)
    here = get_or-set_same flags h (get_or flags h false || r) false (omega arith)

    to : (k : ℕ) → On (set flags h (get_or flags h false || r)) k → Dec (k ≡ h) → On flags k ⊎ (P × (k ≡ h))
    to k o (no n) = inl (sym (get_or-set_other flags h k (get_or flags h false || r) false n) ∙ o)
    to k o (yes e) = go (or_cases (get_or flags h false) r (sym here ∙ rw e at o))
      where
        go : (get_or flags h false ≡ true) ⊎ (r ≡ true) → On flags k ⊎ (P × (k ≡ h))
        go (inl on) = inl (rw e on)
        go (inr one) = inr (says-yes r says one, e)

    left-on : (x : Bool) → x ≡ true → (x || r) ≡ true
    left-on true e = refl
    left-on false e = absurd (false≢true e)

    right-on : (x : Bool) → r ≡ true → (x || r) ≡ true
    right-on true e = refl
    right-on false e = e

    back : (k : ℕ) → On flags k ⊎ (P × (k ≡ h)) → Dec (k ≡ h) → On (set flags h (get_or flags h false || r)) k
    back k (inl o) (yes e) = rw (e, here) (left-on (get_or flags h false) (rw e at o))
    back k (inr w) (yes e) = rw (e, here) (right-on (get_or flags h false) (yes-says r says w.0))
    back k (inl o) (no n) = get_or-set_other flags h k (get_or flags h false || r) false n ∙ o
    back k (inr w) (no n) = absurd (n w.1)

-- The flags that are left are these.
pub raised-to : {P : ℕ → Type 0} {first left new : List Bool} → new ≡ left → Raised first left P → Raised first new P
raised-to is r = rw is r

-- The steps of the walk that lays a pattern around the term at entry h.
module _ {p y e z : List ℕ} {last i h : ℕ} (l : LayingAround p y last i e z h) where
  pub pattern-room : 4 * (i + 1) ≤ length p
  pattern-room = let room = l.pattern.room in let inside = l.pattern_inside in omega (arith, from-length (4 * i) p)

  pub term-room : 4 * (h + 1) ≤ length e
  term-room = let room = l.term.room in let inside = l.inside in omega (arith, from-length (4 * h) e)

  -- The tags of both are among those there are.
  pub pattern-tag : get_or p (4 * i) 0 ≤ signature_tag
  pattern-tag = rw (tag-from p i) (begins-tag l.pattern)

  pub term-tag : get_or e (4 * h) 0 ≤ signature_tag
  term-tag = rw (tag-from e h) (begins-tag l.term)

  pub laid_end : {end : ℕ} → end ≡ h + size (sub_at e h) → (h ≤ end) × (end ≤ 64)
  laid_end is =
      let room = fits (sub_at e h) (term-reads l.term refl) in let short = l.short in
      (omega arith, omega (arith, from-length (4 * h) e, term-room))

  -- The answer is this one.
  pub found_as : {answer r : Bool} → answer ≡ r → Says r (Marked (sub_at p i)) → Says answer (Marked (sub_at p i))
  found_as is found = rw is found

  flag-inside : h < 64
  flag-inside = let inside = l.inside in let short = l.short in omega arith

  -- What a look through the tags tells of the pattern's part.
  pub marks-told : {m : ℕ} → m ≡ get_or y i 0 → (r : Bool) → Says r (MarkTag p i (i + m)) → Says r (Marked (sub_at p i))
  marks-told is r says =
      let same = marks-by-tags l.pattern (ap (λ (n : ℕ). i + n) (size-at i l.pattern_sizes l.pattern is).0) in
      says_same r same.0 same.1 says

  no-mark-root : ¬ MarkedTag (get_or p (4 * i) 0) → (x : Range × ℕ) → ¬ (sub_at p i ≡ variable (mark_named x))
  no-mark-root off x is = off (marked-tag p i l.pattern is)

  -- A mark.
  pub mark-found : MarkedTag (get_or p (4 * i) 0) → Marked (sub_at p i)
  unfolding subterm_at
  mark-found tag = let x = marked-root p i l.pattern tag in record { name = x.0; place = []; stands = ap some x.1 }

  pub mark-laid : MarkedTag (get_or p (4 * i) 0) → {a b : List Bool} {end : ℕ} → end ≡ h + size (sub_at e h) → Painted a b h end true
      → Raised a b (MarkAround (sub_at p i) (sub_at e h) h)
  mark-laid tag {end = end} is painted =
      let x = marked-root p i l.pattern tag in
      raised-as (painted-raised painted) (λ k. (let m = marked-around x.0 (sub_at e h) {h = h} {k = k} in rw (x.1, is) (m.1, m.0)))

  -- Other symbols.
  pub around-differ : ¬ MarkedTag (get_or p (4 * i) 0) → ¬ (children_of (get_or p (4 * i) 0) ≡ children_of (get_or e (4 * h) 0)) → {a : List Bool} → length a ≡ 64 → (r : Bool)
      → Says r (Marked (sub_at p i)) → Raised a (set a h (get_or a h false || r)) (MarkAround (sub_at p i) (sub_at e h) h)
  around-differ off other long r says =
      raised-as (put-on-raised long flag-inside r says) (λ k. (let m = differ-around {h = h} {k = k} (no-mark-root off) shape in (m.1, m.0)))
    where
      shape : ¬ SameShape (sub_at p i) (sub_at e h)
      shape (pairs a b) = other (sym (two-children (pair-tag p i l.pattern a)) ∙ two-children (pair-tag e h l.term b))
      shape (wrappers a b) = other (sym (one-child (wrapped-tag p i l.pattern a)) ∙ one-child (wrapped-tag e h l.term b))

  -- Neither a mark nor anything below.
  pub no-mark-found : ¬ MarkedTag (get_or p (4 * i) 0) → ¬ (get_or p (4 * i) 0 ≡ pair_tag) → ¬ WrapperTag (get_or p (4 * i) 0) → ¬ Marked (sub_at p i)
  no-mark-found off no-pair no-wrapper = marked-leaf (sub_at p i) (no-composite p i l.pattern no-pair no-wrapper) (no-mark-root off)

  pub none-behind : last ≤ i → ¬ Marked (sub_at p i)
  none-behind past m = let w = (marks-by-tags {e = p} {i = i} l.pattern refl).1 m in let low = w.above in l.behind w.number (omega arith) w.tag

  pub none-laid : ¬ Marked (sub_at p i) → {a : List Bool} → length a ≡ 64 → Raised a a (MarkAround (sub_at p i) (sub_at e h) h)
  none-laid none long = raised-none long (λ k m. none (around-marked m))

  -- The next part on both sides.
  next : {j k : ℕ} → Begins (from (4 * j) p) → Begins (from (4 * k) e) → 4 * j < length p → 4 * k < length e → LayingAround p y last j e z k
  next b c pattern-room room = record {
    pattern = b;
    term = c;
    pattern_inside = pattern-room;
    inside = room;
    pattern_short = l.pattern_short;
    short = l.short;
    pattern_sizes = l.pattern_sizes;
    behind = l.behind;
    sizes = l.sizes;
  }

  -- Pairs on both sides.
  module _ (pattern-tag : get_or p (4 * i) 0 ≡ pair_tag) (same : children_of (get_or p (4 * i) 0) ≡ children_of (get_or e (4 * h) 0)) where
    pattern-pair : PairAt p i
    pattern-pair = pair-at p i l.pattern pattern-tag

    term-pair : PairAt e h
    term-pair = pair-at e h l.term (two-tag (get_or e (4 * h) 0) (sym same ∙ sym (two-children pattern-tag)))

    pub left-around : LayingAround p y last (i + 1) e z (h + 1)
    left-around = next pattern-pair.left-begins term-pair.left-begins pattern-pair.left-inside term-pair.left-inside

    module _ {m n : ℕ} (past : m ≡ get_or y (i + 1) 0) (right-past : n ≡ get_or z (h + 1) 0) where
      past_is : m ≡ size (sub_at p (i + 1))
      past_is = (size-at (i + 1) l.pattern_sizes pattern-pair.left-begins past).0

      right_is : n ≡ size (sub_at e (h + 1))
      right_is = (size-at (h + 1) l.sizes term-pair.left-begins right-past).0

      pub right-around : LayingAround p y last (i + 1 + m) e z (h + 1 + n)
      right-around = rw (past_is, right_is) (next pattern-pair.right-begins term-pair.right-begins pattern-pair.right-inside term-pair.right-inside)

      pattern-whole : sub_at p i ≡ pair (sub_at p (i + 1)) (sub_at p (i + 1 + m))
      pattern-whole = rw past_is pattern-pair.term

      term-whole : sub_at e h ≡ pair (sub_at e (h + 1)) (sub_at e (h + 1 + n))
      term-whole = rw right_is term-pair.term

      pub pair-marked : (a b : Bool) → Says a (Marked (sub_at p (i + 1))) → Says b (Marked (sub_at p (i + 1 + m))) → Says (a || b) (Marked (sub_at p i))
      pair-marked true b left-says right-says = rw pattern-whole (marked-pair.1 (inl left-says))
      pair-marked false b left-says right-says = rw pattern-whole (says_same b (λ w. marked-pair.1 (inr w)) (λ w. go (marked-pair.0 w)) right-says)
        where
          go : Marked (sub_at p (i + 1)) ⊎ Marked (sub_at p (i + 1 + m)) → Marked (sub_at p (i + 1 + m))
          go (inl w) = absurd (left-says w)
          go (inr w) = w

      pub pair-laid-around : {a b c : List Bool} → Raised a b (MarkAround (sub_at p (i + 1)) (sub_at e (h + 1)) (h + 1))
          → Raised b c (MarkAround (sub_at p (i + 1 + m)) (sub_at e (h + 1 + n)) (h + 1 + n)) → (r : Bool) → Says r (Marked (sub_at p i))
          → Raised a (set c h (get_or c h false || r)) (MarkAround (sub_at p i) (sub_at e h) h)
      pair-laid-around r s t says = raised-as (raised-twice (raised-twice r s) (put-on-raised s.long flag-inside t says)) same_flags
        where
          same_flags : (k : ℕ) → ((MarkAround (sub_at p (i + 1)) (sub_at e (h + 1)) (h + 1) k ⊎ MarkAround (sub_at p (i + 1 + m)) (sub_at e (h + 1 + n)) (h + 1 + n) k)
              ⊎ (Marked (sub_at p i) × (k ≡ h))) ↔ MarkAround (sub_at p i) (sub_at e h) h k
          same_flags k =
              let w : MarkAround (pair (sub_at p (i + 1)) (sub_at p (i + 1 + m))) (pair (sub_at e (h + 1)) (sub_at e (h + 1 + n))) h k
              ↔ ((MarkAround (sub_at p (i + 1)) (sub_at e (h + 1)) (h + 1) k ⊎ MarkAround (sub_at p (i + 1 + m)) (sub_at e (h + 1 + n)) (h + 1 + n) k)
              ⊎ (Marked (pair (sub_at p (i + 1)) (sub_at p (i + 1 + m))) × (k ≡ h))) =
              rw right_is (pair-around {h = h} {k = k} (sub_at p (i + 1)) (sub_at p (i + 1 + m)) (sub_at e (h + 1)) (sub_at e (h + 1 + size (sub_at e (h + 1))))) in
              rw (pattern-whole, term-whole) (w.1, w.0)

  -- Something around a term on both sides, on each its own.
  module _ (pattern-tag : WrapperTag (get_or p (4 * i) 0)) (same : children_of (get_or p (4 * i) 0) ≡ children_of (get_or e (4 * h) 0)) where
    pattern-wrapped : WrappedAt p i
    pattern-wrapped = wrapped-at p i l.pattern pattern-tag

    term-wrapped : WrappedAt e h
    term-wrapped = wrapped-at e h l.term (one_tag (get_or e (4 * h) 0) (sym same ∙ sym (one-child pattern-tag)))

    pub content-around : LayingAround p y last (i + 1) e z (h + 1)
    content-around = next pattern-wrapped.content-begins term-wrapped.content-begins pattern-wrapped.content-inside term-wrapped.content-inside

    pub wrapped-marked : (b : Bool) → Says b (Marked (sub_at p (i + 1))) → Says b (Marked (sub_at p i))
    wrapped-marked b says =
        rw pattern-wrapped.term (says_same b (λ w. marked-wrapped.1 w) (λ w. marked-wrapped.0 w) says)

    pub wrapped-laid-around : {a b : List Bool} → Raised a b (MarkAround (sub_at p (i + 1)) (sub_at e (h + 1)) (h + 1)) → (r : Bool)
        → Says r (Marked (sub_at p i)) → Raised a (set b h (get_or b h false || r)) (MarkAround (sub_at p i) (sub_at e h) h)
    wrapped-laid-around r t says = raised-as (raised-twice r (put-on-raised r.long flag-inside t says)) (λ k. (
        let w = wrapped-around {h = h} {k = k} pattern-wrapped.wrapping term-wrapped.wrapping pattern-wrapped.key term-wrapped.key (sub_at p (i + 1)) (sub_at e (h + 1)) in
        rw (pattern-wrapped.term, term-wrapped.term) (w.1, w.0)))
