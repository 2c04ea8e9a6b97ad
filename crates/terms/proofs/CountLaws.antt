-- Laws of the count: how many terms are still to be read tells whether the entries are terms.
use mathlib.Core.Path.{◌≡◌, refl, sym, ap, ◌∙◌}
use mathlib.Core.Bool.{Bool, true, false}
use mathlib.Core.List.{List, [], ◌∷◌}
use mathlib.Core.Option.{Option, none, some}
use Prim.Native.Nat.{ℕ, zero, suc, ◌+◌, ◌*◌, ◌-◌, ◌/◌, ◌≤◌, ◌<◌}
use native.Mathlib.Omega.{arith}
use native.Mathlib.Numerals.{add-one}
use lib.Dec.{ltb, eqb}
use lib.ListN.{length, get_or, take, set, length-take, drop_of_length-le}
use lib.Seq.{get_or-take, take_all, take-suc, take-suc-set, slice, slice-cons}
use Rattle.terms.specs.Term.{Term, variable, atom, pair, Sort, Variable, named, wrapped}
use Rattle.terms.specs.Tag.{signature_tag, sort_tag, sort-range, variables, wrapping-last, Tagged, an_atom, a_pair, a_wrapping, a_variable, no_tag, tagged, children_of}
use Rattle.terms.specs.Entry.{Symbol, atom_symbol, pair_symbol, wrapper_symbol, variable_symbol, tag_of, numbered, symbol_by, symbol_of, before, before_all}
use Rattle.terms.specs.Entry.{with_zero, terms_of}
use Rattle.terms.specs.Each.{Each, none_left, one_more}
use Rattle.terms.specs.OneTerm.{OneTerm, HasSymbol}
use Rattle.terms.specs.Decisions.{Says, says_same}
use Rattle.terms.specs.Reading.{none≢some, never-empty, one-reads}
use Rattle.terms.specs.Count.{tags_of, SomeTags, are_terms}
use Rattle.terms.proofs.AnswerLaws.{says_eq}
use Rattle.terms.proofs.TagLaws.{sort-childless, wrapping-child}
use Rattle.terms.proofs.OneTermLaws.{reads-one}

-- The tag is the symbol's.
symbol-tag : (z tag value : ℕ) {s : Symbol} → with_zero z (symbol_of tag value) ≡ some s → tag_of s ≡ tag
unfolding with_zero symbol_of tag_of
symbol-tag (suc z) tag v e = absurd (none≢some _ e)
symbol-tag zero tag v {s} e = go (tagged tag) v e
  where
    variable-of : (σ : Sort) → tag ≡ sort_tag σ → (v : ℕ) (b : Bool) → numbered b (named σ v) ≡ some s → tag_of s ≡ tag
    variable-of σ g v true q = let same : s ≡ variable_symbol (named σ v) = cc in rw (same, g) refl
    variable-of σ g v false q = absurd (none≢some _ q)

    go : (w : Tagged tag) (v : ℕ) → symbol_by w v ≡ some s → tag_of s ≡ tag
    go (an_atom g) v e = let same : s ≡ atom_symbol v = cc in rw (same, g) refl
    go (a_pair g) zero e = let same : s ≡ pair_symbol = cc in rw (same, g) refl
    go (a_pair g) (suc v) e = absurd (none≢some _ e)
    go (a_wrapping w g) v e = let same : s ≡ wrapper_symbol w v = cc in rw (same, g) refl
    go (a_variable σ g) v e = variable-of σ g v (ltb v variables) e
    go (no_tag g) v e = absurd (none≢some _ e)

-- So many terms were read.
pub record Count (o : Option (List (Term Variable))) (need : ℕ) : Type 0 where
  pub terms : List (Term Variable)
  pub are : o ≡ some terms
  pub many : length terms ≡ need

-- A symbol before terms needs as many of them as it has children, and makes one of these.
count_down : (s : Symbol) (o : Option (List (Term Variable))) (need : ℕ) → Count (before_all (some s) o) (suc need) → Count o (need + children_of (tag_of s))
unfolding before_all before children_of tag_of
count_down s none need r = absurd (none≢some _ r.are)
count_down (atom_symbol a) (some l) need r =
    let c : length r.terms ≡ suc (length l) = cc in let d = r.many in record { terms = l; are = refl; many = omega arith }
count_down (variable_symbol (named s x)) (some l) need r =
    let c : length r.terms ≡ suc (length l) = cc in let d = r.many in record { terms = l; are = refl; many = omega (arith, sort-childless s) }
count_down pair_symbol (some []) need r = absurd (none≢some _ r.are)
count_down pair_symbol (some (t ∷ [])) need r = absurd (none≢some _ r.are)
count_down pair_symbol (some (t ∷ u ∷ l)) need r =
    let c : length r.terms ≡ suc (length l) = cc in let d = r.many in record { terms = t ∷ u ∷ l; are = refl; many = omega arith }
count_down (wrapper_symbol w k) (some []) need r = absurd (none≢some _ r.are)
count_down (wrapper_symbol w k) (some (t ∷ l)) need r =
    let c : length r.terms ≡ suc (length l) = cc in let d = r.many in record { terms = t ∷ l; are = refl; many = omega (arith, wrapping-child w) }

count-up : (s : Symbol) (o : Option (List (Term Variable))) (need : ℕ) → Count o (need + children_of (tag_of s)) → Count (before_all (some s) o) (suc need)
unfolding before_all before children_of tag_of
count-up s none need r = absurd (none≢some _ r.are)
count-up (atom_symbol a) (some l) need r =
    let c : length r.terms ≡ length l = cc in let d = r.many in record { terms = atom a ∷ l; are = refl; many = omega arith }
count-up (variable_symbol (named s x)) (some l) need r =
    let c : length r.terms ≡ length l = cc in
    let d = r.many in
    record { terms = variable (named s x) ∷ l; are = refl; many = omega (arith, sort-childless s) }
count-up pair_symbol (some []) need r =
    let c : length r.terms ≡ 0 = cc in let d = r.many in absurd (omega arith)
count-up pair_symbol (some (t ∷ [])) need r =
    let c : length r.terms ≡ 1 = cc in let d = r.many in absurd (omega arith)
count-up pair_symbol (some (t ∷ u ∷ l)) need r =
    let c : length r.terms ≡ suc (suc (length l)) = cc in let d = r.many in record { terms = pair t u ∷ l; are = refl; many = omega arith }
count-up (wrapper_symbol w k) (some []) need r =
    let c : length r.terms ≡ 0 = cc in let d = r.many in absurd (omega (arith, wrapping-child w))
count-up (wrapper_symbol w k) (some (t ∷ l)) need r =
    let c : length r.terms ≡ suc (length l) = cc in let d = r.many in record { terms = wrapped w k t ∷ l; are = refl; many = omega (arith, wrapping-child w) }

count-step : (s : Symbol) (o : Option (List (Term Variable))) (need k : ℕ) → children_of (tag_of s) ≡ k → (b : Bool) → Says b (Count o (need + k))
    → Says b (Count (before_all (some s) o) (suc need))
count-step s o need k is b says = says_same b (count-up s o need) (count_down s o need) (rw (← is) at says)

no-terms : (l : List (Term Variable)) → length l ≡ 0 → l ≡ []
no-terms [] e = refl
no-terms (t ∷ l) e = absurd (omega arith)

-- Entries that all have a symbol are so many terms if their tags are.
count-tags : {e : List ℕ} → Each HasSymbol e → (need : ℕ) → Says (are_terms (tags_of e) need) (Count (terms_of e) need)
unfolding terms_of tags_of are_terms
count-tags none_left need = says_same (eqb need 0) (λ z. record { terms = []; are = refl; many = sym z }) none_needed (says_eq need 0)
  where
    none_needed : Count (some []) need → need ≡ 0
    none_needed c = let z : length c.terms ≡ 0 = cc in let d = c.many in omega arith
count-tags (one_more p each) zero = λ c. never-empty _ _ (c.are ∙ ap some (no-terms c.terms c.many))
count-tags (one_more {tag} {zero_byte} {low} {high} {rest} p each) (suc need) =
    let is : children_of (tag_of p.symbol) ≡ children_of tag = ap children_of (symbol-tag zero_byte tag (low + 256 * high) p.is) in
    rw p.is (count-step p.symbol (terms_of rest) need (children_of tag) is (are_terms (tags_of rest) (need + children_of tag))
    (count-tags each (need + children_of tag)))

-- One term is one term still to come.
pub count-one : {e : List ℕ} → Each HasSymbol e → ((i : ℕ) → get_or e i 0 < 256) → {tags : List ℕ} → tags ≡ tags_of e
    → {b : Bool} → b ≡ are_terms tags 1 → Says b (OneTerm e)
count-one {e} each all same {b} is = says_same {P = Count (terms_of e) 1} b
    (λ c. reads-one (record { is = c.are ∙ ap some (single c.terms c.many).1 }) all)
    (λ o. record { terms = o.term ∷ []; are = (one-reads o).is; many = refl }) (rw (is, same) (count-tags each 1))
  where
    single : (l : List (Term Variable)) → length l ≡ 1 → (t : Term Variable) × (l ≡ t ∷ [])
    single [] e = absurd (omega arith)
    single (t ∷ []) e = (t, refl)
    single (t ∷ u ∷ l) e = absurd (omega arith)

-- The steps of the walk over the tags from `at` up to `count`.
module _ (tags : List ℕ) (at count : ℕ) where
  pub none-left-terms : (need : ℕ) → count ≤ at → eqb need 0 ≡ are_terms (slice at count tags) need
  unfolding are_terms
  none-left-terms need far = rw (drop_of_length-le (take count tags) {i = at} (omega (arith, length-take count tags)))

  module _ (inside : count ≤ length tags) (near : at < count) where
    pub none-needed-terms : {need : ℕ} → need ≡ 0 → false ≡ are_terms (slice at count tags) need
    unfolding are_terms
    none-needed-terms z = rw (z, slice-cons at count tags 0 near inside)

    pub next-terms : (need : ℕ) → (need ≡ 0 → ⊥) → {k : ℕ} → k ≡ children_of (get_or tags at 0) → {b : Bool}
        → b ≡ are_terms (slice (at + 1) count tags) (need - 1 + k) → b ≡ are_terms (slice at count tags) need
    unfolding are_terms
    next-terms zero some-need is e = absurd (some-need refl)
    next-terms (suc need) some-need {k} is e =
        let far : at + 1 ≡ suc at = omega arith in
        let left : suc need - 1 + k ≡ need + children_of (get_or tags at 0) = omega arith in
        rw (slice-cons at count tags 0 near inside) (rw (far, left) at e)

-- A tag stands at every fourth byte.
length-tags : (e : List ℕ) → length (tags_of e) ≡ length e / 4
unfolding tags_of
length-tags [] = refl
length-tags (a ∷ []) = refl
length-tags (a ∷ b ∷ []) = refl
length-tags (a ∷ b ∷ c ∷ []) = refl
length-tags (a ∷ b ∷ c ∷ d ∷ e) = let i = length-tags e in omega arith

tag_at_lem : (e : List ℕ) (k : ℕ) → k < length e / 4 → get_or (tags_of e) k 0 ≡ get_or e (4 * k) 0
unfolding tags_of
tag_at_lem [] k h = absurd (omega arith)
tag_at_lem (a ∷ []) k h = absurd (omega arith)
tag_at_lem (a ∷ b ∷ []) k h = absurd (omega arith)
tag_at_lem (a ∷ b ∷ c ∷ []) k h = absurd (omega arith)
tag_at_lem (a ∷ b ∷ c ∷ d ∷ e) zero h = refl
tag_at_lem (a ∷ b ∷ c ∷ d ∷ e) (suc k) h =
    let far : 4 * suc k ≡ suc (suc (suc (suc (4 * k)))) = omega arith in rw far (tag_at_lem e k (omega arith))

-- One turn of the loop that takes the tags, and its end.
pub tag-stored : (e tags : List ℕ) (k : ℕ) → k < length e / 4 → k < length tags → take k tags ≡ take k (tags_of e)
    → take (k + 1) (set tags k (get_or e (4 * k) 0)) ≡ take (k + 1) (tags_of e)
tag-stored e tags k inside room so_far = let far : k < length (tags_of e) = omega (arith, length-tags e) in
    rw (add-one, take-suc-set, so_far, take-suc (tags_of e) k 0, tag_at_lem e k inside)

pub tags-stored : (e tags : List ℕ) (k : ℕ) → k ≡ length e / 4 → take k tags ≡ take k (tags_of e) → take (length e / 4) tags ≡ tags_of e
tags-stored e tags k all so_far = rw (← all) (so_far ∙ take_all k (tags_of e) (omega (arith, length-tags e)))

-- The tag of a symbol is one of those there are, and so are those of entries that have one.
symbol-last : (s : Symbol) → tag_of s ≤ signature_tag
unfolding tag_of
symbol-last (atom_symbol a) = omega arith
symbol-last pair_symbol = omega arith
symbol-last (wrapper_symbol w k) = wrapping-last w refl
symbol-last (variable_symbol (named s x)) = omega (arith, sort-range s refl)

each_last : {e : List ℕ} → Each HasSymbol e → (k : ℕ) → k < length e / 4 → get_or (tags_of e) k 0 ≤ signature_tag
unfolding tags_of
each_last none_left k h = absurd (omega arith)
each_last (one_more {tag} {zero_byte} {low} {high} p each) zero h = rw (← symbol-tag zero_byte tag (low + 256 * high) p.is) (symbol-last p.symbol)
each_last (one_more p each) (suc k) h = each_last each k (omega arith)

pub some-tags : {e : List ℕ} (tags : List ℕ) → Each HasSymbol e → take (length e / 4) tags ≡ tags_of e → SomeTags tags (length e / 4)
some-tags {e} tags each are k h = rw (← get_or-take (length e / 4) tags k 0 h, are) (each_last each k h)
