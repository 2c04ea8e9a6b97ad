-- Laws of entries: what stands first, and what is left after it.
use mathlib.Core.Path.{◌≡◌, refl, sym, ap, ◌∙◌}
use mathlib.Core.List.{List, [], ◌∷◌}
use mathlib.Core.Option.{some}
use Prim.Native.Nat.{ℕ, zero, suc, ◌+◌, ◌*◌, ◌<◌, ◌≤◌, ◌-◌}
use native.Mathlib.Omega.{arith}
use lib.ListN.{get_or, length, drop, length-drop}
use lib.Seq.{drop-drop}
use borrow.Author.Rules.{part_to_end}
use Rattle.terms.specs.Term.{Term, variable, atom, pair, encrypted, Sort, Variable, named, wrapped, Wrapping, encryption, hash, signature}
use Rattle.terms.specs.Tag.{atom_tag, pair_tag, encryption_tag, sort_tag, variables, wrapping_tag, WrapperTag, wrapping-tag, wrapping-symbol, wrapping-last, sort-tag, sort-range, signature_tag}
use Rattle.terms.specs.Entry.{size, symbol_of, with_zero, terms_of, first_of, term_of, Reads, Begins, tag_at, value_at, from}
use Rattle.terms.specs.Reading.{First, first_atom, first_pair, first_wrapped, first_variable, none≢some, nothing_read, first, entry_zero, never-empty}

-- The tag of the entry that stands first is one of those there are.
pub begins-tag : {e : List ℕ} → Begins e → tag_at e ≤ signature_tag
begins-tag {e} b = go (first b.reads)
  where
    go : First (tag_at e) (value_at e) (drop 4 e) (b.term ∷ b.others) → tag_at e ≤ signature_tag
    go (first_atom g q k) = omega arith
    go (first_pair g n q k) = omega arith
    go (first_wrapped {w = w} i g q k) = wrapping-last w i
    go (first_variable {s = s} g v n q k) = omega (arith, sort-range s g)

-- The second byte of an entry is zero.
pub zero-byte : {e : List ℕ} {t : Term Variable} {l : List (Term Variable)} → Reads e (t ∷ l) → get_or e 1 0 ≡ 0
unfolding terms_of
zero-byte {e} {t} {l} r = go e r.is
  where
    go : (e : List ℕ) → terms_of e ≡ some (t ∷ l) → get_or e 1 0 ≡ 0
    go [] r = nothing_read r
    go (a ∷ []) r = absurd (none≢some _ r)
    go (a ∷ b ∷ []) r = absurd (none≢some _ r)
    go (a ∷ b ∷ c ∷ []) r = absurd (none≢some _ r)
    go (a ∷ b ∷ c ∷ d ∷ e) r = entry_zero b (symbol_of a (c + 256 * d)) (terms_of e) r

-- There is at least one entry.
pub four : {e : List ℕ} {t : Term Variable} {l : List (Term Variable)} → Reads e (t ∷ l) → 4 ≤ length e
unfolding terms_of
four {e} {t} {l} r = go e r.is
  where
    go : (e : List ℕ) → terms_of e ≡ some (t ∷ l) → 4 ≤ length e
    go [] r = nothing_read r
    go (a ∷ []) r = absurd (none≢some _ r)
    go (a ∷ b ∷ []) r = absurd (none≢some _ r)
    go (a ∷ b ∷ c ∷ []) r = absurd (none≢some _ r)
    go (a ∷ b ∷ c ∷ d ∷ e) r = omega arith

-- The term that the entries begin with.
pub term_of-reads : {e : List ℕ} {t : Term Variable} {l : List (Term Variable)} → Reads e (t ∷ l) → term_of e ≡ t
unfolding term_of
term_of-reads r = ap first_of r.is

pub term-reads : {e : List ℕ} {t : Term Variable} (b : Begins e) → term_of e ≡ t → Reads e (t ∷ b.others)
term-reads b is = let same = sym (term_of-reads b.reads) ∙ is in rw same at b.reads

-- Reading a term of a known shape: tag, value, and what is left.
module _ {e : List ℕ} {l : List (Term Variable)} where
  pub reads-atom : {a : ℕ} → Reads e (atom a ∷ l) → (tag_at e ≡ atom_tag) × (value_at e ≡ a) × Reads (drop 4 e) l
  reads-atom {a} r = go (first r)
    where
      go : First (tag_at e) (value_at e) (drop 4 e) (atom a ∷ l) → (tag_at e ≡ atom_tag) × (value_at e ≡ a) × Reads (drop 4 e) l
      go (first_atom {m} g q k) = let same : m ≡ l = cc in (g, cc, rw same at k)
      go (first_pair {t} {u} {m} g n q k) = let z : ◌≡◌ {A = ℕ} 0 1 = cc in absurd (omega arith)
      go (first_wrapped {t} {m} i g q k) = let z : ◌≡◌ {A = ℕ} 0 1 = cc in absurd (omega arith)
      go (first_variable g v n q k) = let z : ◌≡◌ {A = ℕ} 0 1 = cc in absurd (omega arith)

  pub reads-pair : {v w : Term Variable} → Reads e (pair v w ∷ l) → (tag_at e ≡ pair_tag) × (value_at e ≡ 0) × Reads (drop 4 e) (v ∷ w ∷ l)
  reads-pair {v} {w} r = go (first r)
    where
      go : First (tag_at e) (value_at e) (drop 4 e) (pair v w ∷ l) → (tag_at e ≡ pair_tag) × (value_at e ≡ 0) × Reads (drop 4 e) (v ∷ w ∷ l)
      go (first_atom {m} g q k) = let z : ◌≡◌ {A = ℕ} 0 1 = cc in absurd (omega arith)
      go (first_pair {t} {u} {m} g n q k) = let same : t ∷ u ∷ m ≡ v ∷ w ∷ l = cc in (g, n, rw same at k)
      go (first_wrapped {t} {m} i g q k) = let z : ◌≡◌ {A = ℕ} 0 1 = cc in absurd (omega arith)
      go (first_variable g v n q k) = let z : ◌≡◌ {A = ℕ} 0 1 = cc in absurd (omega arith)

  pub reads-wrapped : {w : Wrapping} {k0 : ℕ} {v : Term Variable} → Reads e (wrapped w k0 v ∷ l)
      → (tag_at e ≡ wrapping_tag w) × (value_at e ≡ k0) × Reads (drop 4 e) (v ∷ l)
  reads-wrapped {w} {k0} {v} r = go (first r)
    where
      go : First (tag_at e) (value_at e) (drop 4 e) (wrapped w k0 v ∷ l) → (tag_at e ≡ wrapping_tag w) × (value_at e ≡ k0) × Reads (drop 4 e) (v ∷ l)
      go (first_atom {m} g q k) = let z : ◌≡◌ {A = ℕ} 0 1 = cc in absurd (omega arith)
      go (first_pair {t} {u} {m} g n q k) = let z : ◌≡◌ {A = ℕ} 0 1 = cc in absurd (omega arith)
      go (first_wrapped {w = w'} {t = t} {m = m} i g q k) =
          let same : t ∷ m ≡ v ∷ l = cc in let around : w' ≡ w = cc in (rw around at i, cc, rw same at k)
      go (first_variable g v n q k) = let z : ◌≡◌ {A = ℕ} 0 1 = cc in absurd (omega arith)

  -- An encryption's tag is read.
  pub reads-encrypted : {k0 : ℕ} {v : Term Variable} → Reads e (encrypted k0 v ∷ l)
      → (tag_at e ≡ encryption_tag) × (value_at e ≡ k0) × Reads (drop 4 e) (v ∷ l)
  unfolding wrapping_tag
  reads-encrypted r = reads-wrapped r

  pub reads-variable : {s : Sort} {x : ℕ} → Reads e (variable (named s x) ∷ l)
      → (tag_at e ≡ sort_tag s) × (value_at e ≡ x) × (x < variables) × Reads (drop 4 e) l
  reads-variable {s} {x} r = go (first r)
    where
      go : First (tag_at e) (value_at e) (drop 4 e) (variable (named s x) ∷ l)
          → (tag_at e ≡ sort_tag s) × (value_at e ≡ x) × (x < variables) × Reads (drop 4 e) l
      go (first_atom {m} g q k) = let z : ◌≡◌ {A = ℕ} 0 1 = cc in absurd (omega arith)
      go (first_pair {t} {u} {m} g n q k) = let z : ◌≡◌ {A = ℕ} 0 1 = cc in absurd (omega arith)
      go (first_wrapped {t} {m} i g q k) = let z : ◌≡◌ {A = ℕ} 0 1 = cc in absurd (omega arith)
      go (first_variable {s = s'} {m = m} g v n q k) =
          let same : m ≡ l = cc in
          let number : value_at e ≡ x = cc in
          let sort : s' ≡ s = cc in
          (rw sort at g, number, rw number at n, rw same at k)

-- Past a term stand the others.
pub past : (t : Term Variable) {l : List (Term Variable)} {e : List ℕ} → Reads e (t ∷ l) → Reads (drop (4 * size t) e) l
unfolding size
past (variable (named s x)) r = (reads-variable r).3
past (atom a) r = (reads-atom r).2
past (pair t u) {l} {e} r =
    let right : Reads (drop (4 * size u) (drop (4 * size t) (drop 4 e))) l = past u (past t (reads-pair r).2) in
    let far : 4 + (4 * size t + 4 * size u) ≡ 4 * (1 + (size t + size u)) = omega arith in
    rw (drop-drop, drop-drop, far) at right
past (wrapped w k t) {l} {e} r =
    let below : Reads (drop (4 * size t) (drop 4 e)) l = past t (reads-wrapped r).2 in
    let far : 4 + 4 * size t ≡ 4 * (1 + size t) = omega arith in
    rw (drop-drop, far) at below

-- A term's entries fit.
pub fits : (t : Term Variable) {l : List (Term Variable)} {e : List ℕ} → Reads e (t ∷ l) → 4 * size t ≤ length e
unfolding size
fits (variable x) r = four r
fits (atom a) r = four r
fits (pair t u) {l} {e} r =
    let a = fits t (reads-pair r).2 in
    let b = fits u (past t (reads-pair r).2) in
    let c = four r in
    omega (arith, length-drop 4 e, length-drop (4 * size t) (drop 4 e))
fits (wrapped w k t) {l} {e} r =
    let a = fits t (reads-wrapped r).2 in
    let c = four r in
    omega (arith, length-drop 4 e)

pub size-positive : {X : Type 0} (t : Term X) → 1 ≤ size t
unfolding size
size-positive (variable x) = omega arith
size-positive (atom a) = omega arith
size-positive (pair t u) = omega arith
size-positive (wrapped w k t) = omega arith

pub begins : {e : List ℕ} {t : Term Variable} {l : List (Term Variable)} → Reads e (t ∷ l) → Begins e
begins {t = t} {l = l} r = record { term = t; others = l; reads = r; room = four r }

-- What is left after the first entry are terms.
pub rest-reads : {e : List ℕ} {t : Term Variable} {l : List (Term Variable)} → Reads e (t ∷ l) → (m : List (Term Variable)) × Reads (drop 4 e) m
rest-reads {e} {t} {l} r = go (first r)
  where
    go : First (tag_at e) (value_at e) (drop 4 e) (t ∷ l) → (m : List (Term Variable)) × Reads (drop 4 e) m
    go (first_atom {m} g q k) = (m, k)
    go (first_pair {t} {u} {m} g n q k) = (t ∷ u ∷ m, k)
    go (first_wrapped {t} {m} i g q k) = (t ∷ m, k)
    go (first_variable {m = m} g v n q k) = (m, k)

-- Entries that are no terms at all are no entries.
no-terms : (e : List ℕ) → Reads e [] → 0 < length e → ⊥
unfolding terms_of
no-terms [] r h = omega arith
no-terms (a ∷ []) r h = none≢some _ r.is
no-terms (a ∷ b ∷ []) r h = none≢some _ r.is
no-terms (a ∷ b ∷ c ∷ []) r h = none≢some _ r.is
no-terms (a ∷ b ∷ c ∷ d ∷ e) r h = never-empty (with_zero b (symbol_of a (c + 256 * d))) (terms_of e) r.is

some-terms : {e : List ℕ} (l : List (Term Variable)) → Reads e l → 0 < length e → Begins e
some-terms {e} [] r h = absurd (no-terms e r h)
some-terms (t ∷ l) r h = begins r

-- From any entry on stand terms.
pub suffix : (k : ℕ) {e : List ℕ} → Begins e → 4 * k < length e → Begins (drop (4 * k) e)
suffix zero b h = b
suffix (suc k) {e} b h =
    let m = rest-reads b.reads in
    let room : 0 < length (drop 4 e) = omega (arith, length-drop 4 e) in
    let rest : Begins (drop 4 e) = some-terms m.0 m.1 room in
    let far : 4 * k < length (drop 4 e) = omega (arith, length-drop 4 e) in
    let there : 4 + 4 * k ≡ 4 * suc k = omega arith in
    rw (drop-drop, there) at (suffix k rest far)

-- A pair stands first.
pub record PairFirst (e : List ℕ) : Type 0 where
  pub left : Term Variable
  pub right : Term Variable
  pub others : List (Term Variable)
  pub whole : Reads e (pair left right ∷ others)
  pub below : Reads (from 4 e) (left ∷ right ∷ others)

pub pair-first : {e : List ℕ} → Begins e → tag_at e ≡ pair_tag → PairFirst e
pair-first {e} b is = go (first b.reads)
  where
    go : First (tag_at e) (value_at e) (drop 4 e) (b.term ∷ b.others) → PairFirst e
    go (first_pair {t} {u} {m} g n q k) = record { left = t; right = u; others = m; whole = rw q at b.reads; below = rw part_to_end k }
    go (first_atom g q k) = absurd (omega arith)
    go (first_wrapped i g q k) = absurd (omega arith)
    go (first_variable g v n q k) = absurd (omega arith)

-- Something around a term stands first.
pub record WrappedFirst (e : List ℕ) (w : Wrapping) : Type 0 where
  pub content : Term Variable
  pub others : List (Term Variable)
  pub whole : Reads e (wrapped w (value_at e) content ∷ others)
  pub below : Reads (from 4 e) (content ∷ others)

-- The tag tells what it is.
one-wrapping : (w w' : Wrapping) → wrapping_tag w ≡ wrapping_tag w' → w ≡ w'
unfolding wrapping_tag
one-wrapping encryption encryption e = refl
one-wrapping encryption hash e = absurd (omega arith)
one-wrapping encryption signature e = absurd (omega arith)
one-wrapping hash encryption e = absurd (omega arith)
one-wrapping hash hash e = refl
one-wrapping hash signature e = absurd (omega arith)
one-wrapping signature encryption e = absurd (omega arith)
one-wrapping signature hash e = absurd (omega arith)
one-wrapping signature signature e = refl

pub wrapped-first : {e : List ℕ} → Begins e → (w : Wrapping) → tag_at e ≡ wrapping_tag w → WrappedFirst e w
wrapped-first {e} b w is = go (first b.reads)
  where
    some-wrapping : pair_tag < tag_at e
    some-wrapping = wrapping-tag w is

    go : First (tag_at e) (value_at e) (drop 4 e) (b.term ∷ b.others) → WrappedFirst e w
    go (first_wrapped {w = w'} {t = t} {m = m} i g q k) =
        let same : w' ≡ w = one-wrapping w' w (sym i ∙ is) in
        record { content = t; others = m; whole = rw same at (rw q at b.reads); below = rw part_to_end k }
    go (first_pair g n q k) = absurd (omega (arith, some-wrapping))
    go (first_atom g q k) = absurd (omega (arith, some-wrapping))
    go (first_variable {s = s} g v n q k) = absurd (omega (arith, wrapping-symbol w is, sort-tag s g))

-- Any other tag is a term of one entry.
pub leaf_first : {e : List ℕ} → Begins e → (tag_at e ≡ pair_tag → ⊥) → ¬ WrapperTag (tag_at e) → 1 ≡ size (term_of e)
unfolding size
leaf_first {e} b no-pair no-wrapper = go (first b.reads)
  where
    one : (t : Term Variable) → 1 ≡ size t → term_of e ≡ t → 1 ≡ size (term_of e)
    one t s q = rw q s

    go : First (tag_at e) (value_at e) (drop 4 e) (b.term ∷ b.others) → 1 ≡ size (term_of e)
    go (first_atom g q k) = one (atom (value_at e)) refl (term_of-reads (rw q at b.reads))
    go (first_variable {s = s} g v n q k) = one (variable (named s (value_at e))) refl (term_of-reads (rw q at b.reads))
    go (first_pair g n q k) = absurd (no-pair g)
    go (first_wrapped {w = w} i g q k) = absurd (no-wrapper (record { wrapping = w; is = i }))

-- The right half of a pair begins past the left one.
pub right-begins : {e : List ℕ} (p : PairFirst e) {r : ℕ} → r ≡ size (term_of (from 4 e)) → Reads (from (4 * (1 + r)) e) (p.right ∷ p.others)
right-begins {e} p {r} is =
    let here : Reads (drop 4 e) (p.left ∷ p.right ∷ p.others) = rw part_to_end at p.below in
    let known : r ≡ size p.left = is ∙ ap size (term_of-reads p.below) in
    let there : 4 + 4 * size p.left ≡ 4 * (1 + r) = omega arith in
    rw part_to_end (rw (drop-drop, there) at (past p.left here))

-- How many entries a pair has, and a term with something around it.
pub pair-walked : {e : List ℕ} → Begins e → tag_at e ≡ pair_tag → {r s : ℕ} → r ≡ size (term_of (from 4 e)) → s ≡ size (term_of (from (4 * (1 + r)) e))
    → (1 + r + s ≡ size (term_of e)) × (4 * (1 + r + s) ≤ length e)
unfolding size
pair-walked {e} b is {r} {s} left right =
    let p = pair-first b is in
    let l : r ≡ size p.left = left ∙ ap size (term_of-reads p.below) in
    let q : s ≡ size p.right = right ∙ ap size (term_of-reads (right-begins p left)) in
    let whole : size (term_of e) ≡ 1 + (size p.left + size p.right) = ap size (term_of-reads p.whole) in
    let room : 4 * (1 + (size p.left + size p.right)) ≤ length e = fits (pair p.left p.right) p.whole in
    (omega arith, omega arith)

pub wrapped-walked : {e : List ℕ} → Begins e → WrapperTag (tag_at e) → {r : ℕ} → r ≡ size (term_of (from 4 e))
    → (1 + r ≡ size (term_of e)) × (4 * (1 + r) ≤ length e)
unfolding size
wrapped-walked {e} b is {r} below =
    let p = wrapped-first b is.wrapping is.is in
    let l : r ≡ size p.content = below ∙ ap size (term_of-reads p.below) in
    let whole : size (term_of e) ≡ 1 + size p.content = ap size (term_of-reads p.whole) in
    let room : 4 * (1 + size p.content) ≤ length e = fits (wrapped is.wrapping (value_at e) p.content) p.whole in
    (omega arith, omega arith)

-- A part's part is a part.
pub from-from : (a b : ℕ) (e : List ℕ) → from a (from b e) ≡ from (b + a) e
from-from a b e = rw (part_to_end, part_to_end, part_to_end, drop-drop)

pub from-length : (n : ℕ) (e : List ℕ) → length (from n e) ≡ length e - n
from-length n e = rw part_to_end (length-drop n e)

-- The part from the first entry on is all of it.
pub from_start : (e : List ℕ) → from (4 * 0) e ≡ e
from_start e = part_to_end e 0
