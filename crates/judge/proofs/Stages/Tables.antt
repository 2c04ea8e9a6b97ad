-- Laws of the table of what is noted of the listed terms. Assumes nothing.
use mathlib.Core.Path.{◌≡◌, refl, sym, ap, ◌∙◌}
use mathlib.Core.Bool.{Bool, true, false, ◌||◌}
use Rattle.std.specs.Int.{from_bool}
use mathlib.Core.Logic.{◌↔◌, ∥∥₁_elim}
use mathlib.Core.HLevel.{⊥_prop}
use native.Mathlib.Bridge.{le_prop}
use native.Mathlib.Nat.{ℕ_set}
use mathlib.Core.List.{List}
use Prim.Native.Nat.{ℕ, ◌+◌, ◌*◌, ◌<◌, ◌≤◌}
use native.Mathlib.Omega.{arith}
use native.Mathlib.Decide.{ℕ_discrete}
use lib.ListN.{length, get_or, set, length-set}
use lib.Seq.{get_or-set_same, get_or-set_other}
use Rattle.blocks.specs.Kinds.{secret_kind, bad_kind, ListsTerm}
use Rattle.blocks.specs.Limits.{most_term_bytes}
use Rattle.blocks.specs.Block.{block_at, kind_of, first_entries}
use Rattle.blocks.proofs.Parts.{first-length}
use Rattle.blocks.proofs.KindLaws.{bad-lists}
use Rattle.terms.specs.Term.{Term, Variable, variable, atom, pair, replace, wrapped}
use Rattle.terms.specs.Tag.{MarkedTag}
use Rattle.terms.specs.Instance.{Share}
use Rattle.terms.specs.Entry.{term_of, size, from}
use Rattle.terms.proofs.EntryLaws.{size-positive}
use Rattle.terms.specs.TermGraph.{SizesOf}
use Rattle.terms.specs.Sizes.{SizedFrom, KeptBelow}
use Rattle.terms.specs.Nonces.{NoncesIn}
use Rattle.terms.proofs.SizeLaws.{kept_more, sizes-at, sizes-kept}
use Rattle.terms.specs.Decisions.{Says}
use Rattle.judge.specs.Hat.{Marked}
use Rattle.judge.specs.File.{block_count, pattern_of, certificate_of}
use Rattle.judge.specs.Laid.{Laid}
use Rattle.judge.specs.Listed.{atoms_in, AnyListed, Everywhere, SharesListed, SharesEverywhere, Searching, TermPart, row_size, listed_rows, nonce_slots, mark_slot, Noted, MarkedBad, SizesBelow, SizesIn, SizeOf}
use Rattle.judge.proofs.Stages.Listing.{none_found}
use Rattle.judge.proofs.Stages.Roots.{instance-shares}

-- A listed term has at most 63 entries.
listed-short : {file : List ℕ} {i : ℕ} → Laid file → i < block_count file → ListsTerm (kind_of (block_at file i)) → length (first_entries (block_at file i)) ≤ most_term_bytes
listed-short {file} {i} laid inside lists =
    let b = laid.terms i inside lists in
    omega (arith, b.short, first-length (block_at file i) b.fitting)

-- With block i's row filled in.
sized-kept : {e z : List ℕ} (i v : ℕ) → length e ≤ most_term_bytes → SizedFrom e z (row_size * i) 0 → SizedFrom e (set z (mark_slot i) v) (row_size * i) 0
sized-kept {e} {z} i v short s = record {
  room = let room = s.room in omega (arith, length-set z (mark_slot i) v);
  at = λ k low fit. get_or-set_other z (mark_slot i) (row_size * i + k) v 0 (λ same. omega arith) ∙ s.at k low fit;
}

pub row_more : {file old mid e : List ℕ} {i v : ℕ} → Laid file → i < block_count file → SizesBelow file i old → ListsTerm (kind_of (block_at file i))
    → e ≡ first_entries (block_at file i) → SizedFrom e mid (row_size * i) 0 → KeptBelow (row_size * i) old mid → Noted file i v → SizesBelow file (i + 1) (set mid (mark_slot i) v)
row_more {file} {old} {mid} {e} {i} {v} laid inside below lists is sized kept noted = record {
  long = kept-all.long ∙ below.long;
  at = λ j low lists-term. elim (ℕ_discrete j i) [
    | yes same ↦ rw same (rw is at (sizes-at (row_size * i) (sized-kept i v (rw is (listed-short laid inside lists)) sized)))
    | no off ↦ sizes-kept (row_size * j) (below.at j (omega arith) lists-term) kept-all (let short = listed-short laid (omega arith) lists-term in omega arith)
  ];
  marks = λ j low lists-term. elim (ℕ_discrete j i) [
    | yes same ↦ rw (same, get_or-set_same mid (mark_slot i) v 0 (let few = laid.few in omega (arith, kept.long, below.long))) noted
    | no off ↦ rw (kept-all.same (mark_slot j) (omega arith)) (below.marks j (omega arith) lists-term)
  ];
}
  where
    kept-all : KeptBelow (row_size * i) old (set mid (mark_slot i) v)
    kept-all = kept_more {j = mark_slot i} {z = mid} v kept (omega arith)

-- Block i lists no term.
pub row_other : {file sizes : List ℕ} {i : ℕ} → SizesBelow file i sizes → ¬ ListsTerm (kind_of (block_at file i)) → SizesBelow file (i + 1) sizes
row_other {file} {sizes} {i} below off = record {
  long = below.long;
  at = λ j low lists. elim (ℕ_discrete j i) [
    | yes same ↦ absurd (off (rw same at lists))
    | no other ↦ below.at j (omega arith) lists
  ];
  marks = λ j low lists. elim (ℕ_discrete j i) [
    | yes same ↦ absurd (off (rw same at lists))
    | no other ↦ below.marks j (omega arith) lists
  ];
}

-- Whether one of the first n blocks is a marked bad pattern, as it is found block by block.
pub record SomeBelow (file : List ℕ) (n : ℕ) (b : Bool) : Type 0 where
  pub some : (i : ℕ) → i < n → MarkedBad file i → b ≡ true

pub some_more : {file : List ℕ} {n : ℕ} {a : Bool} → SomeBelow file n a → (b : Bool) → Says b (MarkedBad file n) → SomeBelow file (n + 1) (a || b)
some_more {file} {n} {a} w b says = record { some = λ i low marked. go a b says (ℕ_discrete i n) low marked w.some }
  where
    go : (a b : Bool) → Says b (MarkedBad file n) → {i : ℕ} → Dec (i ≡ n) → i < n + 1 → MarkedBad file i → ((j : ℕ) → j < n → MarkedBad file j → a ≡ true) → (a || b) ≡ true
    go true b says d low marked before = refl
    go false true says d low marked before = refl
    go false false says (yes same) low marked before = absurd (says (rw same at marked))
    go false false says (no off) low marked before = before _ (omega arith) marked

-- All rows, the slot behind them, and then the flags of the nonces.
pub rows_all : {file sizes new : List ℕ} {n flag : ℕ} {b : Bool} → Laid file → n ≡ block_count file → SizesBelow file n sizes → SomeBelow file n b → flag ≡ from_bool b
    → KeptBelow nonce_slots (set sizes listed_rows flag) new → NoncesIn (atoms_in file) (from nonce_slots new) → SizesIn file new
rows_all {file} {sizes} {new} {n} {flag} laid all rows some is still nonces = record {
  rows = record {
    long = kept.long ∙ rows.long;
    at = λ i low lists. sizes-kept (row_size * i) (rows.at i (omega arith) lists) kept
        (let short = listed-short laid low lists in let few = laid.few in omega arith);
    marks = λ i low lists. rw (kept.same (mark_slot i) (let few = laid.few in omega arith)) (rows.marks i (omega arith) lists);
  };
  some = λ i low marked. still.same listed_rows (omega arith) ∙ get_or-set_same sizes listed_rows flag 0 (let long = rows.long in omega arith) ∙ is ∙ ap from_bool (some.some i (omega arith) marked);
  nonces = nonces;
}
  where
    behind : KeptBelow listed_rows sizes (set sizes listed_rows flag)
    behind = kept_more {j = listed_rows} {z = sizes} flag (record { long = refl; same = λ k low. refl }) (omega arith)

    kept : KeptBelow listed_rows sizes new
    kept = record { long = still.long ∙ behind.long; same = λ k low. still.same k (omega arith) ∙ behind.same k low }

-- The sizes of the term of block i, as it is read.
pub term-sizes : {file sizes e t : List ℕ} {kind i : ℕ} → ∥ SizesIn file sizes ∥₁ → Searching file kind e → i < block_count file → kind_of (block_at file i) ≡ kind
    → t ≡ first_entries (block_at file i) → SizesOf t (from (row_size * i) sizes)
term-sizes {i = i} all s inside kind is = rw is (record {
  inside = λ k low. ∥∥₁_elim all le_prop (λ a. (a.rows.at i inside (rw kind s.lists)).inside k low);
  at = λ k low. ∥∥₁_elim all (ℕ_set _ _) (λ a. (a.rows.at i inside (rw kind s.lists)).at k low);
})

-- A pattern that the table says has no mark counts for every place.
pub unmarked-counts : {file sizes : List ℕ} {i v : ℕ} → ∥ SizesIn file sizes ∥₁ → i < block_count file → ListsTerm (kind_of (block_at file i)) → v ≡ get_or sizes (mark_slot i) 0 → v ≡ 0
    → Everywhere (kind_of (block_at file i)) (pattern_of (block_at file i))
unmarked-counts {i = i} all inside lists slot none w = ∥∥₁_elim all ⊥_prop (λ a. (a.rows.marks i inside lists).marked.1 w (sym slot ∙ none))

-- One that the table says has one does not.
pub marked-counts-not : {file sizes : List ℕ} {i v : ℕ} → ∥ SizesIn file sizes ∥₁ → i < block_count file → ListsTerm (kind_of (block_at file i)) → v ≡ get_or sizes (mark_slot i) 0 → ¬ (v ≡ 0)
    → ¬ Everywhere (kind_of (block_at file i)) (pattern_of (block_at file i))
marked-counts-not {i = i} all inside lists slot some every = ∥∥₁_elim all ⊥_prop (λ a. every ((a.rows.marks i inside lists).marked.0 (λ none. some (slot ∙ none))))

-- No mark stands behind those of a bad block's term.
pub marks-behind : {file sizes t : List ℕ} {i v : ℕ} → ∥ SizesIn file sizes ∥₁ → i < block_count file → kind_of (block_at file i) ≡ bad_kind → t ≡ first_entries (block_at file i)
    → v ≡ get_or sizes (mark_slot i) 0 → (k : ℕ) → v ≤ k → ¬ MarkedTag (get_or t (4 * k) 0)
marks-behind {i = i} all inside is part slot = rw (part, slot) (λ k low mark. ∥∥₁_elim all ⊥_prop (λ a. (a.rows.marks i inside (bad-lists is)).behind is k low mark))

-- No bad pattern is marked: then all of them count for every place.
pub none-marked : {file sizes : List ℕ} → Laid file → ∥ SizesIn file sizes ∥₁ → ¬ (get_or sizes listed_rows 0 ≡ 1) → ¬ AnyListed (certificate_of file) bad_kind Marked
none-marked laid all off = none_found laid bad_kind Marked (λ i inside w. off (∥∥₁_elim all (ℕ_set _ _) (λ a. a.some i inside (w.has_kind, w.holds))))

pub all-count : {file sizes : List ℕ} {t : Term Variable} → Laid file → ∥ SizesIn file sizes ∥₁ → ¬ (get_or sizes listed_rows 0 ≡ 1)
    → SharesListed (certificate_of file) bad_kind t ↔ SharesEverywhere (certificate_of file) bad_kind t
all-count laid all off = (
  λ a. record { term = a.term; listed = a.listed; holds = (λ w. none-marked laid all off (record { term = a.term; listed = a.listed; holds = w.1 }), a.holds) },
  λ a. record { term = a.term; listed = a.listed; holds = a.holds.1 },
)

-- A secret of another size is another term.
pub other-size : {file e t : List ℕ} {i n : ℕ} → TermPart file i t → SizeOf e n → ¬ (length t ≡ 4 * n) → ¬ (pattern_of (block_at file i) ≡ term_of e)
unfolding pattern_of
other-size {e = e} {t = t} part type_size off h =
    let same : term_of t ≡ term_of e = ap term_of part.part ∙ h in
    let sizes : size (term_of t) ≡ size (term_of e) = ap size same in
    off (omega (arith, part.whole, type_size.is))

-- A replaced term has no fewer entries.
grown : {X Y : Type 0} (by : X → Term Y) (t : Term X) → size t ≤ size (replace by t)
unfolding replace size
grown by (variable x) = omega (arith, size-positive (by x))
grown by (atom a) = omega arith
grown by (pair t u) = let left = grown by t in let right = grown by u in omega arith
grown by (wrapped w k t) = let content = grown by t in omega arith

-- A secret that is smaller is no instance.
pub too_small : {file e t : List ℕ} {i n : ℕ} → Laid file → i < block_count file → kind_of (block_at file i) ≡ secret_kind → TermPart file i t → SizeOf e n → length t < 4 * n
    → ¬ Share (atoms_in file) (pattern_of (block_at file i)) (term_of e)
unfolding pattern_of
too_small {e = e} {t = t} {i = i} laid inside kind part type_size small h =
    let m = (instance-shares _ (laid.secrets i inside kind)).1 h in
    let less = grown m.by (term_of e) in
    let is : size (replace m.by (term_of e)) ≡ size (term_of t) = ap size (m.same ∙ sym (ap term_of part.part)) in
    absurd (omega (arith, part.whole, type_size.is))
