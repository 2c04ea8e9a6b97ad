-- What the blocks of one kind list, and what is asked of them.
use Rattle.std.specs.Prelude.{◌≡◌, Bool, true, false, ◌⊎◌, ◌↔◌, ℕ, ◌+◌, ◌*◌, ◌-◌, ◌%◌, ◌<◌, ◌≤◌, eqb, length, get_or, drop, Option, Some, None}
use mathlib.Core.List.{List, [], map, Memᴰ}
use Rattle.std.proofs.Math.Decide.{ℕ_discrete}
use Rattle.blocks.specs.Kinds.{secret_kind, good_kind, bad_kind, ListsTerm}
use Rattle.blocks.specs.Limits.{most_term_bytes, most_term_entries}
use Rattle.blocks.specs.Block.{block_at, kind_of, first_entries}
use Rattle.terms.specs.Term.{Term, Variable, as_term, replace}
use Rattle.terms.specs.Instance.{Matches, Share}
use Rattle.terms.specs.declared.atom.Atom.{Atom}
use Rattle.terms.specs.Nonces.{most_nonces, NoncesIn}
use Rattle.terms.specs.Tag.{pair_tag, MarkedTag, SymbolTag, Tagged, an_atom, a_pair, a_wrapping, a_variable, no_tag, tagged}
use Rattle.terms.specs.Slot.{slot_count}
use Rattle.terms.specs.Entry.{Begins, term_of, size, tag_at, value_at, from}
use Rattle.terms.specs.TermGraph.{SizesOf}
use Rattle.terms.specs.Decisions.{dec_map, dec_not, dec_and}
use Rattle.terms.specs.Search.{any?}
use Rattle.judge.specs.Certificate.{Certificate}
use Rattle.judge.specs.File.{pattern_of, block_count, certificate_of}
use Rattle.judge.specs.Laid.{Laid}
use Rattle.judge.specs.Hat.{Marked}
use Rattle.judge.specs.Decisions.{same_term?, is_marked?, matches?, shares?}

-- The terms that the blocks of one kind list: secrets, good patterns or bad ones.
unfoldable pub listed_of : Certificate → ℕ → List (Term Variable)
unfolding as_term replace
listed_of c kind = elim (eqb kind secret_kind) [
  | true ↦ map as_term c.secrets
  | false ↦ elim (eqb kind good_kind) [
    | true ↦ c.goods
    | false ↦ elim (eqb kind bad_kind) [ true ↦ c.bads | false ↦ [] ]
  ]
]

-- One of them has P.
pub record AnyListed (c : Certificate) (kind : ℕ) (P : Term Variable → Type 0) : Type 0 where
  pub term : Term Variable
  pub listed : Memᴰ term (listed_of c kind)
  pub holds : P term

unfoldable pub any_listed? : (c : Certificate) (kind : ℕ) {P : Term Variable → Type 0} → ((p : Term Variable) → Dec (P p)) → Dec (AnyListed c kind P)
unfolding listed_of dec_map any?
any_listed? c kind d =
    dec_map (λ w. record { term = w.0; listed = w.1; holds = w.2 }) (λ h. (h.term, h.listed, h.holds)) (any? (listed_of c kind) d)

-- A listed pattern counts for every place, but for a marked bad one (02, No. 2).
abbrev pub Everywhere : ℕ → Term Variable → Type 0
Everywhere kind p = ¬ ((kind ≡ bad_kind) × Marked p)

unfoldable pub everywhere? : (kind : ℕ) (p : Term Variable) → Dec (Everywhere kind p)
unfolding dec_not dec_and ℕ_discrete is_marked?
everywhere? kind p = dec_not (dec_and (ℕ_discrete kind bad_kind) (λ e. is_marked? p))

-- The term is a listed pattern, one that counts for every place, with its variables replaced by terms.
abbrev pub MatchesEverywhere : Certificate → ℕ → Term Variable → Type 0
MatchesEverywhere c kind t = AnyListed c kind (λ p. Everywhere kind p × Matches c.atoms p t)

unfoldable pub matches_everywhere? : (c : Certificate) (kind : ℕ) (t : Term Variable) → Dec (MatchesEverywhere c kind t)
unfolding any_listed? dec_and everywhere? matches?
matches_everywhere? c kind t = any_listed? c kind (λ p. dec_and (everywhere? kind p) (λ w. matches? c.atoms p t))

-- A listed term shares an instance with the term.
abbrev pub SharesListed : Certificate → ℕ → Term Variable → Type 0
SharesListed c kind t = AnyListed c kind (λ p. Share c.atoms p t)

unfoldable pub shares_listed? : (c : Certificate) (kind : ℕ) (t : Term Variable) → Dec (SharesListed c kind t)
unfolding any_listed? shares?
shares_listed? c kind t = any_listed? c kind (λ p. shares? c.atoms p t)

-- A listed pattern, one that counts for every place, does.
abbrev pub SharesEverywhere : Certificate → ℕ → Term Variable → Type 0
SharesEverywhere c kind t = AnyListed c kind (λ p. Everywhere kind p × Share c.atoms p t)

unfoldable pub shares_everywhere? : (c : Certificate) (kind : ℕ) (t : Term Variable) → Dec (SharesEverywhere c kind t)
unfolding any_listed? dec_and everywhere? shares?
shares_everywhere? c kind t = any_listed? c kind (λ p. dec_and (everywhere? kind p) (λ w. shares? c.atoms p t))

-- The term is no hat for any place: no good pattern shares an instance with it, or it is a bad one without marks with its
-- variables replaced by terms.
abbrev pub NeverHat : Certificate → Term Variable → Type 0
NeverHat c t = (¬ SharesListed c good_kind t) ⊎ MatchesEverywhere c bad_kind t

-- A bad pattern without marks shares an instance with the term.
abbrev pub SharesUnmarked : Certificate → Term Variable → Type 0
SharesUnmarked c t = SharesEverywhere c bad_kind t

-- The term, symbol for symbol, is a listed secret.
abbrev pub IsSecret : Certificate → Term Variable → Type 0
IsSecret c t = AnyListed c secret_kind (λ p. p ≡ t)

unfoldable pub is_secret? : (c : Certificate) (t : Term Variable) → Dec (IsSecret c t)
unfolding any_listed? same_term?
is_secret? c t = any_listed? c secret_kind (λ p. same_term? p t)

-- The atoms of a file.
abbrev pub atoms_in : List ℕ → List Atom
atoms_in file = (certificate_of file).atoms

-- Block i is of this kind, and its term has P.
pub record HoldsAt (file : List ℕ) (kind : ℕ) (P : Term Variable → Type 0) (i : ℕ) : Type 0 where
  pub has_kind : kind_of (block_at file i) ≡ kind
  pub holds : P (pattern_of (block_at file i))

-- One of the blocks from `low` up to `high` is such.
pub record HeldAmong (file : List ℕ) (kind : ℕ) (P : Term Variable → Type 0) (low high : ℕ) : Type 0 where
  pub number : ℕ
  pub above : low ≤ number
  pub below : number < high
  pub holds : HoldsAt file kind P number

-- What a search asks for: a laid file, a kind that lists terms, and entries that begin with a term.
pub record Searching (file : List ℕ) (kind : ℕ) (e : List ℕ) : Type 0 where
  pub laid : Laid file
  pub lists : ListsTerm kind
  pub term : Begins e
  pub short : length e ≤ most_term_bytes

-- Block i lists a term, and is asked about the one that e begins with.
abbrev pub SearchingAt : List ℕ → ℕ → List ℕ → Type 0
SearchingAt file i e = (i < block_count file) × Searching file (kind_of (block_at file i)) e

-- Its pattern, of its kind, has P.
abbrev pub HasAt : List ℕ → ℕ → (ℕ → Term Variable → Type 0) → Type 0
HasAt file i P = P (kind_of (block_at file i)) (pattern_of (block_at file i))

-- A test may be asked at the blocks of this kind before `high`.
abbrev pub AskedAt : List ℕ → ℕ → ℕ → (ℕ → Type 0) → Type 0
AskedAt file kind high pre = (i : ℕ) → i < high → kind_of (block_at file i) ≡ kind → pre i

-- What a search by a test says: yes, and the test says yes at a block of this kind from `low` up to `high`; no, and it says
-- no at each.
pub record SomeMet (file : List ℕ) (kind low high : ℕ) (post : ℕ → Bool → Type 0) (b : Bool) : Type 0 where
  pub some : b ≡ true → (i : ℕ) × (low ≤ i) × (i < high) × (kind_of (block_at file i) ≡ kind) × post i true
  pub none : b ≡ false → (i : ℕ) → low ≤ i → i < high → kind_of (block_at file i) ≡ kind → post i false

-- The term that e begins with has n entries.
pub record SizeOf (e : List ℕ) (n : ℕ) : Type 0 where
  pub is : n ≡ size (term_of e)
  pub fits : 4 * n ≤ length e

-- Slots of roots: for atoms, for pairs and for what is put around a term 256 each, so that no two atoms share one, for variables
-- 32.
abbrev pub pair_roots : ℕ
pair_roots = 256

abbrev pub wrapper_roots : ℕ
wrapper_roots = 512

abbrev pub variable_roots : ℕ
variable_roots = 768

abbrev pub root_slots : ℕ
root_slots = variable_roots + slot_count

-- The slot of a root, by its tag, its value and the value of the entry after it: by the root's value; for a pair by that of
-- its left half's root, which is the entry after it.
abbrev pub slot_for : {tag : ℕ} → Tagged tag → ℕ → ℕ → ℕ
slot_for (an_atom e) n left = n % pair_roots
slot_for (a_pair e) n left = pair_roots + left % pair_roots
slot_for (a_wrapping w e) n left = wrapper_roots + n % pair_roots
slot_for (a_variable s e) n left = variable_roots + n % slot_count
slot_for (no_tag e) n left = wrapper_roots + n % pair_roots

unfoldable pub slot_by : ℕ → ℕ → ℕ → ℕ
unfolding tagged
slot_by tag n left = slot_for (tagged tag) n left

abbrev pub slot_at : List ℕ → ℕ
slot_at e = slot_by (tag_at e) (value_at e) (value_at (drop 4 e))

-- The root of e's term is flagged.
abbrev pub FlaggedAt : List ℕ → List ℕ → Type 0
FlaggedAt roots e = get_or roots (slot_at e) 0 ≡ 1

-- Flags stay, and the root of block i's term is flagged if it is a secret's.
pub record FlaggedMore (file : List ℕ) (i : ℕ) (old new : List ℕ) : Type 0 where
  pub long : length new ≡ root_slots
  pub kept : (k : ℕ) → get_or old k 0 ≡ 1 → get_or new k 0 ≡ 1
  pub here : kind_of (block_at file i) ≡ secret_kind → FlaggedAt new (first_entries (block_at file i))
  pub bits : ((k : ℕ) → get_or old k 0 ≤ 1) → (k : ℕ) → get_or new k 0 ≤ 1
  pub only : (k : ℕ) → get_or new k 0 ≡ 1
      → (get_or old k 0 ≡ 1) ⊎ ((kind_of (block_at file i) ≡ secret_kind) × (slot_at (first_entries (block_at file i)) ≡ k))

-- The root of a secret among the first n blocks has this slot.
pub record SecretSlot (file : List ℕ) (n slot : ℕ) : Type 0 where
  pub number : ℕ
  pub before : number < n
  pub has_kind : kind_of (block_at file number) ≡ secret_kind
  pub same : slot_at (first_entries (block_at file number)) ≡ slot

-- The root of every secret is flagged, and nothing else; a flag is 0 or 1.
pub record RootsOf (file roots : List ℕ) : Type 0 where
  pub long : length roots ≡ root_slots
  pub flagged : (i : ℕ) → i < block_count file → kind_of (block_at file i) ≡ secret_kind → FlaggedAt roots (first_entries (block_at file i))
  pub bits : (k : ℕ) → get_or roots k 0 ≤ 1
  pub only : (k : ℕ) → get_or roots k 0 ≡ 1 → SecretSlot file (block_count file) k

-- The term that e begins with has a symbol as its root, and so has the left half of a pair, and no secret has that slot.
pub record NoRoot (roots e : List ℕ) : Type 0 where
  pub symbol : SymbolTag (tag_at e)
  pub left_symbol : tag_at e ≡ pair_tag → SymbolTag (tag_at (drop 4 e))
  pub absent : get_or roots (slot_at e) 0 ≡ 0

-- Room for what is noted of a file: a row of 64 for each block, one slot more, and a flag for each atom.
abbrev pub row_size : ℕ
row_size = 64

abbrev pub listed_rows : ℕ
listed_rows = 4096

abbrev pub nonce_slots : ℕ
nonce_slots = listed_rows + 1

abbrev pub listed_sizes : ℕ
listed_sizes = nonce_slots + most_nonces

-- The last slot of block i's row, which no size stands in.
abbrev pub mark_slot : ℕ → ℕ
mark_slot i = row_size * i + most_term_entries

-- An entry from `low` up to `high` has the tag of a marked variable.
pub record MarkTag (e : List ℕ) (low high : ℕ) : Type 0 where
  pub number : ℕ
  pub above : low ≤ number
  pub below : number < high
  pub tag : MarkedTag (get_or e (4 * number) 0)

-- How many entries there are up to this one; 0 if it is none.
abbrev pub up_to : Option ℕ → ℕ
up_to None = 0
up_to (Some k) = k + 1

-- From entry r on there is no such tag, and entry r - 1 has it, if r is not 0.
pub record LastMark (e : List ℕ) (r : ℕ) : Type 0 where
  pub behind : (k : ℕ) → r ≤ k → ¬ MarkedTag (get_or e (4 * k) 0)
  pub here : ¬ (r ≡ 0) → MarkedTag (get_or e (4 * (r - 1)) 0)

-- Block i is a marked bad pattern.
abbrev pub MarkedBad : List ℕ → ℕ → Type 0
MarkedBad file i = (kind_of (block_at file i) ≡ bad_kind) × Marked (pattern_of (block_at file i))

-- What is noted of it: 0 if it is none, and else so many entries that no mark stands behind them.
pub record Noted (file : List ℕ) (i v : ℕ) : Type 0 where
  pub marked : (¬ (v ≡ 0)) ↔ MarkedBad file i
  pub behind : kind_of (block_at file i) ≡ bad_kind → (k : ℕ) → v ≤ k → ¬ MarkedTag (get_or (first_entries (block_at file i)) (4 * k) 0)

-- The table has the sizes of the terms that the first n blocks list, those of block i in its row, and in the row's last slot
-- what is noted of its marks.
pub record SizesBelow (file : List ℕ) (n : ℕ) (sizes : List ℕ) : Type 0 where
  pub long : length sizes ≡ listed_sizes
  pub at : (i : ℕ) → i < n → ListsTerm (kind_of (block_at file i)) → SizesOf (first_entries (block_at file i)) (from (row_size * i) sizes)
  pub marks : (i : ℕ) → i < n → ListsTerm (kind_of (block_at file i)) → Noted file i (get_or sizes (mark_slot i) 0)

-- It has those of all blocks; the slot behind them is 1 if there is a marked bad pattern; and then come flags for the
-- nonces.
pub record SizesIn (file sizes : List ℕ) : Type 0 where
  pub rows : SizesBelow file (block_count file) sizes
  pub some : (i : ℕ) → i < block_count file → MarkedBad file i → get_or sizes listed_rows 0 ≡ 1
  pub nonces : NoncesIn (atoms_in file) (from nonce_slots sizes)

-- The entries are those of the term of block i.
pub record TermPart (file : List ℕ) (i : ℕ) (e : List ℕ) : Type 0 where
  pub part : e ≡ first_entries (block_at file i)
  pub term : Begins e
  pub whole : 4 * size (term_of e) ≡ length e
  pub short : length e ≤ most_term_bytes
