-- Cover on the entries of a rule: what the walks over them promise. The subterm at entry k is what the entries from k on begin
-- with (terms/proofs/PlacedLaws.antt); it stands at a place if no hash stands above it (terms/proofs/PlaceEntryLaws.antt).
use Rattle.std.specs.Prelude.{◌≡◌, Bool, true, false, Option, Some, None, List, ◌++◌, ◌⊎◌, ◌↔◌, ℕ, ◌+◌, ◌*◌, ◌-◌, ◌<◌, ◌≤◌, length, get_or}
use Rattle.std.proofs.Math.Option.{some}
use Rattle.blocks.specs.Kinds.{rule_kind}
use Rattle.blocks.specs.Limits.{most_term_bytes}
use Rattle.blocks.specs.Block.{block_at, kind_of}
use Rattle.terms.specs.Term.{Term, Variable, Range}
use Rattle.terms.specs.Place.{Place, subterm_at}
use Rattle.terms.specs.declared.atom.Atom.{Atom}
use Rattle.terms.specs.Instance.{Matches, Share}
use Rattle.terms.specs.Seek.{Becomes}
use Rattle.terms.specs.Entry.{size, term_of, Begins, from, entry_at}
use Rattle.terms.specs.Tag.{MarkedTag}
use Rattle.terms.specs.TermGraph.{SizesOf}
use Rattle.terms.specs.PlaceEntries.{PlaceEntry}
use Rattle.judge.specs.Certificate.{Certificate, Good, Bad}
use Rattle.judge.specs.Hat.{MarkAt, Marked}
use Rattle.judge.specs.Laid.{Laid}
use Rattle.judge.specs.Cover.{Risky}
use Rattle.judge.specs.Listed.{IsSecret, root_slots, slot_at}

-- The subterm at entry k.
abbrev pub sub_at : List ℕ → ℕ → Term Variable
sub_at e k = term_of (from (4 * k) e)

-- Room for the flags of a term.
abbrev pub entry_flags : ℕ
entry_flags = 64

-- A flag for each of 64 entries, which is on or off.
abbrev pub On : List Bool → ℕ → Type 0
On flags k = get_or flags k false ≡ true

-- What is remembered of a claim about the subterms at e's entries is so. (Which answers are remembered is left open: one
-- that is missing is asked for.)
pub record Remembered (P : Term Variable → Type 0) (e : List ℕ) (memo : List (Option Bool)) : Type 0 where
  pub long : length memo ≡ entry_flags
  pub holds : (k : ℕ) → get_or memo k None ≡ Some true → P (sub_at e k)
  pub fails : (k : ℕ) → get_or memo k None ≡ Some false → ¬ P (sub_at e k)

-- It stays as it is, or nothing is known any more.
pub record Forgotten (memo : List (Option Bool)) : Type 0 where
  pub long : length memo ≡ entry_flags
  pub none : (k : ℕ) → get_or memo k None ≡ None

abbrev pub Renewed : Bool → List (Option Bool) → List (Option Bool) → Type 0
Renewed true old new = new ≡ old
Renewed false old new = Forgotten new

-- The flags from entry `low` up to entry `high` have this value, and the others are as they were.
pub record Painted (old new : List Bool) (low high : ℕ) (value : Bool) : Type 0 where
  pub long : length new ≡ entry_flags
  pub inside : (k : ℕ) → low ≤ k → k < high → get_or new k false ≡ value
  pub outside : (k : ℕ) → ¬ ((low ≤ k) × (k < high)) → get_or new k false ≡ get_or old k false

-- The flags that were on, and those of which P holds, are on.
pub record Raised (old new : List Bool) (P : ℕ → Type 0) : Type 0 where
  pub long : length new ≡ entry_flags
  pub on : (k : ℕ) → On new k ↔ (On old k ⊎ P k)

-- Of the flags that were on, those of which P does not hold are on.
pub record Cleared (old new : List Bool) (P : ℕ → Type 0) : Type 0 where
  pub long : length new ≡ entry_flags
  pub kept : (k : ℕ) → On new k → On old k × ¬ P k
  pub gone : (k : ℕ) → On old k → ¬ On new k → P k

-- Of the flags from entry `low` up to entry `high` that were on, those that are on in the other ones are; the rest is as it was.
pub record Narrowed (old new : List Bool) (low high : ℕ) (kept : List Bool) : Type 0 where
  pub long : length new ≡ entry_flags
  pub on : (k : ℕ) → On new k ↔ (On old k × (low ≤ k → k < high → On kept k))

-- A flag from `low` up to `high` is on.
pub record SomeOn (flags : List Bool) (low high : ℕ) : Type 0 where
  pub number : ℕ
  pub above : low ≤ number
  pub below : number < high
  pub on : On flags number

-- A flag is on in both.
pub record SomeBoth (flags others : List Bool) : Type 0 where
  pub number : ℕ
  pub on : On flags number
  pub other : On others number

-- With a pattern laid on the subterm u at entry h, a marked variable of it stands at or above entry k.
pub record MarkOver (pattern u : Term Variable) (h k : ℕ) : Type 0 where
  pub name : Range × ℕ
  pub place : Place
  pub subterm : Term Variable
  pub stands : MarkAt pattern place name
  pub under : subterm_at place u ≡ some subterm
  pub low : h + entry_at place u ≤ k
  pub high : k < h + entry_at place u + size subterm

-- One stands at or below entry k: `place` leads to the entry, and `rest` from there to the mark, which u need not have.
pub record MarkUnder (pattern u : Term Variable) (h k : ℕ) : Type 0 where
  pub name : Range × ℕ
  pub place : Place
  pub rest : Place
  pub subterm : Term Variable
  pub stands : MarkAt pattern (place ++ rest) name
  pub under : subterm_at place u ≡ some subterm
  pub entry : h + entry_at place u ≡ k

-- One stands at, above or below entry k.
abbrev pub MarkAround : Term Variable → Term Variable → ℕ → ℕ → Type 0
MarkAround pattern u h k = MarkOver pattern u h k ⊎ MarkUnder pattern u h k

-- The pattern p matches u, and laid on it covers entry k.
abbrev pub Lays : List Atom → Term Variable → ℕ → ℕ → Term Variable → Type 0
Lays atoms u h k p = Matches atoms p u × MarkOver p u h k

-- The pattern p shares an instance with u, and has a mark at, above or below entry k.
abbrev pub LaysAround : List Atom → Term Variable → ℕ → ℕ → Term Variable → Type 0
LaysAround atoms u h k p = Share atoms p u × MarkAround p u h k

-- What laying a pattern asks for: the term at entry h of e is the pattern with its variables replaced.
pub record Laying (p e : List ℕ) (h : ℕ) : Type 0 where
  pub pattern : Begins p
  pub term : Begins (from (4 * h) e)
  pub match : Becomes (term_of p) (sub_at e h)
  pub inside : 4 * h ≤ length e
  pub short : length e ≤ most_term_bytes

-- What laying a pattern around asks for: the pattern's part at entry i of p, which has no marks from entry `last` on, a term at
-- entry h of e, and the sizes of both.
pub record LayingAround (p y : List ℕ) (last i : ℕ) (e z : List ℕ) (h : ℕ) : Type 0 where
  pub pattern : Begins (from (4 * i) p)
  pub term : Begins (from (4 * h) e)
  pub pattern_inside : 4 * i < length p
  pub inside : 4 * h < length e
  pub pattern_short : length p ≤ most_term_bytes
  pub short : length e ≤ most_term_bytes
  pub pattern_sizes : SizesOf p y
  pub behind : (k : ℕ) → last ≤ k → ¬ MarkedTag (get_or p (4 * k) 0)
  pub sizes : SizesOf e z

-- The file is laid, and a term stands at entry h of e.
pub record Standing (file e : List ℕ) (h : ℕ) : Type 0 where
  pub laid : Laid file
  pub term : Begins (from (4 * h) e)
  pub inside : 4 * h < length e
  pub short : length e ≤ most_term_bytes

-- What a bad pattern laid on the subterm u at entry h cancels, and may cancel, for entry k.
abbrev pub CancelsOver : Term Variable → Term Variable → ℕ → ℕ → Type 0
CancelsOver bad u h k = (¬ Marked bad) ⊎ MarkOver bad u h k

abbrev pub MayCancelOver : Term Variable → Term Variable → ℕ → ℕ → Type 0
MayCancelOver bad u h k = (¬ Marked bad) ⊎ MarkAround bad u h k

-- A sure hat for entry k: the subterm u at entry h, a good pattern with its variables replaced by terms, a mark at or
-- above the entry, that shares an instance with no bad pattern that counts for the entry.
pub record HatOver (certificate : Certificate) (u : Term Variable) (h k : ℕ) : Type 0 where
  pub good : Term Variable
  pub listed : Good certificate good
  pub match : Matches certificate.atoms good u
  pub mark : MarkOver good u h k
  pub not_bad : (bad : Term Variable) → Bad certificate bad → Share certificate.atoms bad u → MayCancelOver bad u h k → ⊥

-- There is one among the first n entries.
pub record HatBelow (certificate : Certificate) (e : List ℕ) (n k : ℕ) : Type 0 where
  pub over : ℕ
  pub before : over < n
  pub hat : HatOver certificate (sub_at e over) over k

-- The flags are on where P holds.
pub record Flags (flags : List Bool) (P : ℕ → Type 0) : Type 0 where
  pub long : length flags ≡ entry_flags
  pub on : (k : ℕ) → On flags k ↔ P k

-- The entries of a term, or none: a rule's premise.
pub record Entries (e : List ℕ) : Type 0 where
  pub some_term : ¬ (length e ≡ 0) → Begins e
  pub whole : ¬ (length e ≡ 0) → 4 * size (term_of e) ≡ length e
  pub short : length e ≤ most_term_bytes

-- What an open entry k may have above it: the subterm u at entry h, which shares an instance with no good pattern, or is a
-- bad pattern with its variables replaced by terms that counts for the entry.
pub data NoHatOver (certificate : Certificate) (u : Term Variable) (h k : ℕ) : Type 0 where
  shares_no_good : ((good : Term Variable) → Good certificate good → Share certificate.atoms good u → ⊥) → NoHatOver certificate u h k
  is_bad : {bad : Term Variable} → Bad certificate bad → Matches certificate.atoms bad u → CancelsOver bad u h k → NoHatOver certificate u h k

-- Entry k is open as far as the first n entries go: every encryption among them that stands strictly above it is such.
pub record OpenBelow (certificate : Certificate) (e : List ℕ) (n k : ℕ) : Type 0 where
  pub inside : k < size (term_of e)
  pub every : (h : ℕ) → h < n → get_or e (4 * h) 0 ≡ 3 → h < k → k < h + size (sub_at e h) → NoHatOver certificate (sub_at e h) h k

-- Of the entries strictly below entry h, if it is an encryption, those are closed that may not have it above them.
pub record ClosedBelow (certificate : Certificate) (old new : List Bool) (e : List ℕ) (h : ℕ) : Type 0 where
  pub long : length new ≡ entry_flags
  pub on : (k : ℕ) → On new k ↔ (On old k × (get_or e (4 * h) 0 ≡ 3 → h < k → k < h + size (sub_at e h) → NoHatOver certificate (sub_at e h) h k))

-- Entry k is an open place of the term, if there is one.
pub record OpenEntry (certificate : Certificate) (e : List ℕ) (k : ℕ) : Type 0 where
  pub some_entry : ¬ (length e ≡ 0)
  pub is_open : OpenBelow certificate e (size (term_of e)) k

-- P holds of the subterm at an open entry that stands at a place.
pub record OpenHolds (certificate : Certificate) (e : List ℕ) (P : Term Variable → Type 0) : Type 0 where
  pub number : ℕ
  pub place : PlaceEntry e number
  pub is_open : OpenEntry certificate e number
  pub holds : P (sub_at e number)

-- The flags are on at the wanted entries that are open as far as the first n entries go; at those that are open.
pub record OpenAmong (certificate : Certificate) (e : List ℕ) (wanted : List Bool) (n : ℕ) (flags : List Bool) : Type 0 where
  pub long : length flags ≡ entry_flags
  pub on : (k : ℕ) → On flags k ↔ (On wanted k × OpenBelow certificate e n k)

pub record OpenFlags (certificate : Certificate) (e : List ℕ) (wanted flags : List Bool) : Type 0 where
  pub long : length flags ≡ entry_flags
  pub on : (k : ℕ) → On flags k ↔ (On wanted k × OpenEntry certificate e k)

-- What a search through flagged entries asks for.
pub record Flagged (e : List ℕ) (flags : List Bool) : Type 0 where
  pub entries : Entries e
  pub long : length flags ≡ entry_flags
  pub within : (k : ℕ) → On flags k → 4 * k < length e

-- Entry k is flagged, and P holds of the subterm there.
pub record FlaggedWith (e : List ℕ) (flags : List Bool) (P : Term Variable → Type 0) (k : ℕ) : Type 0 where
  pub on : On flags k
  pub holds : P (sub_at e k)

pub record SomeFlagged (e : List ℕ) (flags : List Bool) (P : Term Variable → Type 0) : Type 0 where
  pub number : ℕ
  pub is : FlaggedWith e flags P number

-- A table of the flagged entries by the slots of their roots: a slot has the number of a flagged entry, counted from 1, and
-- the slot of each flagged entry has one; which of several with one slot it has is left open. (Of those below n: as far as
-- it is filled in.)
pub record IndexedBelow (e : List ℕ) (flags : List Bool) (n : ℕ) (index : List ℕ) : Type 0 where
  pub long : length index ≡ root_slots
  pub points : (s : ℕ) → ¬ (get_or index s 0 ≡ 0) → On flags (get_or index s 0 - 1)
  pub noted : (k : ℕ) → k < n → On flags k → ¬ (get_or index (slot_at (from (4 * k) e)) 0 ≡ 0)

abbrev pub Indexed : List ℕ → List Bool → List ℕ → Type 0
Indexed e flags index = IndexedBelow e flags entry_flags index

-- Entry k is one of these entries, at a place, and P holds of it.
pub record EntryWith (e : List ℕ) (P : ℕ → Type 0) (k : ℕ) : Type 0 where
  pub inside : 4 * k < length e
  pub place : PlaceEntry e k
  pub holds : P k

-- Entry k of the conclusion is risky.
abbrev pub RiskyEntry : Certificate → List ℕ → ℕ → Type 0
RiskyEntry certificate e = EntryWith e (λ k. Risky certificate (sub_at e k))

-- It is, and that is asked.
abbrev pub AskedEntry : Bool → Certificate → List ℕ → ℕ → Type 0
AskedEntry asked certificate e = EntryWith e (λ k. (asked ≡ true) × Risky certificate (sub_at e k))

-- Whether entry k of the premise is open matters: a listed secret stands there, or a risky subterm of the conclusion.
pub data Wanted (certificate : Certificate) (premise conclusion : List ℕ) (risky : List Bool) (k : ℕ) : Type 0 where
  is_secret : IsSecret certificate (sub_at premise k) → Wanted certificate premise conclusion risky k
  is_risky : SomeFlagged conclusion risky (λ s. s ≡ sub_at premise k) → Wanted certificate premise conclusion risky k

abbrev pub WantedEntry : Certificate → List ℕ → List ℕ → List Bool → ℕ → Type 0
WantedEntry certificate premise conclusion risky = EntryWith premise (Wanted certificate premise conclusion risky)

-- Entry k of the conclusion, if it stands at a place and is risky, is covered.
pub record FineEntry (certificate : Certificate) (premise conclusion : List ℕ) (k : ℕ) : Type 0 where
  pub covered : PlaceEntry conclusion k → Risky certificate (sub_at conclusion k)
      → HatBelow certificate conclusion (size (term_of conclusion)) k ⊎ OpenHolds certificate premise (λ s. s ≡ sub_at conclusion k)

-- What the walks over a rule's conclusion ask for.
pub record Concluded (file e : List ℕ) : Type 0 where
  pub laid : Laid file
  pub term : Begins e
  pub whole : 4 * size (term_of e) ≡ length e
  pub short : length e ≤ most_term_bytes

-- The block before block i is a rule.
pub record AfterRule (file : List ℕ) (i : ℕ) : Type 0 where
  pub behind : 1 ≤ i
  pub rule : kind_of (block_at file (i - 1)) ≡ rule_kind

-- Block i has the same part as the rule before it.
pub record Repeats (part : List ℕ → List ℕ) (file : List ℕ) (i : ℕ) : Type 0 where
  pub after : AfterRule file i
  pub same : part (block_at file (i - 1)) ≡ part (block_at file i)

-- What is remembered before block i is judged: it is about a part of the block before it, if that is a rule.
pub record Carried (part : List ℕ → List ℕ) (P : Term Variable → Type 0) (file : List ℕ) (i : ℕ) (memo : List (Option Bool)) : Type 0 where
  pub long : length memo ≡ entry_flags
  pub known : AfterRule file i → Remembered P (part (block_at file (i - 1))) memo
