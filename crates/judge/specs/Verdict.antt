-- The verdict of a file (document 01, "Verdicts"), in the order "1; per block in file order 2, 3, 5, 6 or 7, 8 (entries
-- rising, premise before conclusion); then 4; then 9, 10, 11, 12, each over all blocks in file order". Of two atom blocks,
-- "number 6 is judged for both once the last atom block has passed 2, 3 and 5" (02, No. 1); 15 comes "over all rules in file
-- order after 11 and before any 12" (02, No. 4). `none` is: no fault here.
use Rattle.std.specs.Prelude.{Bool, true, false, ◌&&◌, List, [], ℕ, zero, suc, ◌+◌, ◌/◌, ◌%◌, eqb, leb, ltb, length, get_or, Some, None}
use Rattle.std.proofs.Math.Option.{Option, none, some}
use Rattle.blocks.specs.Kinds.{atoms_kind, secret_kind, good_kind, bad_kind, rule_kind}
use Rattle.blocks.specs.Limits.{block_size, most_bytes, most_entries, most_atom_blocks}
use Rattle.blocks.specs.Block.{block_at, kind_of, first_count, entries_of, first_entries, second_entries}
use Rattle.blocks.specs.Check.{check_right, check_a, check_b, total, weighted}
use Rattle.blocks.specs.Layout.{within, layout_right, counts_right, zero_from, all_zero}
use Rattle.terms.specs.First.{Found, first_not}
use Rattle.terms.specs.Entry.{term_of, size}
use Rattle.terms.specs.declared.atom.Atom.{Atom}
use Rattle.terms.specs.Atom.{atoms_of, wrong_atom}
use Rattle.terms.specs.TermEntry.{wrong_entry}
use Rattle.terms.specs.OneTerm.{encryption?}
use Rattle.terms.specs.Reading.{one_term?}
use Rattle.terms.specs.Decisions.{dec_implies, dec_not}
use Rattle.terms.specs.Term.{Term, Variable}
use Rattle.terms.specs.Place.{IsPlace, Spot, spots}
use Rattle.terms.specs.Search.{is_place?}
use Rattle.terms.specs.Decide.{answer}
use Rattle.judge.specs.declared.verdict.Fault.{Fault}
use Rattle.judge.specs.declared.verdict.Fault.TheVariants.{Length, Check, Kind, Missing, Layout, AtomEntry, TermEntry}
use Rattle.judge.specs.declared.verdict.Fault.TheVariants.{NotOneTerm, KnownSecret, NotClosed, KeyNotKept, Uncovered, OpenSecret}
use Rattle.judge.specs.declared.listed.Condition.{Condition}
use Rattle.judge.specs.declared.listed.Condition.TheVariants.{NotKnown, Closed, Kept}
use Rattle.judge.specs.declared.verdict.Verdict.{Verdict}
use Rattle.judge.specs.declared.verdict.Verdict.TheVariants.{Accepted, Refused}
use Rattle.judge.specs.Certificate.{Certificate, Rule}
use Rattle.judge.specs.File.{block_count, blocks_from, blocks_of, of_kind, pattern_of, secret_of, rule_of, certificate_of}
use Rattle.judge.specs.File.{file_atoms, more_entries, used_entries, kind_count, counts_of}
use Rattle.judge.specs.Cover.{SecretOpenAt, Risky, Covered}
use Rattle.judge.specs.Meaning.{SecretNotKnown, SecretClosed, RootKeyKept}
use Rattle.judge.specs.Decisions.{known_atom?, weakly_closed?, kept_key?, secret_open?, risky?, covered?}

-- ---- number 1

-- 1: "length 0, not a multiple of 512, or above 32,768".
unfoldable pub length_right : List ℕ → Bool
length_right file = leb 1 (length file) && (eqb (length file % block_size) 0 && leb (length file) most_bytes)

unfoldable pub length_fault : List ℕ → Option Fault
length_fault file = elim (length_right file) [ true ↦ none | false ↦ some Length ]

-- ---- numbers 2, 3, 5, 6, 7, 8: at block i

-- 3: the first block has kind 1, and the second may (02, No. 1); else a block after the first has a kind from 2 to 5, not
-- below that of the block before it.
unfoldable pub later_kind : List ℕ → ℕ → Bool
later_kind file zero = false
later_kind file (suc i) =
    within secret_kind rule_kind (kind_of (block_at file (suc i))) && leb (kind_of (block_at file i)) (kind_of (block_at file (suc i)))

unfoldable pub kind_right : List ℕ → ℕ → Bool
unfolding later_kind
kind_right file i = elim (eqb (kind_of (block_at file i)) atoms_kind) [ true ↦ ltb i most_atom_blocks | false ↦ later_kind file i ]

-- A second atom block stands behind a full first one (02, No. 1).
unfoldable pub behind_full : List ℕ → ℕ → Bool
behind_full file i = elim (eqb i 1 && eqb (kind_of (block_at file 1)) atoms_kind) [
  | true ↦ eqb (first_count (block_at file 0)) most_entries
  | false ↦ true
]

-- 5: "a count, byte 3 or an unused entry wrong", or a first atom block that is not full before a second.
unfoldable pub laid_out : List ℕ → ℕ → Bool
unfolding behind_full
laid_out file i = layout_right (block_at file i) && behind_full file i

-- 6: "atom entry wrong", in block 0 and then in a second atom block; "a place still counts within its block" (02, No. 1).
abbrev pub atom_entry : ℕ → Fault
atom_entry n = AtomEntry (n / most_entries) (n % most_entries)

unfoldable pub atom_fault : List ℕ → Option Fault
atom_fault file = elim (wrong_atom (file_atoms file)) [ Some n ↦ some (atom_entry n) | None ↦ none ]

-- "Once the last atom block has passed 2, 3 and 5": not at block 0 if a second follows.
unfoldable pub atoms_fault : List ℕ → ℕ → Option Fault
atoms_fault file i = elim (eqb i 0 && eqb (kind_of (block_at file 1)) atoms_kind) [ true ↦ none | false ↦ atom_fault file ]

-- 7: "tag, zero byte or value wrong, or variable not allowed here", over all entries of the block.
unfoldable pub entry_fault : List Atom → ℕ → List ℕ → Option Fault
entry_fault atoms i b =
    elim (wrong_entry atoms (kind_of b) (used_entries b)) [ Some n ↦ some (TermEntry i n) | None ↦ none ]

-- A pattern's root is an encryption; the patterns are of kinds 3 and 4.
unfoldable pub root_right : ℕ → List ℕ → Bool
root_right kind e = elim (within good_kind bad_kind kind) [ true ↦ answer (encryption? (term_of e)) | false ↦ true ]

-- 8: "entries are not exactly one term, or a pattern's root is no encryption". Kinds 2 to 4 hold one term.
unfoldable pub pattern_fault : ℕ → List ℕ → Option Fault
pattern_fault i b = elim (answer (one_term? (first_entries b))) [
  | false ↦ some (NotOneTerm i 0)
  | true ↦ elim (root_right (kind_of b) (first_entries b)) [ false ↦ some (NotOneTerm i 0) | true ↦ none ]
]

-- 8 for the conclusion of a rule.
unfoldable pub conclusion_fault : ℕ → List ℕ → Option Fault
conclusion_fault i b = elim (answer (one_term? (second_entries b))) [ false ↦ some (NotOneTerm i (first_count b)) | true ↦ none ]

-- 8 for a rule: premise before conclusion. A premise of no entries is none.
unfoldable pub rule_parts_fault : ℕ → List ℕ → Option Fault
rule_parts_fault i b = elim (eqb (first_count b) 0) [
  | true ↦ conclusion_fault i b
  | false ↦ elim (answer (one_term? (first_entries b))) [ false ↦ some (NotOneTerm i 0) | true ↦ conclusion_fault i b ]
]

unfoldable pub term_fault : ℕ → List ℕ → Option Fault
term_fault i b = elim (eqb (kind_of b) rule_kind) [ true ↦ rule_parts_fault i b | false ↦ pattern_fault i b ]

-- 6 for the atoms, else 7 and then 8.
unfoldable pub entries_fault : List ℕ → ℕ → Option Fault
entries_fault file i = elim (eqb (kind_of (block_at file i)) atoms_kind) [
  | true ↦ atoms_fault file i
  | false ↦ elim (entry_fault (file_atoms file) i (block_at file i)) [ some f ↦ some f | none ↦ term_fault i (block_at file i) ]
]

-- 2: "check wrong"; 3: "kind out of order or unknown"; 5; then 6 to 8.
unfoldable pub block_fault : List ℕ → ℕ → Option Fault
block_fault file i = elim (check_right (block_at file i)) [
  | false ↦ some (Check i)
  | true ↦ elim (kind_right file i) [
    | false ↦ some (Kind i)
    | true ↦ elim (laid_out file i) [
      | false ↦ some (Layout i)
      | true ↦ entries_fault file i
    ]
  ]
]

-- The first fault of the blocks from block i on, so many of them, each judged by its number.
unfoldable pub first_fault : (ℕ → Option Fault) → ℕ → ℕ → Option Fault
first_fault judged i zero = none
first_fault judged i (suc left) = elim (judged i) [ some f ↦ some f | none ↦ first_fault judged (suc i) left ]

-- One fault, or else another.
abbrev pub or_fault : Option Fault → Option Fault → Option Fault
or_fault fault other = elim fault [ some f ↦ some f | none ↦ other ]

unfoldable pub form_from : List ℕ → ℕ → ℕ → Option Fault
form_from file i left = first_fault (block_fault file) i left

unfoldable pub form_fault : List ℕ → Option Fault
form_fault file = form_from file 0 (block_count file)

-- ---- number 4

-- 4: "no secret or no rule".
unfoldable pub missing_fault : List ℕ → Option Fault
missing_fault file = elim (leb 1 (kind_count secret_kind file) && leb 1 (kind_count rule_kind file)) [ true ↦ none | false ↦ some (Missing (block_count file)) ]

-- ---- numbers 9 to 12, and 15: the certificate

-- Block i, if it is of this kind.
unfoldable pub on_kind : ℕ → (ℕ → List ℕ → Option Fault) → List ℕ → ℕ → Option Fault
on_kind kind judged file i = elim (eqb (kind_of (block_at file i)) kind) [ true ↦ judged i (block_at file i) | false ↦ none ]

-- The first fault of the blocks of this kind.
unfoldable pub kind_fault : ℕ → (ℕ → List ℕ → Option Fault) → List ℕ → Option Fault
kind_fault kind judged file = first_fault (on_kind kind judged file) 0 (block_count file)

-- 9, 10 and 11: the kind of block that each asks, what it asks of a block, and its fault at block i: "a secret is a known
-- atom", "secret not weakly closed", "inverse of a good pattern's root key is not a listed secret".
abbrev pub kind_asked : Condition → ℕ
kind_asked NotKnown = secret_kind
kind_asked Closed = secret_kind
kind_asked Kept = good_kind

abbrev pub Meets : Condition → Certificate → List ℕ → Type 0
Meets NotKnown certificate b = SecretNotKnown certificate b
Meets Closed certificate b = SecretClosed certificate b
Meets Kept certificate b = RootKeyKept certificate b

unfoldable pub meets? : (condition : Condition) (certificate : Certificate) (b : List ℕ) → Dec (Meets condition certificate b)
unfolding dec_not known_atom? weakly_closed? kept_key?
meets? NotKnown certificate b = dec_not (known_atom? certificate (secret_of b))
meets? Closed certificate b = weakly_closed? certificate (secret_of b)
meets? Kept certificate b = kept_key? certificate (pattern_of b)

abbrev pub fault_on : Condition → ℕ → Fault
fault_on NotKnown i = KnownSecret i
fault_on Closed i = NotClosed i
fault_on Kept i = KeyNotKept i

unfoldable pub condition_at : Condition → Certificate → ℕ → List ℕ → Option Fault
condition_at condition certificate i b = elim (answer (meets? condition certificate b)) [ true ↦ none | false ↦ some (fault_on condition i) ]

unfoldable pub condition_fault : Condition → Certificate → List ℕ → Option Fault
condition_fault condition certificate file = kind_fault (kind_asked condition) (condition_at condition certificate) file

-- The subterm at an entry, with the turns that lead to it.
unfoldable pub spot_at : Term Variable → ℕ → Spot Variable
spot_at t k = get_or (spots t) k ([], t)

-- No listed secret stands at this entry of the premise with its place open.
abbrev pub NoSecretSpot : Certificate → Term Variable → ℕ → Type 0
NoSecretSpot certificate premise k = ¬ SecretOpenAt certificate premise (spot_at premise k).0

unfoldable pub no_secret? : (certificate : Certificate) (premise : Term Variable) (k : ℕ) → Dec (NoSecretSpot certificate premise k)
no_secret? certificate premise k = dec_not (secret_open? certificate premise (spot_at premise k).0)

-- The first place of the premise that is open and has a listed secret.
unfoldable pub open_secret : Certificate → Rule → Found
open_secret certificate rule = elim rule.premise [ none ↦ None | some t ↦ first_not (no_secret? certificate t) (size t) ]

-- 15: "a rule whose premise has a listed secret at an open place; the place named is the first such entry" (02, No. 4).
unfoldable pub open_secret_rule : Certificate → ℕ → List ℕ → Option Fault
open_secret_rule certificate i b = elim (open_secret certificate (rule_of b)) [ Some k ↦ some (OpenSecret i k) | None ↦ none ]

unfoldable pub open_secret_fault : Certificate → List ℕ → Option Fault
open_secret_fault certificate file = kind_fault rule_kind (open_secret_rule certificate) file

-- This entry of the conclusion, if it stands at a place and is risky, is covered. (That is `FineAt`: `fine-spot` of
-- proofs/Files/Spots.antt.)
abbrev pub FineSpot : Certificate → Rule → ℕ → Type 0
FineSpot certificate rule k =
    IsPlace rule.conclusion (spot_at rule.conclusion k).0 → Risky certificate (spot_at rule.conclusion k).1
    → Covered certificate rule (spot_at rule.conclusion k).0 (spot_at rule.conclusion k).1

unfoldable pub fine? : (certificate : Certificate) (rule : Rule) (k : ℕ) → Dec (FineSpot certificate rule k)
fine? certificate rule k =
    dec_implies (is_place? rule.conclusion (spot_at rule.conclusion k).0)
    (λ p. dec_implies (risky? certificate (spot_at rule.conclusion k).1)
    (λ r. covered? certificate rule (spot_at rule.conclusion k).0 (spot_at rule.conclusion k).1))

-- The first risky place of the conclusion that is not covered.
unfoldable pub uncovered : Certificate → Rule → Found
uncovered certificate rule = first_not (fine? certificate rule) (size rule.conclusion)

-- 12: "risky place not covered"; the place is the entry's number in the block.
unfoldable pub uncovered_rule : Certificate → ℕ → List ℕ → Option Fault
uncovered_rule certificate i b =
    elim (uncovered certificate (rule_of b)) [ Some k ↦ some (Uncovered i (first_count b + k)) | None ↦ none ]

unfoldable pub uncovered_fault : Certificate → List ℕ → Option Fault
uncovered_fault certificate file = kind_fault rule_kind (uncovered_rule certificate) file

-- 15 over all rules, "before any 12" (02, No. 4).
unfoldable pub rule_fault : Certificate → List ℕ → Option Fault
rule_fault certificate file = or_fault (open_secret_fault certificate file) (uncovered_fault certificate file)

-- 9, 10, 11, then 15 and 12, each over all blocks.
unfoldable pub certificate_fault : Certificate → List ℕ → Option Fault
certificate_fault certificate file = elim (condition_fault NotKnown certificate file) [
  | some f ↦ some f
  | none ↦ elim (condition_fault Closed certificate file) [
    | some f ↦ some f
    | none ↦ elim (condition_fault Kept certificate file) [
      | some f ↦ some f
      | none ↦ rule_fault certificate file
    ]
  ]
]

-- ---- the verdict

-- The first fault in the documents' order.
unfoldable pub fault_of : List ℕ → Option Fault
fault_of file = elim (length_fault file) [
  | some f ↦ some f
  | none ↦ elim (form_fault file) [
    | some f ↦ some f
    | none ↦ elim (missing_fault file) [
      | some f ↦ some f
      | none ↦ certificate_fault (certificate_of file) file
    ]
  ]
]

-- "A verdict is accepted with its counts, or refused with the kind of fault inside it."
unfoldable pub verdict_of : List ℕ → Verdict
verdict_of file = elim (fault_of file) [ some f ↦ Refused f | none ↦ Accepted (counts_of file) ]

-- The same, for theorems by computation: `unfolding computing` opens all that the verdict of a whole file asks.
unfoldable pub computing : List ℕ → Verdict
unfolding verdict_of fault_of counts_of length_fault length_right form_fault form_from missing_fault certificate_fault
    condition_fault condition_at meets? dec_not rule_fault kind_fault on_kind first_fault open_secret_fault open_secret_rule open_secret
    no_secret? uncovered_fault uncovered_rule uncovered fine? spot_at
    block_fault kind_right later_kind laid_out behind_full file_atoms more_entries used_entries entries_fault atoms_fault atom_fault entry_fault term_fault pattern_fault rule_parts_fault conclusion_fault root_right kind_count
    blocks_of blocks_from of_kind pattern_of secret_of rule_of certificate_of
    block_at entries_of first_entries second_entries check_right check_a check_b total weighted layout_right counts_right zero_from
    all_zero atoms_of wrong_atom wrong_entry one_term? encryption? term_of size first_not spots dec_implies
    known_atom? weakly_closed? kept_key? secret_open? is_place? risky? covered?
computing file = verdict_of file
