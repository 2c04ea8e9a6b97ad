-- What acceptance and each refusal mean (document 01, "Verdicts", and 02, No. 1 and No. 4). That `verdict_of` says just this is proved in
-- proofs/Files/Verdicts.antt.
use Rattle.std.specs.Prelude.{◌≡◌, List, ℕ, suc, ◌+◌, ◌*◌, ◌%◌, ◌<◌, ◌≤◌, length}
use Rattle.std.proofs.Math.Option.{some}
use Rattle.blocks.specs.Kinds.{atoms_kind, secret_kind, good_kind, bad_kind, rule_kind, ListsTerm, HoldsTerms}
use Rattle.blocks.specs.Limits.{block_size, most_bytes, most_entries, most_atom_blocks}
use Rattle.blocks.specs.Block.{block_at, kind_of, first_count, second_count, first_entries, second_entries}
use Rattle.blocks.specs.Check.{CheckRight}
use Rattle.blocks.specs.Layout.{LayoutRight}
use Rattle.terms.specs.Term.{Term, Variable}
use Rattle.terms.specs.Place.{Place, IsPlace}
use Rattle.terms.specs.Entry.{entry_at, Placed, term_of}
use Rattle.terms.specs.declared.atom.Atom.{Atom}
use Rattle.terms.specs.Atom.{AtomRight}
use Rattle.terms.specs.TermEntry.{EntryRight}
use Rattle.terms.specs.Each.{EntryIs}
use Rattle.terms.specs.OneTerm.{OneTerm, IsEncryption}
use Rattle.judge.specs.declared.verdict.Fault.{Fault}
use Rattle.judge.specs.declared.verdict.Fault.TheVariants.{Length, Check, Kind, Missing, Layout, AtomEntry, TermEntry}
use Rattle.judge.specs.declared.verdict.Fault.TheVariants.{NotOneTerm, KnownSecret, NotClosed, KeyNotKept, Uncovered, OpenSecret}
use Rattle.judge.specs.Certificate.{Certificate, Rule}
use Rattle.judge.specs.File.{block_count, pattern_of, secret_of, rule_of, certificate_of, TwoAtomBlocks, file_atoms, used_entries}
use Rattle.judge.specs.Cover.{SecretOpenAt, HasOpenSecret, Risky, Covered, Passes, FineAt}
use Rattle.judge.specs.Conditions.{KnownAtom, WeaklyClosed, KeptKey}

-- 1: not length 0, a multiple of 512, not above 32,768.
pub record LengthRight (file : List ℕ) : Type 0 where
  pub some_byte : 1 ≤ length file
  pub whole : length file % block_size ≡ 0
  pub most : length file ≤ most_bytes

-- 3: the first block has kind 1, and the second may (02, No. 1); else a block after the first has a kind from 2 to 5, not
-- below that of the block before it.
pub data KindRight (file : List ℕ) (i : ℕ) : Type 0 where
  atom_block : i < most_atom_blocks → kind_of (block_at file i) ≡ atoms_kind → KindRight file i
  later : {j : ℕ} → i ≡ suc j → secret_kind ≤ kind_of (block_at file i) → kind_of (block_at file i) ≤ rule_kind
      → kind_of (block_at file j) ≤ kind_of (block_at file i) → KindRight file i

-- 5: the layout is right, and before a second atom block there is "a full first block" (02, No. 1).
pub record LaidOut (file : List ℕ) (i : ℕ) : Type 0 where
  pub layout : LayoutRight (block_at file i)
  pub full : i ≡ 1 → TwoAtomBlocks file → first_count (block_at file 0) ≡ most_entries

-- Numbers 2, 3 and 5 find nothing at block i.
pub record Shaped (file : List ℕ) (i : ℕ) : Type 0 where
  pub check : CheckRight (block_at file i)
  pub kind : KindRight file i
  pub laid : LaidOut file i

-- "The last atom block" (02, No. 1): block i is an atom block, and not the first of two.
abbrev pub NotFirstOfTwo : List ℕ → ℕ → Type 0
NotFirstOfTwo file i = i ≡ 0 → ¬ TwoAtomBlocks file

pub record LastAtoms (file : List ℕ) (i : ℕ) : Type 0 where
  pub is : kind_of (block_at file i) ≡ atoms_kind
  pub last : NotFirstOfTwo file i

-- 6: entry n of atom block j is right. "The second's atoms are numbered on from 126; a place still counts within its
-- block" (02, No. 1).
abbrev pub AtomEntryRight : List ℕ → ℕ → ℕ → Type 0
AtomEntryRight file j n = AtomRight (file_atoms file) (most_entries * j + n)

-- Those of one block.
abbrev pub AtomEntriesRight : List ℕ → ℕ → Type 0
AtomEntriesRight file j = (n : ℕ) → n < first_count (block_at file j) → AtomEntryRight file j n

-- 7: entry n of a block is right. Premise and conclusion are counted together.
abbrev pub TermEntryRight : List Atom → List ℕ → ℕ → Type 0
TermEntryRight atoms b n = EntryIs (EntryRight atoms (kind_of b)) (used_entries b) n

abbrev pub EntriesRight : List Atom → List ℕ → Type 0
EntriesRight atoms b = (n : ℕ) → n < first_count b + second_count b → TermEntryRight atoms b n

-- 8: the entries are exactly one term, and a pattern's root is an encryption.
pub record PatternRight (b : List ℕ) : Type 0 where
  pub one : OneTerm (first_entries b)
  pub root : good_kind ≤ kind_of b → kind_of b ≤ bad_kind → IsEncryption (term_of (first_entries b))

-- A premise of no entries is none.
abbrev pub PremiseRight : List ℕ → Type 0
PremiseRight b = (first_count b ≡ 0 → ⊥) → OneTerm (first_entries b)

-- Numbers 2, 3, 5, 6, 7 and 8 find nothing at block i.
pub record BlockRight (file : List ℕ) (i : ℕ) : Type 0 where
  pub shaped : Shaped file i
  pub atoms : LastAtoms file i → (j : ℕ) → j ≤ i → AtomEntriesRight file j
  pub entries : HoldsTerms (kind_of (block_at file i)) → EntriesRight (file_atoms file) (block_at file i)
  pub pattern : ListsTerm (kind_of (block_at file i)) → PatternRight (block_at file i)
  pub premise : kind_of (block_at file i) ≡ rule_kind → PremiseRight (block_at file i)
  pub conclusion : kind_of (block_at file i) ≡ rule_kind → OneTerm (second_entries (block_at file i))

-- What they find first: the condition fails, and what the order puts before it in this block holds.
pub data BlockFaulty (file : List ℕ) (i : ℕ) (fault : Fault) : Type 0 where
  -- 2
  check_fails : fault ≡ Check i → ¬ CheckRight (block_at file i) → BlockFaulty file i fault
  -- 3
  kind_fails : fault ≡ Kind i → CheckRight (block_at file i) → ¬ KindRight file i → BlockFaulty file i fault
  -- 5
  layout_fails : fault ≡ Layout i → CheckRight (block_at file i) → KindRight file i → ¬ LaidOut file i → BlockFaulty file i fault
  -- 6: "judged for both once the last atom block has passed 2, 3 and 5" (02, No. 1), so that block j may be an earlier one.
  atom_fails : {j n : ℕ} → fault ≡ AtomEntry j n → Shaped file i → LastAtoms file i → j ≤ i
      → n < first_count (block_at file j) → ¬ AtomEntryRight file j n
      → ((k : ℕ) → k < n → AtomEntryRight file j k) → ((h : ℕ) → h < j → AtomEntriesRight file h) → BlockFaulty file i fault
  -- 7
  entry_fails : {n : ℕ} → fault ≡ TermEntry i n → Shaped file i → HoldsTerms (kind_of (block_at file i))
      → n < first_count (block_at file i) + second_count (block_at file i) → ¬ TermEntryRight (file_atoms file) (block_at file i) n
      → ((k : ℕ) → k < n → TermEntryRight (file_atoms file) (block_at file i) k) → BlockFaulty file i fault
  -- 8
  pattern_fails : fault ≡ NotOneTerm i 0 → Shaped file i → ListsTerm (kind_of (block_at file i))
      → EntriesRight (file_atoms file) (block_at file i) → ¬ PatternRight (block_at file i) → BlockFaulty file i fault
  premise_fails : fault ≡ NotOneTerm i 0 → Shaped file i → kind_of (block_at file i) ≡ rule_kind
      → EntriesRight (file_atoms file) (block_at file i) → ¬ PremiseRight (block_at file i) → BlockFaulty file i fault
  conclusion_fails : fault ≡ NotOneTerm i (first_count (block_at file i)) → Shaped file i → kind_of (block_at file i) ≡ rule_kind
      → EntriesRight (file_atoms file) (block_at file i) → PremiseRight (block_at file i)
      → ¬ OneTerm (second_entries (block_at file i)) → BlockFaulty file i fault

-- 4: the file has a block of this kind.
pub record HasKind (kind : ℕ) (file : List ℕ) : Type 0 where
  pub block : ℕ
  pub inside : block < block_count file
  pub same : kind_of (block_at file block) ≡ kind

-- Numbers 1 to 8 find nothing.
pub record Formed (file : List ℕ) : Type 0 where
  pub long : LengthRight file
  pub blocks : (i : ℕ) → i < block_count file → BlockRight file i
  pub secret : HasKind secret_kind file
  pub rule : HasKind rule_kind file

-- P of the blocks of this kind before block n, and of all of them.
abbrev pub EveryBefore : ℕ → ℕ → List ℕ → (List ℕ → Type 0) → Type 0
EveryBefore n kind file P = (i : ℕ) → i < n → kind_of (block_at file i) ≡ kind → P (block_at file i)

abbrev pub Every : ℕ → List ℕ → (List ℕ → Type 0) → Type 0
Every kind file P = EveryBefore (block_count file) kind file P

-- What 9, 10, 11, 15 and 12 ask of a block: its secret is no known atom, and is weakly closed; of its good pattern, the
-- inverse of the root key is a listed secret; its rule's premise has no listed secret at an open place, and the rule passes.
abbrev pub SecretNotKnown : Certificate → List ℕ → Type 0
SecretNotKnown certificate b = ¬ KnownAtom certificate (secret_of b)

abbrev pub SecretClosed : Certificate → List ℕ → Type 0
SecretClosed certificate b = WeaklyClosed certificate (secret_of b)

abbrev pub RootKeyKept : Certificate → List ℕ → Type 0
RootKeyKept certificate b = KeptKey certificate (pattern_of b)

abbrev pub NoOpenSecret : Certificate → List ℕ → Type 0
NoOpenSecret certificate b = ¬ HasOpenSecret certificate (rule_of b)

abbrev pub Passing : Certificate → List ℕ → Type 0
Passing certificate b = Passes certificate (rule_of b)

-- "The place named is the first such entry" (02, No. 4): a listed secret stands at an open place of the premise, at entry k,
-- and at no open place before it.
pub record FirstOpenSecret (certificate : Certificate) (rule : Rule) (k : ℕ) : Type 0 where
  pub premise : Term Variable
  pub given : rule.premise ≡ some premise
  pub place : Place
  pub entry : entry_at place premise ≡ k
  pub open_secret : SecretOpenAt certificate premise place
  pub before : (p : Place) → SecretOpenAt certificate premise p → k ≤ entry_at p premise

-- The first uncovered place of a rule: it stands at entry k of the conclusion, and no place at an entry before is uncovered. (Not
-- every entry stands at a place: 02, No. 7. A place's number is that of its entry.)
-- (The entries from k on begin with the subterm there: `placed-entry` of proofs/Files/Spots.antt.)
pub record FirstUncovered (certificate : Certificate) (rule : Rule) (k : ℕ) : Type 0 where
  pub place : Place
  pub subterm : Term Variable
  pub stands : Placed rule.conclusion k place subterm
  pub is_place : IsPlace rule.conclusion place
  pub risky : Risky certificate subterm
  pub bare : ¬ Covered certificate rule place subterm
  pub before : (m : ℕ) → m < k → FineAt certificate rule m

-- Accepted: every condition of document 01 holds, and that of 02, No. 4.
pub record Accepts (file : List ℕ) : Type 0 where
  pub formed : Formed file
  pub unknown : Every secret_kind file (SecretNotKnown (certificate_of file))
  pub closed : Every secret_kind file (SecretClosed (certificate_of file))
  pub kept : Every good_kind file (RootKeyKept (certificate_of file))
  pub no_open_secret : Every rule_kind file (NoOpenSecret (certificate_of file))
  pub passing : Every rule_kind file (Passing (certificate_of file))

-- Block i is of this kind, P fails there, and holds of the blocks of this kind before it.
pub record FirstAt (i kind : ℕ) (file : List ℕ) (P : List ℕ → Type 0) : Type 0 where
  pub inside : i < block_count file
  pub is : kind_of (block_at file i) ≡ kind
  pub fails : ¬ P (block_at file i)
  pub before : EveryBefore i kind file P

-- Refused: the condition fails, and all that the documents' order puts before it holds.
pub data RefusedWith (file : List ℕ) (fault : Fault) : Type 0 where
  -- 1
  length_fails : fault ≡ Length → ¬ LengthRight file → RefusedWith file fault
  -- 2, 3, 5, 6, 7, 8
  block_fails : {i : ℕ} → LengthRight file → i < block_count file → ((j : ℕ) → j < i → BlockRight file j)
      → BlockFaulty file i fault → RefusedWith file fault
  -- 4
  missing : fault ≡ Missing (block_count file) → LengthRight file → ((i : ℕ) → i < block_count file → BlockRight file i)
      → ¬ (HasKind secret_kind file × HasKind rule_kind file) → RefusedWith file fault
  -- 9
  secret_known : {i : ℕ} → fault ≡ KnownSecret i → Formed file → FirstAt i secret_kind file (SecretNotKnown (certificate_of file))
      → KnownAtom (certificate_of file) (secret_of (block_at file i)) → RefusedWith file fault
  -- 10
  secret_not_closed : {i : ℕ} → fault ≡ NotClosed i → Formed file → Every secret_kind file (SecretNotKnown (certificate_of file))
      → FirstAt i secret_kind file (SecretClosed (certificate_of file)) → RefusedWith file fault
  -- 11
  key_not_kept : {i : ℕ} → fault ≡ KeyNotKept i → Formed file → Every secret_kind file (SecretNotKnown (certificate_of file))
      → Every secret_kind file (SecretClosed (certificate_of file)) → FirstAt i good_kind file (RootKeyKept (certificate_of file)) → RefusedWith file fault
  -- 15 (02, No. 4): "over all rules in file order after 11 and before any 12". The premise's entries are the block's first.
  secret_open : {i k : ℕ} → fault ≡ OpenSecret i k → Formed file
      → Every secret_kind file (SecretNotKnown (certificate_of file)) → Every secret_kind file (SecretClosed (certificate_of file))
      → Every good_kind file (RootKeyKept (certificate_of file)) → FirstAt i rule_kind file (NoOpenSecret (certificate_of file))
      → FirstOpenSecret (certificate_of file) (rule_of (block_at file i)) k → RefusedWith file fault
  -- 12: the place is the entry's number in the block.
  place_uncovered : {i k : ℕ} → fault ≡ Uncovered i (first_count (block_at file i) + k) → Formed file
      → Every secret_kind file (SecretNotKnown (certificate_of file)) → Every secret_kind file (SecretClosed (certificate_of file))
      → Every good_kind file (RootKeyKept (certificate_of file)) → Every rule_kind file (NoOpenSecret (certificate_of file))
      → FirstAt i rule_kind file (Passing (certificate_of file))
      → FirstUncovered (certificate_of file) (rule_of (block_at file i)) k → RefusedWith file fault
