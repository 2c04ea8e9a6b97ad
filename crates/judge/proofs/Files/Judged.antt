-- What is found at one block, and that it is meant: numbers 1, 2, 3, 5, 6, 7, 8.
use mathlib.Core.Path.{◌≡◌, refl, ◌∙◌}
use mathlib.Core.Logic.{◌⊎◌, inl, inr}
use mathlib.Core.Bool.{Bool, true, false, ◌&&◌}
use mathlib.Core.List.{List, ◌++◌}
use mathlib.Core.Option.{Option}
use Prim.Native.Nat.{ℕ, zero, suc, ◌+◌, ◌*◌, ◌/◌, ◌%◌, ◌<◌, ◌≤◌}
use native.Mathlib.Decide.{ℕ_discrete}
use native.Mathlib.Omega.{arith}
use lib.Dec.{eqb, leb, ltb}
use lib.ListN.{length, length-append}
use Rattle.blocks.specs.Kinds.{atoms_kind, secret_kind, good_kind, bad_kind, rule_kind, ListsTerm, HoldsTerms}
use Rattle.blocks.specs.Limits.{block_size, most_bytes, most_entries, most_atom_blocks}
use Rattle.blocks.specs.Block.{block_at, kind_of, first_count, second_count, first_entries, second_entries, Fitting}
use Rattle.blocks.specs.Check.{CheckRight, check_right}
use Rattle.blocks.specs.Layout.{LayoutRight, layout_right, within}
use Rattle.blocks.proofs.Sealing.{check-right, right-check}
use Rattle.blocks.proofs.Layouts.{layout-right, right-layout, layout-fits}
use Rattle.blocks.proofs.Parts.{first-length, second-length, entries-used}
use Rattle.terms.specs.Entry.{term_of}
use Rattle.terms.specs.declared.atom.Atom.{Atom}
use Rattle.terms.specs.Atom.{AtomRight, atom_right?, wrong_atom}
use Rattle.terms.specs.TermEntry.{right_at?, wrong_entry}
use Rattle.terms.specs.OneTerm.{OneTerm, IsEncryption, encryption?}
use Rattle.terms.specs.Reading.{one_term?}
use Rattle.terms.specs.Decide.{answer}
use Rattle.terms.specs.Decisions.{Says, says_same}
use Rattle.terms.proofs.AnswerLaws.{says_eq, says-lt}
use Rattle.judge.specs.declared.verdict.Fault.{Fault}
use Rattle.judge.specs.declared.verdict.Fault.TheVariants.{Length, Check, Kind, Layout, TermEntry, NotOneTerm}
use Rattle.judge.specs.Verdict.{length_right, length_fault, later_kind, kind_right, behind_full, laid_out, atom_entry, atom_fault, atoms_fault, entry_fault, root_right}
use Rattle.judge.specs.File.{TwoAtomBlocks, file_atoms, used_entries}
use Rattle.judge.specs.Verdict.{pattern_fault, conclusion_fault, rule_parts_fault, term_fault, entries_fault, block_fault}
use Rattle.judge.specs.Meaning.{LengthRight, KindRight, atom_block, later, LaidOut, Shaped, LastAtoms, AtomEntriesRight, TermEntryRight, EntriesRight, PatternRight}
use Rattle.judge.specs.Meaning.{PremiseRight, BlockRight, BlockFaulty, check_fails, kind_fails, layout_fails, atom_fails}
use Rattle.judge.specs.Meaning.{entry_fails, pattern_fails, premise_fails, conclusion_fails}
use Rattle.judge.proofs.Files.Exact.{Exact, found_none, reworded, tested, tested-then, either, then, FirstPlace, at, first-place}
use Rattle.judge.proofs.Files.AtomBlocks.{FirstNumber, entries-to, entries-back, first_to, first_back}
use Rattle.judge.proofs.Files.Exact.{says-test, says-decided, says-le, says_both, says-within}

-- ---- what the tests say

says-length : (file : List ℕ) → Says (length_right file) (LengthRight file)
unfolding length_right
says-length file = says_same (length_right file) (λ w. record { some_byte = w.0; whole = w.1.0; most = w.1.1 })
    (λ r. (r.some_byte, (r.whole, r.most)))
    (says_both (1 ≤ n) ((n % block_size ≡ 0) × (n ≤ most_bytes)) (leb 1 n) (eqb (n % block_size) 0 && leb n most_bytes) (says-le 1 n)
    (says_both (n % block_size ≡ 0) (n ≤ most_bytes) (eqb (n % block_size) 0) (leb n most_bytes) (says_eq (n % block_size) 0) (says-le n most_bytes)))
  where
    n : ℕ
    n = length file

says-later : (file : List ℕ) (i : ℕ) → ¬ (kind_of (block_at file i) ≡ atoms_kind) → Says (later_kind file i) (KindRight file i)
unfolding later_kind
says-later file zero n = go
  where
    go : ¬ KindRight file zero
    go (atom_block l k) = n k
    go (later e l h b) = omega arith
says-later file (suc i) n = says_same (later_kind file (suc i)) (λ w. later refl w.0.0 w.0.1 w.1) go
    (says_both ((secret_kind ≤ kind) × (kind ≤ rule_kind)) (before ≤ kind) (within secret_kind rule_kind kind) (leb before kind) (says-within secret_kind rule_kind kind) (says-le before kind))
  where
    kind : ℕ
    kind = kind_of (block_at file (suc i))

    before : ℕ
    before = kind_of (block_at file i)

    go : KindRight file (suc i) → ((secret_kind ≤ kind_of (block_at file (suc i))) × (kind_of (block_at file (suc i)) ≤ rule_kind))
        × (kind_of (block_at file i) ≤ kind_of (block_at file (suc i)))
    go (atom_block l k) = absurd (n k)
    go (later {j} e l h b) = let same : j ≡ i = omega arith in ((l, h), (rw same at b))

pub says-kind : (file : List ℕ) (i : ℕ) → Says (kind_right file i) (KindRight file i)
unfolding kind_right
says-kind file i = go (eqb kind atoms_kind) (says_eq kind atoms_kind)
  where
    kind : ℕ
    kind = kind_of (block_at file i)

    low : KindRight file i → kind_of (block_at file i) ≡ atoms_kind → i < most_atom_blocks
    low (atom_block l k) is = l
    low (later e l h b) is = absurd (omega arith)

    go : (t : Bool) → Says t (kind_of (block_at file i) ≡ atoms_kind)
        → Says (elim t [ true ↦ ltb i most_atom_blocks | false ↦ later_kind file i ]) (KindRight file i)
    go true is = says_same (ltb i most_atom_blocks) (λ l. atom_block l is) (λ k. low k is) (says-lt i most_atom_blocks)
    go false n = says-later file i n

says-full : (file : List ℕ) (i : ℕ) → Says (behind_full file i) (i ≡ 1 → TwoAtomBlocks file → first_count (block_at file 0) ≡ most_entries)
unfolding behind_full
says-full file i = go (eqb i 1 && eqb (kind_of (block_at file 1)) atoms_kind)
    (says_both (i ≡ 1) (TwoAtomBlocks file) (eqb i 1) (eqb (kind_of (block_at file 1)) atoms_kind) (says_eq i 1) (says_eq (kind_of (block_at file 1)) atoms_kind))
  where
    go : (t : Bool) → Says t ((i ≡ 1) × TwoAtomBlocks file)
        → Says (elim t [ true ↦ eqb (first_count (block_at file 0)) most_entries | false ↦ true ])
        (i ≡ 1 → TwoAtomBlocks file → first_count (block_at file 0) ≡ most_entries)
    go true w = says_same (eqb (first_count (block_at file 0)) most_entries) (λ e one two. e) (λ f. f w.0 w.1)
        (says_eq (first_count (block_at file 0)) most_entries)
    go false n = λ one two. absurd (n (one, two))

pub says-laid : (file : List ℕ) (i : ℕ) → Says (laid_out file i) (LaidOut file i)
unfolding laid_out
says-laid file i = says_same (laid_out file i) (λ w. record { layout = w.0; full = w.1 }) (λ r. (r.layout, r.full))
    (says_both (LayoutRight (block_at file i)) (i ≡ 1 → TwoAtomBlocks file → first_count (block_at file 0) ≡ most_entries)
    (layout_right (block_at file i)) (behind_full file i)
    (says-test (layout_right (block_at file i)) (layout-right (block_at file i)) (right-layout (block_at file i))) (says-full file i))

says-root : (b : List ℕ) → Says (root_right (kind_of b) (first_entries b)) (good_kind ≤ kind_of b → kind_of b ≤ bad_kind → IsEncryption (term_of (first_entries b)))
unfolding root_right
says-root b = go (within good_kind bad_kind (kind_of b)) (says-within good_kind bad_kind (kind_of b))
  where
    go : (t : Bool) → Says t ((good_kind ≤ kind_of b) × (kind_of b ≤ bad_kind))
        → Says (elim t [ true ↦ answer (encryption? (term_of (first_entries b))) | false ↦ true ])
        (good_kind ≤ kind_of b → kind_of b ≤ bad_kind → IsEncryption (term_of (first_entries b)))
    go true w = says_same (answer (encryption? (term_of (first_entries b)))) (λ p l h. p) (λ f. f w.0 w.1)
        (says-decided (encryption? (term_of (first_entries b))))
    go false n = λ l h. absurd (n (l, h))

-- 1
pub length-judged : (file : List ℕ) → Exact (LengthRight file) (λ g. (g ≡ Length) × (¬ LengthRight file)) (length_fault file)
unfolding length_fault
length-judged file = tested (length_right file) Length (says-length file)

-- ---- the entries in use are those of both parts, and as many as the counts say

pub used-both : (b : List ℕ) → used_entries b ≡ first_entries b ++ second_entries b
unfolding used_entries
used-both b =
    let sum : 4 * (first_count b + second_count b) ≡ 4 * first_count b + 4 * second_count b = omega arith in
    rw sum (entries-used b)

pub used-length : (b : List ℕ) → Fitting b → length (used_entries b) ≡ 4 * (first_count b + second_count b)
used-length b fits =
    rw (used-both b) (length-append (first_entries b) (second_entries b) ∙ omega (arith, first-length b fits, second-length b fits))

-- ---- numbers 6, 7, 8 at a block

-- The same with another name for the count.
recount : {P : ℕ → Type 0} {F : ℕ → Fault} {o : Option Fault} (c d : ℕ) → c ≡ d
    → Exact ((n : ℕ) → n < c → P n) (FirstPlace P c F) o → Exact ((n : ℕ) → n < d → P n) (FirstPlace P d F) o
recount {P} {F} {o} c d e x = rw e at x

-- At the last atom block, all of them.
atoms-judged : (file : List ℕ) (i : ℕ) → Shaped file i → kind_of (block_at file i) ≡ atoms_kind
    → Exact (LastAtoms file i → (j : ℕ) → j ≤ i → AtomEntriesRight file j) (λ g. LastAtoms file i × FirstNumber file g) (atoms_fault file i)
unfolding atoms_fault atom_fault wrong_atom
atoms-judged file i shaped is = reworded to back (λ g w. wrong-to g w) (λ g w. wrong-back g w)
    (either (eqb i 0 && eqb (kind_of (block_at file 1)) atoms_kind)
    (says_both (i ≡ 0) (TwoAtomBlocks file) (eqb i 0) (eqb (kind_of (block_at file 1)) atoms_kind) (says_eq i 0) (says_eq (kind_of (block_at file 1)) atoms_kind))
    (λ w. found_none {Right = Unit {0}} {Wrong = λ g. ⊥} tt (λ f v. v))
    (λ n. first-place (atom_right? (file_atoms file)) (length (file_atoms file)) atom_entry))
  where
    First : Type 0
    First = (i ≡ 0) × TwoAtomBlocks file

    last : ¬ First → LastAtoms file i
    last n = record { is = is; last = λ z two. n (z, two) }

    none_last : First → ¬ LastAtoms file i
    none_last w l = l.last w.0 w.1

    All : Type 0
    All = (n : ℕ) → n < length (file_atoms file) → AtomRight (file_atoms file) n

    to : (First → Unit {0}) × (¬ First → All) → LastAtoms file i → (j : ℕ) → j ≤ i → AtomEntriesRight file j
    to w l = entries-to file i shaped l (w.1 (λ f. none_last f l))

    back : (LastAtoms file i → (j : ℕ) → j ≤ i → AtomEntriesRight file j) → (First → Unit {0}) × (¬ First → All)
    back all = (λ f. tt, λ n. entries-back file i shaped (last n) (all (last n)))

    wrong-to : (g : Fault) → (First × ⊥) ⊎ ((¬ First) × FirstNumber file g) → LastAtoms file i × FirstNumber file g
    wrong-to g (inl w) = absurd w.1
    wrong-to g (inr w) = (last w.0, w.1)

    wrong-back : (g : Fault) → LastAtoms file i × FirstNumber file g → (First × ⊥) ⊎ ((¬ First) × FirstNumber file g)
    wrong-back g w = inr ((λ f. none_last f w.0), w.1)

module _ (i : ℕ) (b : List ℕ) (fits : Fitting b) where
  entry-judged : (atoms : List Atom)
      → Exact (EntriesRight atoms b) (FirstPlace (TermEntryRight atoms b) (first_count b + second_count b) (TermEntry i)) (entry_fault atoms i b)
  unfolding entry_fault wrong_entry
  entry-judged atoms = recount (length (used_entries b) / 4) (first_count b + second_count b) (omega (arith, used-length b fits))
      (first-place (right_at? atoms (kind_of b) (used_entries b)) (length (used_entries b) / 4) (TermEntry i))

pattern-judged : (i : ℕ) (b : List ℕ) → Exact (PatternRight b) (λ g. (g ≡ NotOneTerm i 0) × (¬ PatternRight b)) (pattern_fault i b)
unfolding pattern_fault
pattern-judged i b = reworded (λ w. record { one = w.0; root = w.1 }) (λ r. (r.one, r.root)) to (λ g w. back (one_term? (first_entries b)) g w)
    (tested-then (answer (one_term? (first_entries b))) (NotOneTerm i 0) (says-decided (one_term? (first_entries b)))
    (λ o. tested (root_right (kind_of b) (first_entries b)) (NotOneTerm i 0) (says-root b)))
  where
    One : Type 0
    One = OneTerm (first_entries b)

    Root : Type 0
    Root = good_kind ≤ kind_of b → kind_of b ≤ bad_kind → IsEncryption (term_of (first_entries b))

    to : (g : Fault) → ((g ≡ NotOneTerm i 0) × (¬ One)) ⊎ (One × ((g ≡ NotOneTerm i 0) × (¬ Root))) → (g ≡ NotOneTerm i 0) × (¬ PatternRight b)
    to g (inl w) = (w.0, λ r. w.1 r.one)
    to g (inr w) = (w.1.0, λ r. w.1.1 r.root)

    back : Dec One → (g : Fault) → (g ≡ NotOneTerm i 0) × (¬ PatternRight b)
        → ((g ≡ NotOneTerm i 0) × (¬ One)) ⊎ (One × ((g ≡ NotOneTerm i 0) × (¬ Root)))
    back (yes o) g w = inr (o, (w.0, λ r. w.1 (record { one = o; root = r })))
    back (no n) g w = inl (w.0, n)

RuleWrong : ℕ → List ℕ → Fault → Type 0
RuleWrong i b g = ((g ≡ NotOneTerm i 0) × (¬ PremiseRight b))
    ⊎ (PremiseRight b × ((g ≡ NotOneTerm i (first_count b)) × (¬ OneTerm (second_entries b))))

rule-judged : (i : ℕ) (b : List ℕ) → Exact (PremiseRight b × OneTerm (second_entries b)) (RuleWrong i b) (rule_parts_fault i b)
unfolding rule_parts_fault conclusion_fault RuleWrong
rule-judged i b = reworded to back wrong-to (λ g w. wrong-back (ℕ_discrete (first_count b) 0) g w)
    (either (eqb (first_count b) 0) (says_eq (first_count b) 0) (λ z. last)
    (λ n. tested-then (answer (one_term? (first_entries b))) (NotOneTerm i 0) (says-decided (one_term? (first_entries b))) (λ o. last)))
  where
    One : Type 0
    One = OneTerm (first_entries b)

    Two : Type 0
    Two = OneTerm (second_entries b)

    Last : Fault → Type 0
    Last g = (g ≡ NotOneTerm i (first_count b)) × (¬ Two)

    None : Type 0
    None = first_count b ≡ 0

    last : Exact (OneTerm (second_entries b)) (λ g. (g ≡ NotOneTerm i (first_count b)) × (¬ OneTerm (second_entries b))) (conclusion_fault i b)
    last = tested (answer (one_term? (second_entries b))) (NotOneTerm i (first_count b)) (says-decided (one_term? (second_entries b)))

    to : (None → Two) × (¬ None → One × Two) → PremiseRight b × Two
    to w = (λ n. (w.1 n).0, elim (ℕ_discrete (first_count b) 0) [ yes z ↦ w.0 z | no n ↦ (w.1 n).1 ])

    back : PremiseRight b × Two → (None → Two) × (¬ None → One × Two)
    back w = (λ z. w.1, λ n. (w.0 n, w.1))

    wrong-to : (g : Fault) → (None × Last g) ⊎ ((¬ None) × (((g ≡ NotOneTerm i 0) × (¬ One)) ⊎ (One × Last g))) → RuleWrong i b g
    wrong-to g (inl w) = inr ((λ n. absurd (n w.0)), w.1)
    wrong-to g (inr w) = go w.1
      where
        go : ((g ≡ NotOneTerm i 0) × (¬ One)) ⊎ (One × Last g) → RuleWrong i b g
        go (inl v) = inl (v.0, λ p. v.1 (p w.0))
        go (inr v) = inr ((λ n. v.0), v.1)

    wrong-back : Dec None → (g : Fault) → RuleWrong i b g
        → (None × Last g) ⊎ ((¬ None) × (((g ≡ NotOneTerm i 0) × (¬ One)) ⊎ (One × Last g)))
    wrong-back (yes z) g (inl w) = absurd (w.1 (λ n. absurd (n z)))
    wrong-back (yes z) g (inr w) = inl (z, w.1)
    wrong-back (no n) g (inl w) = inr (n, inl (w.0, λ o. w.1 (λ m. o)))
    wrong-back (no n) g (inr w) = inr (n, inr (w.0 n, w.1))

-- ---- a block

-- What the tests of numbers 6, 7 and 8 say together, and what they find.
module _ (file : List ℕ) (i : ℕ) where
  abbrev b : List ℕ
  b = block_at file i

  abbrev Content : Type 0
  Content = (kind_of b ≡ atoms_kind → LastAtoms file i → (j : ℕ) → j ≤ i → AtomEntriesRight file j)
      × (¬ (kind_of b ≡ atoms_kind) → EntriesRight (file_atoms file) b
      × ((kind_of b ≡ rule_kind → PremiseRight b × OneTerm (second_entries b)) × (¬ (kind_of b ≡ rule_kind) → PatternRight b)))

  abbrev TermsWrong : Fault → Type 0
  TermsWrong g = ((kind_of b ≡ rule_kind) × RuleWrong i b g) ⊎ ((¬ (kind_of b ≡ rule_kind)) × ((g ≡ NotOneTerm i 0) × (¬ PatternRight b)))

  abbrev ContentWrong : Fault → Type 0
  ContentWrong g = ((kind_of b ≡ atoms_kind) × (LastAtoms file i × FirstNumber file g))
      ⊎ ((¬ (kind_of b ≡ atoms_kind)) × (FirstPlace (TermEntryRight (file_atoms file) b) (first_count b + second_count b) (TermEntry i) g
      ⊎ (EntriesRight (file_atoms file) b × TermsWrong g)))

  module _ (shaped : Shaped file i) where
    fits : Fitting b
    fits = layout-fits b shaped.laid.layout

    -- The kinds that the tests leave.
    others : ¬ (kind_of b ≡ atoms_kind) → HoldsTerms (kind_of b)
    others n = go shaped.kind
      where
        go : KindRight file i → HoldsTerms (kind_of b)
        go (atom_block l k) = absurd (n k)
        go (later e l h p) = record { low = l; high = h }

    patterns : ¬ (kind_of b ≡ atoms_kind) → ¬ (kind_of b ≡ rule_kind) → ListsTerm (kind_of b)
    patterns n m = let w = others n in record { low = w.low; high = let h = w.high in omega arith }

    to : Content → BlockRight file i
    to w = record {
      shaped = shaped;
      atoms = λ l. w.0 l.is l;
      entries = λ l. (w.1 (λ z. omega (arith, l.low))).0;
      pattern = λ l. (w.1 (λ z. omega (arith, l.low))).1.1 (λ z. omega (arith, l.high));
      premise = λ e. ((w.1 (λ z. omega arith)).1.0 e).0;
      conclusion = λ e. ((w.1 (λ z. omega arith)).1.0 e).1;
    }

    back : BlockRight file i → Content
    back r = (
      λ is. r.atoms,
      λ n. (
        r.entries (others n),
        ((λ e. (r.premise e, r.conclusion e)), λ m. r.pattern (patterns n m)),
      ),
    )

    wrong-to : (g : Fault) → ContentWrong g → BlockFaulty file i g
    unfolding RuleWrong
    wrong-to g (inl (e, w)) = first_to file i shaped w.0 g w.1
    wrong-to g (inr (n, inl w)) = go w
      where
        go : FirstPlace (TermEntryRight (file_atoms file) b) (first_count b + second_count b) (TermEntry i) g → BlockFaulty file i g
        go (at q l off all) = entry_fails q shaped (others n) l off all
    wrong-to g (inr (n, inr (all, inl (k, inl w)))) = premise_fails w.0 shaped k all w.1
    wrong-to g (inr (n, inr (all, inl (k, inr w)))) = conclusion_fails w.1.0 shaped k all w.0 w.1.1
    wrong-to g (inr (n, inr (all, inr (m, w)))) = pattern_fails w.0 shaped (patterns n m) all w.1

    wrong-back : (g : Fault) → BlockFaulty file i g → ContentWrong g
    unfolding RuleWrong
    wrong-back g (check_fails e n) = absurd (n shaped.check)
    wrong-back g (kind_fails e c n) = absurd (n shaped.kind)
    wrong-back g (layout_fails e c k n) = absurd (n shaped.laid)
    wrong-back g (atom_fails e s l low h off all before) = inl (l.is, (l, first_back file i s l g e low h off all before))
    wrong-back g (entry_fails e s k l off all) = inr ((λ z. omega (arith, k.low)), inl (at e l off all))
    wrong-back g (pattern_fails e s k all off) =
        inr ((λ z. omega (arith, k.low)), inr (all, inr ((λ z. omega (arith, k.high)), (e, off))))
    wrong-back g (premise_fails e s k all off) = inr ((λ z. omega arith), inr (all, inl (k, inl (e, off))))
    wrong-back g (conclusion_fails e s k all p off) = inr ((λ z. omega arith), inr (all, inl (k, inr (p, (e, off)))))

    content-judged : Exact (BlockRight file i) (BlockFaulty file i) (entries_fault file i)
    unfolding entries_fault term_fault
    content-judged = reworded to back wrong-to wrong-back
        (either (eqb (kind_of b) atoms_kind) (says_eq (kind_of b) atoms_kind) (λ e. atoms-judged file i shaped e)
        (λ n. then (entry_fault (file_atoms file) i b) (entry-judged i b fits (file_atoms file))
        (λ all. either (eqb (kind_of b) rule_kind) (says_eq (kind_of b) rule_kind) (λ r. rule-judged i b) (λ m. pattern-judged i b))))

  -- 2, 3, 5, and then these.
  abbrev BlockWrong : Fault → Type 0
  BlockWrong g = ((g ≡ Check i) × (¬ CheckRight b)) ⊎ (CheckRight b × (((g ≡ Kind i) × (¬ KindRight file i))
      ⊎ (KindRight file i × (((g ≡ Layout i) × (¬ LaidOut file i)) ⊎ (LaidOut file i × BlockFaulty file i g)))))

  block_to : (g : Fault) → BlockWrong g → BlockFaulty file i g
  block_to g (inl w) = check_fails w.0 w.1
  block_to g (inr (c, inl w)) = kind_fails w.0 c w.1
  block_to g (inr (c, inr (k, inl w))) = layout_fails w.0 c k w.1
  block_to g (inr (c, inr (k, inr w))) = w.1

  block_back : (g : Fault) → BlockFaulty file i g → BlockWrong g
  block_back g w = go w
    where
      later-on : Shaped file i → BlockWrong g
      later-on s = inr (s.check, inr (s.kind, inr (s.laid, w)))

      go : BlockFaulty file i g → BlockWrong g
      go (check_fails e n) = inl (e, n)
      go (kind_fails e c n) = inr (c, inl (e, n))
      go (layout_fails e c k n) = inr (c, inr (k, inl (e, n)))
      go (atom_fails e s l low h off all before) = later-on s
      go (entry_fails e s k l off all) = later-on s
      go (pattern_fails e s k all off) = later-on s
      go (premise_fails e s k all off) = later-on s
      go (conclusion_fails e s k all p off) = later-on s

  pub block-judged : Exact (BlockRight file i) (BlockFaulty file i) (block_fault file i)
  unfolding block_fault
  block-judged = reworded (λ w. w.1.1.1) (λ r. (r.shaped.check, (r.shaped.kind, (r.shaped.laid, r)))) block_to block_back
      (tested-then (check_right b) (Check i) (says-test (check_right b) (check-right b) (right-check b))
      (λ c. tested-then (kind_right file i) (Kind i) (says-kind file i)
      (λ k. tested-then (laid_out file i) (Layout i) (says-laid file i)
      (λ l. content-judged (record { check = c; kind = k; laid = l })))))
