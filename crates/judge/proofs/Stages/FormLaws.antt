-- Laws of specs/Verdict.antt, numbers 1 to 8, and of the counts, for the proofs of the code. Assumes nothing.
use Rattle.std.specs.Prelude.{Some, None, Ok, Err}
use Rattle.std.specs.Result.{IsErrAnd}
use Rattle.std.proofs.lemmas.Result.{err_from_is_err_and}
use mathlib.Core.Path.{◌≡◌, refl, sym, ap, ◌∙◌}
use Rattle.std.specs.Prelude.{◌↔◌}
use mathlib.Core.Bool.{Bool, true, false, false≢true}
use mathlib.Core.List.{List}
use mathlib.Core.Option.{Option, none, some, none-ne-some}
use Prim.Native.Nat.{ℕ, suc, ◌+◌, ◌-◌, ◌*◌, ◌/◌, ◌%◌, ◌≤◌, ◌<◌}
use native.Mathlib.Numerals.{add-one}
use native.Mathlib.Omega.{arith}
use native.Mathlib.Decide.{ℕ_discrete}
use lib.ListN.{length, take, drop}
use lib.Seq.{take-take, take_at, drop_at}
use borrow.Author.Tests.{eq-eqb, ne_eqb}
use Rattle.blocks.specs.Limits.{block_size, most_blocks, most_atoms}
use Rattle.blocks.specs.Block.{HasBlock, block_at, kind_of, first_count, second_count, entries_of, first_entries, second_entries, Fitting}
use Rattle.blocks.proofs.Layouts.{layout-fits}
use Rattle.blocks.proofs.Parts.{first-length}
use Rattle.terms.specs.Entry.{Begins}
use Rattle.terms.specs.declared.atom.Atom.{Atom}
use Rattle.terms.specs.Atom.{joined_atoms, atom_right?, wrong_atom}
use Rattle.terms.specs.TermEntry.{right_at?, wrong_entry}
use Rattle.terms.proofs.EachLaws.{each_take, each-drop}
use Rattle.terms.specs.First.{Found, FirstNot, fails, holds}
use Rattle.terms.proofs.FirstLaws.{first-is}
use Rattle.terms.specs.Reading.{one_term?}
use Rattle.terms.proofs.OneTermLaws.{right-each, right-symbols, one-begins}
use Rattle.terms.specs.Decide.{answer}
use Rattle.terms.proofs.AnswerLaws.{yes_of, says-yes}
use Rattle.judge.specs.declared.verdict.Fault.{Fault}
use Rattle.judge.specs.declared.verdict.Fault.TheVariants.{TermEntry}
use Rattle.judge.specs.File.{block_count, blocks_from, blocks_of, of_kind, more_entries, file_atoms, used_entries, kind_count}
use Rattle.judge.specs.Laid.{AtomsFit}
use Rattle.judge.specs.Judgement.{Judged, judged_of, Reached, Spelled}
use Rattle.judge.specs.Verdict.{kind_right, laid_out, entry_fault}
use Rattle.judge.specs.Verdict.{first_fault, or_fault}
use Rattle.judge.proofs.Files.AtomBlocks.{few-atoms}
use Rattle.judge.proofs.Files.Judged.{used-both, used-length, says-kind, says-laid}

-- ---- what the code's answer tells

pub none_of : (o : Option Fault) {u : Unit {0}} → Ok u ≡ judged_of o → o ≡ none
unfolding judged_of
none_of none h = refl
none_of (some f) h = let z : ◌≡◌ {A = ℕ} 0 1 = cc in absurd (omega arith)

pub some-of : (o : Option Fault) {f : Fault} → Err f ≡ judged_of o → o ≡ some f
unfolding judged_of
some-of none h = let z : ◌≡◌ {A = ℕ} 0 1 = cc in absurd (omega arith)
some-of (some g) h = cc

-- `?`: a fault is passed on, and where there is none it goes on.
pub passed : {r s : Judged} {f : Fault} → IsErrAnd r (λ e. e ≡ f) → Err f ≡ s → r ≡ s
passed {r} is h = let p = err_from_is_err_and r is in p.1 ∙ ap Err p.2 ∙ h

pub tried : (o p : Option Fault) {f : Fault} → Err f ≡ judged_of o → Err f ≡ judged_of (or_fault o p)
tried none p h = absurd (none-ne-some _ (some-of none h))
tried (some g) p h = h

pub goes-on : (o p : Option Fault) {r : Judged} → none ≡ o → r ≡ judged_of p → r ≡ judged_of (or_fault o p)
goes-on o p h r = rw (← h) r

-- A no of a test of a kind.
pub not-kind : {b : Bool} {A : Type 0} → (b ≡ true ↔ A) → b ≡ false → ¬ A
not-kind is no' w = false≢true (sym no' ∙ is.1 w)

-- ---- number 6

-- What is found is one of those looked at.
pub found_below : {P : ℕ → Type 0} {count n : ℕ} {f : Found} → FirstNot P count f → f ≡ Some n → n < count
found_below (fails e l off all) h = let same = sym e ∙ h in go same l
  where
    go : {m n count : ℕ} → Some m ≡ Some n → m < count → n < count
    go {m} {n} e l = let same : m ≡ n = cc in omega arith
found_below (holds e all) h = let z : ◌≡◌ {A = ℕ} 0 1 = cc in absurd (omega arith)

module _ (file : List ℕ) {e d : List ℕ} (first : e ≡ first_entries (block_at file 0)) (more : d ≡ more_entries file) where
  -- The parts that the code takes are the file's atoms.
  pub parts_are : joined_atoms e d ≡ file_atoms file
  unfolding file_atoms
  parts_are = ap (λ (x : List ℕ). joined_atoms x d) first ∙ ap (joined_atoms (first_entries (block_at file 0))) more

  module _ {f : Found} (said : f ≡ wrong_atom (joined_atoms e d)) where
    found : f ≡ wrong_atom (file_atoms file)
    found = said ∙ ap wrong_atom parts_are

    pub atom_small : AtomsFit file → {n : ℕ} → f ≡ Some n → n < most_atoms
    unfolding wrong_atom
    atom_small fits {n} h =
        let below = found_below (first-is (atom_right? (file_atoms file)) (length (file_atoms file))) (sym found ∙ h) in
        omega (arith, few-atoms file fits)

-- ---- number 7

-- The part that the code takes, n and m being the counts.
pub used_part : (b : List ℕ) → Fitting b → {n m : ℕ} → n ≡ first_count b → m ≡ second_count b → take (4 + 4 * (n + m) - 4) (drop 4 b) ≡ used_entries b
unfolding used_entries entries_of
used_part b fits {n} {m} e f =
    let room = fits.room in
    let count : 4 + 4 * (n + m) - 4 ≡ 4 * (first_count b + second_count b) = omega arith in
    let most : 4 * (first_count b + second_count b) ≤ 504 = omega arith in
    rw count (sym (take-take (4 * (first_count b + second_count b)) 504 (drop 4 b) most))

module _ (atoms : List Atom) (i : ℕ) (b : List ℕ) {k : ℕ} (kind : k ≡ kind_of b) {e : List ℕ} (part : e ≡ used_entries b)
    {f : Found} (said : f ≡ wrong_entry atoms k e) where
  pub entry_small : Fitting b → {n : ℕ} → f ≡ Some n → n < 256
  unfolding wrong_entry
  entry_small fits {n} h =
      let below = found_below (first-is (right_at? atoms k e) (length e / 4)) (sym said ∙ h) in
      let room = fits.room in
      omega (arith, ap length part, used-length b fits)

-- No fault: each entry in use is right, and so has a symbol.
entry-none : (atoms : List Atom) (i : ℕ) (b : List ℕ) → entry_fault atoms i b ≡ none → wrong_entry atoms (kind_of b) (used_entries b) ≡ None
unfolding entry_fault
entry-none atoms i b h = go (wrong_entry atoms (kind_of b) (used_entries b)) h
  where
    go : (f : Found) → ◌≡◌ {A = Option Fault} (elim f [ Some n ↦ some (TermEntry i n) | None ↦ none ]) none → f ≡ None
    go None e = refl
    go (Some n) e = let z : ◌≡◌ {A = ℕ} 0 1 = cc in absurd (omega arith)

pub spelled : (atoms : List Atom) (i : ℕ) (b : List ℕ) → Fitting b → entry_fault atoms i b ≡ none → Spelled b
spelled atoms i b fits h =
    let each = right-symbols (right-each atoms (kind_of b) (used_entries b) (omega (arith, used-length b fits)) (entry-none atoms i b h)) in
    let both = rw (used-both b) at each in
    record {
      fitting = fits;
      first = rw (take_at (first_entries b) (second_entries b) (4 * first_count b) (first-length b fits)) at (each_take (first_count b) both);
      second = rw (drop_at (first_entries b) (second_entries b) (4 * first_count b) (first-length b fits)) at (each-drop (first_count b) both);
    }

-- ---- number 8

-- Exactly one term begins its entries.
pub begins_one : {e : List ℕ} {one : Bool} → one ≡ answer (one_term? e) → one ≡ true → Begins e
begins_one {e} said h = one-begins (yes_of (one_term? e) (sym said ∙ h))

-- ---- a block

-- Block i has passed 2, 3 and 5.
pub reach : (file : List ℕ) (i : ℕ) → length file % block_size ≡ 0 → HasBlock file i → i < most_blocks
    → ((j : ℕ) → j < i → Fitting (block_at file j)) → true ≡ kind_right file i → true ≡ laid_out file i → Reached file i
reach file i whole inside few before in_order shaped = record {
  whole = whole;
  inside = inside;
  few = few;
  kind = says-yes (kind_right file i) (says-kind file i) (sym in_order);
  fits = λ j low. elim (ℕ_discrete j i) [ yes same ↦ rw same here | no other ↦ before j (omega arith) ];
}
  where
    here : Fitting (block_at file i)
    here = layout-fits (block_at file i) (says-yes (laid_out file i) (says-laid file i) (sym shaped)).layout

-- ---- the blocks in file order

module _ (judged : ℕ → Option Fault) (count i : ℕ) where
  pub first_step : i < count → first_fault judged i (count - i) ≡ or_fault (judged i) (first_fault judged (i + 1) (count - (i + 1)))
  unfolding first_fault
  first_step l = let more : count - i ≡ suc (count - suc i) = omega arith in rw (more, add-one, first_fault) refl

  pub first_end : count ≤ i → first_fault judged i (count - i) ≡ none
  unfolding first_fault
  first_end l = let none_left : count - i ≡ 0 = omega arith in rw none_left refl

-- ---- number 4 and the counts

-- The blocks of a kind, from block i on.
pub kind_left : ℕ → List ℕ → ℕ → ℕ
kind_left kind file i = length (of_kind kind (blocks_from file i (block_count file - i)))

module _ (kind : ℕ) (file : List ℕ) where
  pub left-all : kind_left kind file 0 ≡ kind_count kind file
  unfolding kind_left kind_count blocks_of
  left-all = let all : block_count file - 0 ≡ block_count file = omega arith in rw all

  pub left-none : (i : ℕ) → block_count file ≤ i → kind_left kind file i ≡ 0
  unfolding kind_left blocks_from of_kind
  left-none i l = let left : block_count file - i ≡ 0 = omega arith in rw left

  pub left_one : (i : ℕ) → i < block_count file → kind_of (block_at file i) ≡ kind → kind_left kind file i ≡ kind_left kind file (i + 1) + 1
  unfolding kind_left blocks_from of_kind
  left_one i l e = let left : block_count file - i ≡ suc (block_count file - suc i) = omega arith in
      rw (left, eq-eqb (kind_of (block_at file i)) kind e, add-one (kind_left kind file (i + 1)), add-one i, of_kind)

  pub left_other : (i : ℕ) → i < block_count file → (kind_of (block_at file i) ≡ kind → ⊥) → kind_left kind file i ≡ kind_left kind file (i + 1)
  unfolding kind_left blocks_from of_kind
  left_other i l n = let left : block_count file - i ≡ suc (block_count file - suc i) = omega arith in
      rw (left, ne_eqb (kind_of (block_at file i)) kind n, add-one, of_kind)
