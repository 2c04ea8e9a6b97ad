-- The atoms of a file, one list over one or two blocks: how many there are, and how block and place make a number. Assumes
-- nothing.
use mathlib.Core.Path.{◌≡◌, refl, sym, ap, subst, ◌∙◌}
use mathlib.Core.List.{List, []}
use Prim.Native.Nat.{ℕ, zero, suc, ◌+◌, ◌-◌, ◌*◌, ◌/◌, ◌%◌, ◌<◌, ◌≤◌}
use native.Mathlib.Decide.{ℕ_discrete, dec_lt, dec_le}
use native.Mathlib.Omega.{arith}
use lib.ListN.{length, length-take, length-drop, get_or-eq_default}
use borrow.Author.Tests.{eq-eqb, ne_eqb}
use Rattle.blocks.specs.Kinds.{atoms_kind}
use Rattle.blocks.specs.Limits.{block_size, most_entries, most_atoms}
use Rattle.blocks.specs.Block.{HasBlock, block_at, kind_of, first_count, first_entries}
use Rattle.blocks.specs.Layout.{CountsRight, atoms, term, rule}
use Rattle.blocks.proofs.Parts.{block-length, first-long, first-length}
use Rattle.terms.specs.Atom.{atoms_of, atom_at, AtomRight}
use Rattle.terms.proofs.AtomLaws.{joined_length, joined-second}
use Rattle.judge.specs.declared.verdict.Fault.{Fault}
use Rattle.judge.specs.declared.verdict.Fault.TheVariants.{AtomEntry}
use Rattle.judge.specs.File.{TwoAtomBlocks, more_entries, file_atoms}
use Rattle.judge.specs.Laid.{AtomsFit}
use Rattle.judge.specs.Meaning.{KindRight, atom_block, later, Shaped, LastAtoms, AtomEntryRight, AtomEntriesRight, BlockFaulty, atom_fails}
use Rattle.judge.specs.Verdict.{atom_entry}
use Rattle.judge.proofs.Files.Exact.{FirstPlace, at}

module _ (file : List ℕ) where
  -- The second block's entries.
  pub one_block : ¬ TwoAtomBlocks file → more_entries file ≡ []
  unfolding more_entries
  one_block n = rw (ne_eqb (kind_of (block_at file 1)) atoms_kind n, more_entries)

  pub two_blocks : TwoAtomBlocks file → more_entries file ≡ first_entries (block_at file 1)
  unfolding more_entries
  two_blocks is = rw (eq-eqb (kind_of (block_at file 1)) atoms_kind is, more_entries)

  -- How many there are.
  count : length (file_atoms file) ≡ length (first_entries (block_at file 0)) / 4 + length (more_entries file) / 4
  unfolding file_atoms
  count = joined_length (first_entries (block_at file 0)) (more_entries file)

  pub few-atoms : AtomsFit file → length (file_atoms file) ≤ most_atoms
  few-atoms fit = go (ℕ_discrete (kind_of (block_at file 1)) atoms_kind)
    where
      most : length (first_entries (block_at file 0)) ≤ 4 * most_entries
      most = let room = fit.first.room in omega (arith, first-length (block_at file 0) fit.first)

      go : Dec (TwoAtomBlocks file) → length (file_atoms file) ≤ most_atoms
      go (yes is) =
          let room = (fit.second is).room in
          omega (arith, count, most, ap length (two_blocks is), first-length (block_at file 1) (fit.second is))
      go (no n) = omega (arith, count, most, ap length (one_block n))

-- A second atom block is a block of the file.
pub two_inside : (file : List ℕ) → length file % block_size ≡ 0 → TwoAtomBlocks file → HasBlock file 1
unfolding block_at
two_inside file whole two = elim (dec_le (block_size * 1 + block_size) (length file)) [
  | yes inside ↦ inside
  | no outside ↦
      let short : length (block_at file 1) ≤ 0 = rw (length-take, length-drop) (omega arith) in
      let none = get_or-eq_default (block_at file 1) 0 short in
      absurd (omega arith)
]

-- So is any block of 512 bytes.
pub block_inside : (file : List ℕ) (i : ℕ) → length (block_at file i) ≡ block_size → HasBlock file i
unfolding block_at
block_inside file i size = let long = rw (length-take, length-drop) at size in omega arith

-- Before a second atom block the first is full.
first-full : (file : List ℕ) → Shaped file 1 → TwoAtomBlocks file → length (first_entries (block_at file 0)) ≡ 4 * most_entries
first-full file s two =
    let full = s.laid.full refl two in
    let inside : HasBlock file 0 = omega (arith, block_inside file 1 s.laid.layout.size) in
    omega (arith, full, first-long (block_at file 0) (block-length file 0 inside) (omega arith))

-- At the last atom block all before it are full, so that a number, and a block with a place, say the same.
record Numbered (file : List ℕ) (i : ℕ) : Type 0 where
  many : length (file_atoms file) ≡ most_entries * i + first_count (block_at file i)
  most : first_count (block_at file i) ≤ most_entries
  full : (j : ℕ) → j < i → first_count (block_at file j) ≡ most_entries

numbered : (file : List ℕ) (i : ℕ) → Shaped file i → LastAtoms file i → Numbered file i
numbered file i shaped last = go i shaped last
  where
    atom-count : (i : ℕ) → Shaped file i → kind_of (block_at file i) ≡ atoms_kind → first_count (block_at file i) ≤ most_entries
    atom-count i s is = by s.laid.layout.counts
      where
        by : {second : ℕ} → CountsRight (kind_of (block_at file i)) (first_count (block_at file i)) second → first_count (block_at file i) ≤ most_entries
        by (atoms k a c d) = c
        by (term k a c d) = omega arith
        by (rule k a c d) = omega arith

    go : (i : ℕ) → Shaped file i → LastAtoms file i → Numbered file i
    go zero s l =
        let most = atom-count zero s l.is in
        let first = first-long (block_at file 0) s.laid.layout.size most in
        record {
          many = omega (arith, count file, first, ap length (one_block file (l.last refl)));
          most = most;
          full = λ j h. absurd (omega arith);
        }
    go (suc zero) s l =
        let most = atom-count 1 s l.is in
        let second = first-long (block_at file 1) s.laid.layout.size most in
        let all = s.laid.full refl l.is in
        record {
          many = omega (arith, count file, first-full file s l.is, second, ap length (two_blocks file l.is));
          most = most;
          full = λ j h. let here : j ≡ 0 = omega arith in rw here all;
        }
    go (suc (suc i)) s l = absurd (away s.kind)
      where
        away : KindRight file (suc (suc i)) → ⊥
        away (atom_block low is) = omega arith
        away (later e low high b) = let is = l.is in omega arith

-- The first number whose entry is wrong, told by block and place.
abbrev pub FirstNumber : List ℕ → Fault → Type 0
FirstNumber file g = FirstPlace (AtomRight (file_atoms file)) (length (file_atoms file)) atom_entry g

-- Number 6 by numbers, and by block and place.
module _ (file : List ℕ) (i : ℕ) (shaped : Shaped file i) (last : LastAtoms file i) where
  numbers : Numbered file i
  numbers = numbered file i shaped last

  -- The number of a place in a block: the place is below 126, the number below the count.
  pub below : (j n : ℕ) → j ≤ i → n < first_count (block_at file j) → (n < most_entries) × (most_entries * j + n < length (file_atoms file))
  below j n low inside = elim (dec_lt j i) [
    | yes less ↦
        let all = numbers.full j less in
        let many = numbers.many in
        (omega arith, omega arith)
    | no not-less ↦
        let same : j ≡ i = omega arith in
        let here = rw same at inside in
        let many = numbers.many in
        let most = numbers.most in
        (omega arith, omega arith)
  ]

  -- The block and the place of a number.
  block : (n : ℕ) → n < length (file_atoms file) → n / most_entries ≤ i
  block n inside = let many = numbers.many in let most = numbers.most in omega arith

  place : (n : ℕ) → n < length (file_atoms file) → n % most_entries < first_count (block_at file (n / most_entries))
  place n inside = elim (dec_lt (n / most_entries) i) [
    | yes less ↦ let all = numbers.full (n / most_entries) less in omega arith
    | no not-less ↦
        let low = block n inside in
        let same : n / most_entries ≡ i = omega arith in
        let many = numbers.many in
        rw same (omega arith)
  ]

  whole : (n : ℕ) → most_entries * (n / most_entries) + n % most_entries ≡ n
  whole n = omega arith

  pub entries-to : ((n : ℕ) → n < length (file_atoms file) → AtomRight (file_atoms file) n) → (j : ℕ) → j ≤ i → AtomEntriesRight file j
  entries-to all j low n inside = all (most_entries * j + n) (below j n low inside).1

  pub entries-back : ((j : ℕ) → j ≤ i → AtomEntriesRight file j) → (n : ℕ) → n < length (file_atoms file) → AtomRight (file_atoms file) n
  entries-back all n inside =
      subst (AtomRight (file_atoms file)) (whole n) (all (n / most_entries) (block n inside) (n % most_entries) (place n inside))

  -- The first that is wrong.
  pub first_to : (g : Fault) → FirstNumber file g → BlockFaulty file i g
  first_to g (at {n} q inside off all) =
      atom_fails q shaped last (block n inside) (place n inside) (λ w. off (subst (AtomRight (file_atoms file)) (whole n) w))
      (λ k less. all (most_entries * (n / most_entries) + k) (omega (arith, whole n)))
      (λ h less k inside-h. (let low = block n inside in let full = numbers.full h (omega arith) in
      all (most_entries * h + k) (omega (arith, whole n))))

  pub first_back : {j n : ℕ} (g : Fault) → g ≡ AtomEntry j n → j ≤ i → n < first_count (block_at file j) → ¬ AtomEntryRight file j n
      → ((k : ℕ) → k < n → AtomEntryRight file j k) → ((h : ℕ) → h < j → AtomEntriesRight file h) → FirstNumber file g
  first_back {j} {n} g q low inside off here before =
      let small = below j n low inside in
      let one : (most_entries * j + n) / most_entries ≡ j = omega (arith, small.0) in
      let two : (most_entries * j + n) % most_entries ≡ n = omega (arith, small.0) in
      at {n = most_entries * j + n} (rw (one, two) q) small.1 off earlier
    where
      earlier : (k : ℕ) → k < most_entries * j + n → AtomRight (file_atoms file) k
      earlier k less = elim (dec_lt (k / most_entries) j) [
        | yes block-less ↦
            let full = numbers.full (k / most_entries) (omega arith) in
            subst (AtomRight (file_atoms file)) (whole k) (before (k / most_entries) block-less (k % most_entries) (omega arith))
        | no not-less ↦
            let same : k / most_entries ≡ j = omega (arith, (below j n low inside).0) in
            subst (AtomRight (file_atoms file)) (ap (λ (b : ℕ). most_entries * b + k % most_entries) (sym same) ∙ whole k)
            (here (k % most_entries) (omega arith))
      ]

-- "The second's atoms are numbered on from 126."
pub numbered-on : (file : List ℕ) → Shaped file 1 → TwoAtomBlocks file → (n : ℕ)
    → atom_at (file_atoms file) (most_entries + n) ≡ atom_at (atoms_of (first_entries (block_at file 1))) n
unfolding file_atoms
numbered-on file s two n =
    let first = first-full file s two in
    let past : length (first_entries (block_at file 0)) / 4 ≤ most_entries + n = omega arith in
    let left : most_entries + n - length (first_entries (block_at file 0)) / 4 ≡ n = omega arith in
    sym (joined-second (first_entries (block_at file 0)) (more_entries file) (most_entries + n) past)
    ∙ rw (left, two_blocks file two) refl
