-- A file whose length and blocks have passed numbers 1 to 8 is laid out, as the conditions after them find it. Assumes nothing.
use mathlib.Core.Path.{◌≡◌}
use mathlib.Core.Bool.{true}
use mathlib.Core.List.{List, ◌++◌}
use mathlib.Core.Option.{none, some, none-ne-some}
use Prim.Native.Nat.{ℕ, zero, suc, ◌*◌, ◌<◌, ◌≤◌}
use native.Mathlib.Omega.{arith}
use native.Mathlib.Decide.{ℕ_discrete}
use lib.Seq.{take_at, drop_at}
use borrow.Author.Tests.{eq-eqb, ne_eqb}
use Rattle.blocks.specs.Kinds.{atoms_kind, secret_kind, good_kind, rule_kind, ListsTerm, HoldsTerms}
use Rattle.blocks.specs.Limits.{most_term_entries}
use Rattle.blocks.specs.Block.{block_at, kind_of, first_count, second_count, first_entries, second_entries, Fitting}
use Rattle.blocks.specs.Layout.{CountsRight, atoms, term, rule}
use Rattle.blocks.proofs.KindLaws.{secret-lists, good-lists, lists-holds, rule-holds}
use Rattle.blocks.proofs.Layouts.{layout-fits}
use Rattle.blocks.proofs.Parts.{first-length}
use Rattle.terms.specs.Term.{Term, Variable}
use Rattle.terms.specs.Entry.{term_of}
use Rattle.terms.specs.TermEntry.{EntryRight}
use Rattle.terms.specs.Each.{Each}
use Rattle.terms.proofs.EachLaws.{each_of, each_take, each-drop}
use Rattle.terms.proofs.OneTermLaws.{TermRight, one-begins, one-whole, right-term, secret-message}
use Rattle.judge.specs.File.{block_count, pattern_of, rule_of, file_atoms, used_entries}
use Rattle.judge.specs.Laid.{TermBlock, RuleBlock, SecretBlock, GoodBlock, Laid}
use Rattle.judge.specs.Verdict.{length_right, length_fault, block_fault, form_from, form_fault}
use Rattle.judge.specs.Meaning.{LengthRight, KindRight, atom_block, later, BlockRight}
use Rattle.judge.proofs.Files.AtomBlocks.{two_inside}
use Rattle.judge.proofs.Files.Exact.{first_block}
use Rattle.judge.proofs.Files.Judged.{length-judged, used-both, used-length, block-judged}

-- ---- a block that has passed

module _ (file : List ℕ) (i : ℕ) (right : BlockRight file i) where
  abbrev pub b : List ℕ
  b = block_at file i

  pub fits : Fitting b
  fits = layout-fits b right.shaped.laid.layout

  -- No term has more than 63 entries.
  short : HoldsTerms (kind_of b) → first_count b ≤ most_term_entries
  short l = go right.shaped.laid.layout.counts
    where
      go : CountsRight (kind_of b) (first_count b) (second_count b) → first_count b ≤ most_term_entries
      go (atoms k a c d) = let low = l.low in absurd (omega arith)
      go (term k a c d) = c
      go (rule k a c d) = a

  second_short : kind_of b ≡ rule_kind → second_count b ≤ most_term_entries
  second_short l = go right.shaped.laid.layout.counts
    where
      go : CountsRight (kind_of b) (first_count b) (second_count b) → second_count b ≤ most_term_entries
      go (atoms k a c d) = absurd (omega arith)
      go (term k a c d) = let high = k.high in absurd (omega arith)
      go (rule k a c d) = d

  -- Each entry is right, of the first part and of the second.
  used : HoldsTerms (kind_of b) → Each (EntryRight (file_atoms file) (kind_of b)) (first_entries b ++ second_entries b)
  used l =
      let size = used-length b fits in
      let all : Each (EntryRight (file_atoms file) (kind_of b)) (used_entries b) =
      each_of (used_entries b) (omega arith) (λ n h. right.entries l n (omega arith)) in
      rw (used-both b) at all

  each : HoldsTerms (kind_of b) → Each (EntryRight (file_atoms file) (kind_of b)) (first_entries b)
  each l = rw (take_at (first_entries b) (second_entries b) (4 * first_count b) (first-length b fits)) at (each_take (first_count b) (used l))

  each-second : HoldsTerms (kind_of b) → Each (EntryRight (file_atoms file) (kind_of b)) (second_entries b)
  each-second l =
      rw (drop_at (first_entries b) (second_entries b) (4 * first_count b) (first-length b fits)) at (each-drop (first_count b) (used l))

  -- The term that a block lists.
  pub pattern-right : ListsTerm (kind_of b) → TermRight (file_atoms file) (kind_of b) (pattern_of b)
  unfolding pattern_of
  pattern-right l = right-term (each (lists-holds l)) (right.pattern l).one

  -- The terms of a rule.
  pub premise-right : kind_of b ≡ rule_kind → (t : Term Variable) → (rule_of b).premise ≡ some t → TermRight (file_atoms file) (kind_of b) t
  unfolding rule_of
  premise-right k t e = go (ℕ_discrete (first_count b) 0)
    where
      go : Dec (first_count b ≡ 0) → TermRight (file_atoms file) (kind_of b) t
      go (yes z) = absurd (none-ne-some t (rw (eq-eqb (first_count b) 0 z) at e))
      go (no n) =
          let given : some (term_of (first_entries b)) ≡ some t = rw (ne_eqb (first_count b) 0 n) at e in
          let same : term_of (first_entries b) ≡ t = cc in
          rw same at (right-term (each (rule-holds k)) (right.premise k n))

  pub conclusion-right : kind_of b ≡ rule_kind → TermRight (file_atoms file) (kind_of b) (rule_of b).conclusion
  unfolding rule_of
  conclusion-right k = right-term (each-second (rule-holds k)) (right.conclusion k)

  term-block : ListsTerm (kind_of b) → TermBlock b
  term-block l = record {
    fitting = fits;
    term = one-begins (right.pattern l).one;
    whole = one-whole (right.pattern l).one;
    short = short (lists-holds l);
  }

  rule-block : kind_of b ≡ rule_kind → RuleBlock b
  rule-block k = record {
    fitting = fits;
    premise = λ n. one-begins (right.premise k n);
    conclusion = one-begins (right.conclusion k);
    premise_whole = λ n. one-whole (right.premise k n);
    conclusion_whole = one-whole (right.conclusion k);
    premise_short = short (rule-holds k);
    conclusion_short = second_short k;
  }

  secret-block : kind_of b ≡ secret_kind → SecretBlock b
  secret-block k =
      let w = secret-message k (pattern-right (secret-lists k)) in record { message = w.0; same = w.1 }

  good-block : kind_of b ≡ good_kind → GoodBlock b
  unfolding pattern_of
  good-block k =
      let w = (right.pattern (good-lists k)).root (omega arith) (omega arith) in
      record { key = w.key; content = w.content; same = w.is }

-- ---- a file that has passed

-- Kinds do not fall from block to block. The first is that of atoms.
kind-first : {file : List ℕ} → KindRight file 0 → kind_of (block_at file 0) ≡ atoms_kind
kind-first (atom_block l k) = k
kind-first (later e l h b) = absurd (omega arith)

in_order : (file : List ℕ) → ((i : ℕ) → i < block_count file → BlockRight file i)
    → (i j : ℕ) → i ≤ j → j < block_count file → kind_of (block_at file i) ≤ kind_of (block_at file j)
in_order file blocks i zero low inside = let same : i ≡ 0 = omega arith in rw same (omega arith)
in_order file blocks i (suc j) low inside = elim (ℕ_discrete i (suc j)) [
  | yes same ↦ rw same (omega arith)
  | no off ↦ go (in_order file blocks i j (omega arith) (omega arith)) (blocks (suc j) inside).shaped.kind
]
  where
    go : kind_of (block_at file i) ≤ kind_of (block_at file j) → KindRight file (suc j) → kind_of (block_at file i) ≤ kind_of (block_at file (suc j))
    go before (atom_block l k) =
        let same : j ≡ 0 = omega arith in
        let start = rw same at before in
        omega (arith, start, k, kind-first (blocks 0 (omega arith)).shaped.kind)
    go before (later {j = k} e l h step) = let same : k ≡ j = omega arith in let next = rw same at step in omega (arith, before, next)

pub laid : (file : List ℕ) → LengthRight file → ((i : ℕ) → i < block_count file → BlockRight file i) → Laid file
laid file l blocks = record {
  exact = omega arith;
  some_block = omega arith;
  few = omega arith;
  ordered = in_order file blocks;
  atoms = record {
    whole = l.whole;
    first = fits file 0 (blocks 0 (omega arith));
    second = λ two. fits file 1 (blocks 1 (omega (arith, two_inside file l.whole two)));
  };
  terms = λ i h. term-block file i (blocks i h);
  rules = λ i h. rule-block file i (blocks i h);
  secrets = λ i h. secret-block file i (blocks i h);
  goods = λ i h. good-block file i (blocks i h);
}

-- What the first stage's answers tell.
pub long : (file : List ℕ) → length_right file ≡ true → LengthRight file
unfolding length_fault
long file h = (length-judged file).none_right (rw (h, length_fault))

pub block_fits : (file : List ℕ) (i : ℕ) → block_fault file i ≡ none → Fitting (block_at file i)
block_fits file i h = fits file i ((block-judged file i).none_right h)

pub layout-laid : (file : List ℕ) → length_right file ≡ true → form_fault file ≡ none → Laid file
unfolding form_fault form_from
layout-laid file l h = laid file (long file l) ((first_block (block_fault file) (block-judged file) (block_count file)).none_right h)
