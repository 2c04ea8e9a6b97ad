-- A file whose length and blocks have passed numbers 1 to 8, as the conditions after them find it.
use Rattle.std.specs.Prelude.{◌≡◌, List, ℕ, ◌*◌, ◌%◌, ◌<◌, ◌≤◌, length}
use Rattle.blocks.specs.Kinds.{secret_kind, good_kind, rule_kind, ListsTerm}
use Rattle.blocks.specs.Limits.{block_size, most_blocks, most_term_entries}
use Rattle.blocks.specs.Block.{block_at, kind_of, first_count, second_count, first_entries, second_entries, Fitting}
use Rattle.terms.specs.Term.{Term, Message, Variable, encrypted, as_term}
use Rattle.terms.specs.Entry.{Begins, term_of, size}
use Rattle.judge.specs.File.{block_count, TwoAtomBlocks, pattern_of}

-- A block of kind 2 to 4 holds one term of at most 63 entries.
pub record TermBlock (b : List ℕ) : Type 0 where
  pub fitting : Fitting b
  pub term : Begins (first_entries b)
  pub whole : 4 * size (term_of (first_entries b)) ≡ length (first_entries b)
  pub short : first_count b ≤ most_term_entries

-- A block of kind 5 holds a premise, or none, and a conclusion, each of at most 63 entries.
pub record RuleBlock (b : List ℕ) : Type 0 where
  pub fitting : Fitting b
  pub premise : (first_count b ≡ 0 → ⊥) → Begins (first_entries b)
  pub conclusion : Begins (second_entries b)
  pub premise_whole : (first_count b ≡ 0 → ⊥) → 4 * size (term_of (first_entries b)) ≡ length (first_entries b)
  pub conclusion_whole : 4 * size (term_of (second_entries b)) ≡ length (second_entries b)
  pub premise_short : first_count b ≤ most_term_entries
  pub conclusion_short : second_count b ≤ most_term_entries

-- A secret has no variables.
pub record SecretBlock (b : List ℕ) : Type 0 where
  pub message : Message
  pub same : pattern_of b ≡ as_term message

-- A good pattern is an encryption.
pub record GoodBlock (b : List ℕ) : Type 0 where
  pub key : ℕ
  pub content : Term Variable
  pub same : pattern_of b ≡ encrypted key content

-- The file is whole blocks, and its atom blocks have room for their entries.
pub record AtomsFit (file : List ℕ) : Type 0 where
  pub whole : length file % block_size ≡ 0
  pub first : Fitting (block_at file 0)
  pub second : TwoAtomBlocks file → Fitting (block_at file 1)

-- The length is right, kinds do not fall from block to block, and each block holds what its kind asks for.
pub record Laid (file : List ℕ) : Type 0 where
  pub exact : block_size * block_count file ≡ length file
  pub some_block : 1 ≤ block_count file
  pub few : block_count file ≤ most_blocks
  pub ordered : (i j : ℕ) → i ≤ j → j < block_count file → kind_of (block_at file i) ≤ kind_of (block_at file j)
  pub atoms : AtomsFit file
  pub terms : (i : ℕ) → i < block_count file → ListsTerm (kind_of (block_at file i)) → TermBlock (block_at file i)
  pub rules : (i : ℕ) → i < block_count file → kind_of (block_at file i) ≡ rule_kind → RuleBlock (block_at file i)
  pub secrets : (i : ℕ) → i < block_count file → kind_of (block_at file i) ≡ secret_kind → SecretBlock (block_at file i)
  pub goods : (i : ℕ) → i < block_count file → kind_of (block_at file i) ≡ good_kind → GoodBlock (block_at file i)
