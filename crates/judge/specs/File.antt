-- A file as a certificate (document 01, "Blocks of 512 bytes"): what its blocks say once their layout is right.
use Rattle.std.specs.Prelude.{◌≡◌, Bool, true, false, List, [], ◌∷◌, map, ℕ, zero, suc, ◌+◌, ◌*◌, ◌/◌, eqb, length, take}
use Rattle.std.proofs.Math.Option.{Option, none, some}
use Rattle.blocks.specs.Kinds.{atoms_kind, secret_kind, good_kind, bad_kind, rule_kind}
use Rattle.blocks.specs.Limits.{block_size}
use Rattle.blocks.specs.Block.{block_at, kind_of, first_count, second_count, entries_of, first_entries, second_entries}
use Rattle.terms.specs.Term.{Term, Message, Variable, atom, instance}
use Rattle.terms.specs.Entry.{term_of}
use Rattle.terms.specs.declared.atom.Atom.{Atom}
use Rattle.terms.specs.Atom.{joined_atoms}
use Rattle.judge.specs.declared.verdict.Counts.{Counts}
use Rattle.judge.specs.Certificate.{Certificate, Rule}

-- The blocks of a file from block i on, so many of them.
unfoldable pub blocks_from : List ℕ → ℕ → ℕ → List (List ℕ)
blocks_from file i zero = []
blocks_from file i (suc left) = block_at file i ∷ blocks_from file (suc i) left

-- How many blocks a file has, and all of them.
abbrev pub block_count : List ℕ → ℕ
block_count file = length file / block_size

unfoldable pub blocks_of : List ℕ → List (List ℕ)
unfolding blocks_from
blocks_of file = blocks_from file 0 (block_count file)

-- The blocks of one kind, in file order.
unfoldable pub of_kind : ℕ → List (List ℕ) → List (List ℕ)
of_kind kind [] = []
of_kind kind (b ∷ l) = elim (eqb (kind_of b) kind) [ true ↦ b ∷ of_kind kind l | false ↦ of_kind kind l ]

-- How many blocks are of this kind.
unfoldable pub kind_count : ℕ → List ℕ → ℕ
kind_count kind file = length (of_kind kind (blocks_of file))

-- The counts that are reported on acceptance.
unfoldable pub counts_of : List ℕ → Counts
counts_of file = record {
  blocks = block_count file;
  secrets = kind_count secret_kind file;
  goods = kind_count good_kind file;
  bads = kind_count bad_kind file;
  rules = kind_count rule_kind file;
}

-- "A certificate may begin with two atom blocks": "byte 0 of the second block says whether it is one" (02, No. 1).
abbrev pub TwoAtomBlocks : List ℕ → Type 0
TwoAtomBlocks file = kind_of (block_at file 1) ≡ atoms_kind

-- The entries of the second atom block; none if there is none.
unfoldable pub more_entries : List ℕ → List ℕ
more_entries file = elim (eqb (kind_of (block_at file 1)) atoms_kind) [ true ↦ first_entries (block_at file 1) | false ↦ [] ]

-- The atoms of a file, "the joined list" (02, No. 1): those of block 0, and the second block's numbered on from them.
unfoldable pub file_atoms : List ℕ → List Atom
unfolding more_entries
file_atoms file = joined_atoms (first_entries (block_at file 0)) (more_entries file)

-- The entries in use; in a rule, the premise's and then the conclusion's.
unfoldable pub used_entries : List ℕ → List ℕ
used_entries b = take (4 * (first_count b + second_count b)) (entries_of b)

-- The term of a block of kind 2 to 4.
unfoldable pub pattern_of : List ℕ → Term Variable
pattern_of b = term_of (first_entries b)

-- The secret of a block of kind 2. Secrets have no variables, so it is the only instance of its term, and the same term
-- (`secret-term` of proofs/Stages/Listing.antt); what the variables would be replaced by does not matter.
unfoldable pub secret_of : List ℕ → Message
unfolding pattern_of
secret_of b = instance (λ x. atom 0) (pattern_of b)

-- The rule of a block of kind 5: from its premise to its conclusion. A premise of no entries is none.
abbrev premise_by : Bool → Term Variable → Option (Term Variable)
premise_by true t = none
premise_by false t = some t

unfoldable pub rule_of : List ℕ → Rule
rule_of b = record { premise = premise_by (eqb (first_count b) 0) (term_of (first_entries b)); conclusion = term_of (second_entries b) }

-- The certificate: atoms in the first block or two, secrets of kind 2, good patterns of kind 3, bad ones of kind 4, rules
-- of kind 5.
unfoldable pub certificate_of : List ℕ → Certificate
unfolding blocks_of of_kind pattern_of secret_of rule_of file_atoms
certificate_of file = record {
  atoms = file_atoms file;
  secrets = map secret_of (of_kind secret_kind (blocks_of file));
  goods = map pattern_of (of_kind good_kind (blocks_of file));
  bads = map pattern_of (of_kind bad_kind (blocks_of file));
  rules = map rule_of (of_kind rule_kind (blocks_of file));
}
