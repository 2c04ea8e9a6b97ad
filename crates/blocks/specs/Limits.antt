-- The sizes and limits of document 01, "Blocks of 512 bytes" and "Verdicts".
use Rattle.std.specs.Prelude.{ℕ}

-- "Blocks of 512 bytes."
abbrev pub block_size : ℕ
block_size = 512

-- "At most 64 blocks": no length "above 32,768".
abbrev pub most_blocks : ℕ
most_blocks = 64

abbrev pub most_bytes : ℕ
most_bytes = 32768

-- "Bytes 4 to 507 are 126 entries of four bytes."
abbrev pub most_entries : ℕ
most_entries = 126

-- "A certificate may begin with two atom blocks" (02, No. 1).
abbrev pub most_atom_blocks : ℕ
most_atom_blocks = 2

-- "Keys and atoms in terms now reach 251" (02, No. 1): at most so many atoms.
abbrev pub most_atoms : ℕ
most_atoms = 252

-- A term has at most 63 entries: so many bytes.
abbrev pub most_term_entries : ℕ
most_term_entries = 63

abbrev pub most_term_bytes : ℕ
most_term_bytes = 252
