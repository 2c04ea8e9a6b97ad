-- What the tests ask of two lists of bytes, over given atoms: 1 yes, 0 no, 2 if one of them is no term or
-- there are more than 252 atoms.
use Rattle.std.specs.Prelude.{Bool, true, false, ◌&&◌, List, [], ℕ, ◌%◌, ◌≤◌, eqb, leb, length, is_none}
use Rattle.blocks.specs.Kinds.{good_kind}
use Rattle.blocks.specs.Limits.{most_term_bytes}
use Rattle.terms.specs.Entry.{term_of, Begins}
use Rattle.terms.specs.declared.atom.Atom.{Atom}
use Rattle.terms.specs.Atom.{joined_atoms}
use Rattle.terms.specs.TermEntry.{wrong_entry}
use Rattle.terms.specs.Reading.{one_term?}
use Rattle.terms.specs.Decide.{answer, share?, match?, term?, variable?}

-- The atoms of the entries, and the most bytes that they may have: 252 atoms.
abbrev pub atoms_by : List ℕ → List Atom
atoms_by atoms = joined_atoms atoms []

abbrev pub most_bytes : ℕ
most_bytes = 1008

-- One term of at most 63 entries, over these atoms, with variables of all sorts (as in a good pattern, kind 3).
unfoldable pub is_term : List ℕ → List ℕ → Bool
is_term atoms e =
    leb (length atoms) most_bytes && leb (length e) most_term_bytes && eqb (length e % 4) 0
    && is_none (wrong_entry (atoms_by atoms) good_kind e) && answer (one_term? e)

abbrev pub yes_number : Bool → ℕ
yes_number true = 1
yes_number false = 0

abbrev pub number_by : Bool → ℕ → ℕ
number_by true n = n
number_by false n = 2

unfoldable pub share_number : List ℕ → List ℕ → List ℕ → ℕ
share_number atoms s t = number_by (is_term atoms s && is_term atoms t) (yes_number (answer (share? (atoms_by atoms) (term_of s) (term_of t))))

unfoldable pub match_number : List ℕ → List ℕ → List ℕ → ℕ
match_number atoms p t = number_by (is_term atoms p && is_term atoms t) (yes_number (answer (match? (atoms_by atoms) (term_of p) (term_of t))))

unfoldable pub same_number : List ℕ → List ℕ → List ℕ → ℕ
same_number atoms s t = number_by (is_term atoms s && is_term atoms t) (yes_number (answer (term? variable? (term_of s) (term_of t))))

-- What a yes says.
pub record Term (atoms e : List ℕ) : Type 0 where
  pub few : length atoms ≤ most_bytes
  pub begins : Begins e
  pub short : length e ≤ most_term_bytes
