-- Number 7 by a table over the tags: the value of an entry is below its tag's limit; and where it is the number of a key, by the
-- kind of that atom.
use Rattle.std.specs.Prelude.{◌≡◌, List, [], ◌∷◌, ℕ, ◌<◌, ◌≤◌, eqb, ltb, get_or}
use Rattle.blocks.specs.Kinds.{secret_kind, good_kind, bad_kind}
use Rattle.terms.specs.declared.atom.Atom.{Atom}
use Rattle.terms.specs.Atom.{public_kind, private_kind, atom_kind}
use Rattle.terms.specs.Tag.{encryption_tag, signature_tag, variables}
use Rattle.terms.specs.Entry.{tag_at, value_at}
use Rattle.terms.specs.Decisions.{pick}

-- The kind of an atom, 1 to 5; 0 for no atom and for no kind.
unfoldable pub listed_kind : List Atom → ℕ → ℕ
listed_kind atoms n = pick (ltb (atom_kind atoms n) 6) (atom_kind atoms n) 0

-- How many plain and how many marked variables a block of this kind may have, and as many nonce variables of each.
unfoldable pub plain_limit : ℕ → ℕ
plain_limit kind = pick (eqb kind secret_kind) 0 variables

unfoldable pub marked_limit : ℕ → ℕ
marked_limit kind = pick (eqb kind good_kind) variables (pick (eqb kind bad_kind) variables 0)

-- The limits of the tags, with so many atoms.
unfoldable pub limits_of : ℕ → ℕ → List ℕ
limits_of kind count = 0 ∷ count ∷ 1 ∷ count ∷ plain_limit kind ∷ marked_limit kind ∷ plain_limit kind ∷ marked_limit kind ∷ 1 ∷ count ∷ []

-- The entry that stands first is right by these limits.
pub record ByLimits (atoms : List Atom) (limits e : List ℕ) : Type 0 where
  pub blank : get_or e 1 0 ≡ 0
  pub below : value_at e < get_or limits (tag_at e) 0
  pub key : tag_at e ≡ encryption_tag → public_kind ≤ listed_kind atoms (value_at e)
  pub signer : tag_at e ≡ signature_tag → listed_kind atoms (value_at e) ≡ private_kind
