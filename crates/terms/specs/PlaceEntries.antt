-- Which entries of a term stand at places, as the walks over entries go by it: "nothing below a hash is a place" (02, No. 7).
use Rattle.std.specs.Prelude.{◌≡◌, List, ℕ, ◌+◌, ◌*◌, ◌<◌, eqb}
use Rattle.terms.specs.Tag.{hash_tag}
use Rattle.terms.specs.Decisions.{pick}
use Rattle.terms.specs.Entry.{term_of, size, from}
use Rattle.terms.specs.TermGraph.{tag_in}

-- Entry k lies below no hash. (It then stands at a place: `place-entry` of proofs/PlaceEntryLaws.antt.)
pub record PlaceEntry (e : List ℕ) (k : ℕ) : Type 0 where
  pub no_hash : (h : ℕ) → tag_in e h ≡ hash_tag → h < k → k < h + size (term_of (from (4 * h) e)) → ⊥

-- Where the walk over the places goes on behind entry k: what a hash holds is passed over.
unfoldable pub next_place : List ℕ → ℕ → ℕ
next_place e k = pick (eqb (tag_in e k) hash_tag) (k + size (term_of (from (4 * k) e))) (k + 1)
