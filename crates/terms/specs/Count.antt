-- Entries that all have a symbol, counted as terms by their tags: how many terms are still to come.
use Rattle.std.specs.Prelude.{Bool, false, List, [], ◌∷◌, ℕ, zero, suc, ◌+◌, ◌<◌, ◌≤◌, eqb, get_or}
use Rattle.terms.specs.Tag.{signature_tag, children_of}

-- The tags of the entries.
unfoldable pub tags_of : List ℕ → List ℕ
tags_of [] = []
tags_of (a ∷ []) = []
tags_of (a ∷ b ∷ []) = []
tags_of (a ∷ b ∷ c ∷ []) = []
tags_of (tag ∷ zero_byte ∷ low ∷ high ∷ rest) = tag ∷ tags_of rest

-- Each of the first of them is one of the tags there are.
abbrev pub SomeTags : List ℕ → ℕ → Type 0
SomeTags tags count = (k : ℕ) → k < count → get_or tags k 0 ≤ signature_tag

-- Entries with these tags are so many terms: each makes one of as many terms after it as it has children.
unfoldable pub are_terms : List ℕ → ℕ → Bool
are_terms [] need = eqb need 0
are_terms (tag ∷ tags) zero = false
are_terms (tag ∷ tags) (suc need) = are_terms tags (need + children_of tag)
