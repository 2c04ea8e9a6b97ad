-- Tags of term entries (document 01, "Term entry"). This is the one place that tells them apart: what else goes by cases over
-- tags goes by `Tagged`, with a name for each case.
use Rattle.std.specs.Prelude.{◌≡◌, refl, Bool, true, false, ◌⊎◌, ℕ, zero, suc, ◌%◌, ◌≤◌, ◌<◌}
use Rattle.std.proofs.Common.{inl, inr, arith}
use Rattle.terms.specs.Term.{Sort, sort, plain, marked, any_message, one_nonce, Wrapping, encryption, hash, signature}

-- Tags: 1 atom; 2 pair; 3 encryption; 4 plain variable; 5 marked variable; 6 plain nonce variable; 7 marked one
-- (02, No. 3); 8 hash; 9 signature (02, No. 7).
abbrev pub atom_tag : ℕ
atom_tag = 1

abbrev pub pair_tag : ℕ
pair_tag = 2

abbrev pub encryption_tag : ℕ
encryption_tag = 3

abbrev pub plain_tag : ℕ
plain_tag = 4

abbrev pub marked_tag : ℕ
marked_tag = 5

abbrev pub plain_nonce_tag : ℕ
plain_nonce_tag = 6

abbrev pub marked_nonce_tag : ℕ
marked_nonce_tag = 7

abbrev pub hash_tag : ℕ
hash_tag = 8

abbrev pub signature_tag : ℕ
signature_tag = 9

-- The tag of what is put around a term.
unfoldable pub wrapping_tag : Wrapping → ℕ
wrapping_tag encryption = encryption_tag
wrapping_tag hash = hash_tag
wrapping_tag signature = signature_tag

-- The tag of a variable of this sort.
unfoldable pub sort_tag : Sort → ℕ
sort_tag (sort plain any_message) = plain_tag
sort_tag (sort marked any_message) = marked_tag
sort_tag (sort plain one_nonce) = plain_nonce_tag
sort_tag (sort marked one_nonce) = marked_nonce_tag

-- How many variables of each sort there are: 0 to 7.
abbrev pub variables : ℕ
variables = 8

-- A variable's tag: of those there are, 4 to 7 (told by one bit, as the code does). Any other is a symbol's.
abbrev pub VariableTag : ℕ → Type 0
VariableTag tag = plain_tag ≤ tag % 8

abbrev pub SymbolTag : ℕ → Type 0
SymbolTag tag = tag % 8 < plain_tag

-- The tag of a variable that is marked.
abbrev pub MarkedTag : ℕ → Type 0
MarkedTag tag = (tag ≡ marked_tag) ⊎ (tag ≡ marked_nonce_tag)

-- The tag of something that is put around a term: it has one child.
pub record WrapperTag (tag : ℕ) : Type 0 where
  pub wrapping : Wrapping
  pub is : tag ≡ wrapping_tag wrapping

-- What a byte says as a tag.
pub data Tagged (tag : ℕ) : Type 0 where
  an_atom : tag ≡ atom_tag → Tagged tag
  a_pair : tag ≡ pair_tag → Tagged tag
  a_wrapping : (w : Wrapping) → tag ≡ wrapping_tag w → Tagged tag
  a_variable : (s : Sort) → tag ≡ sort_tag s → Tagged tag
  no_tag : (tag < atom_tag) ⊎ (signature_tag < tag) → Tagged tag

unfoldable pub tagged : (tag : ℕ) → Tagged tag
unfolding sort_tag wrapping_tag
tagged zero = no_tag (inl (omega arith))
tagged (suc zero) = an_atom refl
tagged (suc (suc zero)) = a_pair refl
tagged (suc (suc (suc zero))) = a_wrapping encryption refl
tagged (suc (suc (suc (suc zero)))) = a_variable (sort plain any_message) refl
tagged (suc (suc (suc (suc (suc zero))))) = a_variable (sort marked any_message) refl
tagged (suc (suc (suc (suc (suc (suc zero)))))) = a_variable (sort plain one_nonce) refl
tagged (suc (suc (suc (suc (suc (suc (suc zero))))))) = a_variable (sort marked one_nonce) refl
tagged (suc (suc (suc (suc (suc (suc (suc (suc zero)))))))) = a_wrapping hash refl
tagged (suc (suc (suc (suc (suc (suc (suc (suc (suc zero))))))))) = a_wrapping signature refl
tagged (suc (suc (suc (suc (suc (suc (suc (suc (suc (suc n)))))))))) = no_tag (inr (omega arith))

-- How many children an entry of this tag has.
abbrev pub children_by : {tag : ℕ} → Tagged tag → ℕ
children_by (an_atom e) = 0
children_by (a_pair e) = 2
children_by (a_wrapping w e) = 1
children_by (a_variable s e) = 0
children_by (no_tag e) = 0

unfoldable pub children_of : ℕ → ℕ
unfolding tagged
children_of tag = children_by (tagged tag)

-- A tag without a symbol of its own: a variable's, or no tag.
abbrev pub free_by : {tag : ℕ} → Tagged tag → Bool
free_by (an_atom e) = false
free_by (a_pair e) = false
free_by (a_wrapping w e) = false
free_by (a_variable s e) = true
free_by (no_tag e) = true

unfoldable pub free_tag : ℕ → Bool
unfolding tagged
free_tag tag = free_by (tagged tag)

-- What the decisions below need of the tag of a sort: it is a variable's, and says that sort.
pub sort-tag : {tag : ℕ} (s : Sort) → tag ≡ sort_tag s → VariableTag tag
unfolding sort_tag
sort-tag (sort plain any_message) e = omega arith
sort-tag (sort marked any_message) e = omega arith
sort-tag (sort plain one_nonce) e = omega arith
sort-tag (sort marked one_nonce) e = omega arith

pub sort-range : {tag : ℕ} (s : Sort) → tag ≡ sort_tag s → (encryption_tag < tag) × (tag < hash_tag)
unfolding sort_tag
sort-range (sort plain any_message) e = (omega arith, omega arith)
sort-range (sort marked any_message) e = (omega arith, omega arith)
sort-range (sort plain one_nonce) e = (omega arith, omega arith)
sort-range (sort marked one_nonce) e = (omega arith, omega arith)

pub sort-tagged : (s : Sort) → tagged (sort_tag s) ≡ a_variable s refl
unfolding tagged sort_tag
sort-tagged (sort plain any_message) = refl
sort-tagged (sort marked any_message) = refl
sort-tagged (sort plain one_nonce) = refl
sort-tagged (sort marked one_nonce) = refl

-- The same of what is put around a term: it is no atom's and no pair's, nor a variable's.
pub wrapping-tag : {tag : ℕ} (w : Wrapping) → tag ≡ wrapping_tag w → pair_tag < tag
unfolding wrapping_tag
wrapping-tag encryption e = omega arith
wrapping-tag hash e = omega arith
wrapping-tag signature e = omega arith

pub wrapping-symbol : {tag : ℕ} (w : Wrapping) → tag ≡ wrapping_tag w → SymbolTag tag
unfolding wrapping_tag
wrapping-symbol encryption e = omega arith
wrapping-symbol hash e = omega arith
wrapping-symbol signature e = omega arith

pub wrapping-last : {tag : ℕ} (w : Wrapping) → tag ≡ wrapping_tag w → tag ≤ signature_tag
unfolding wrapping_tag
wrapping-last encryption e = omega arith
wrapping-last hash e = omega arith
wrapping-last signature e = omega arith

pub wrapping-tagged : (w : Wrapping) → tagged (wrapping_tag w) ≡ a_wrapping w refl
unfolding tagged wrapping_tag
wrapping-tagged encryption = refl
wrapping-tagged hash = refl
wrapping-tagged signature = refl
