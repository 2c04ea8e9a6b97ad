-- Atom entries, and what number 6 asks of them (document 01, "Atom entry").
use Rattle.std.specs.Prelude.{◌≡◌, ◌⊎◌, List, [], ◌∷◌, ◌++◌, ℕ, zero, suc, ◌+◌, ◌*◌, ◌≤◌, ◌<◌, length, get_or}
use Rattle.std.proofs.Math.Path.{refl}
use Rattle.std.proofs.Common.{◌∙◌, inl, inr, arith}
use Rattle.std.proofs.Math.Decide.{ℕ_discrete, dec_le, dec_lt}
use Rattle.terms.specs.declared.atom.Atom.{Atom}
use Rattle.terms.specs.declared.valid.Atoms.{Atoms}
use Rattle.terms.specs.First.{Found, first_not}
use Rattle.terms.specs.Decisions.{dec_map, dec_and, dec_or}
use Rattle.terms.specs.Term.{Foreign}

-- Kinds of atoms: 1 principal, 2 nonce, 3 public, 4 private, 5 symmetric key.
abbrev pub principal_kind : ℕ
principal_kind = 1

abbrev pub nonce_kind : ℕ
nonce_kind = 2

abbrev pub public_kind : ℕ
public_kind = 3

abbrev pub private_kind : ℕ
private_kind = 4

abbrev pub symmetric_kind : ℕ
symmetric_kind = 5

-- What a byte says as a kind of atoms: the one place that tells them apart.
pub data AtomKinded (kind : ℕ) : Type 0 where
  a_principal : kind ≡ principal_kind → AtomKinded kind
  a_nonce : kind ≡ nonce_kind → AtomKinded kind
  a_public_key : kind ≡ public_kind → AtomKinded kind
  a_private_key : kind ≡ private_kind → AtomKinded kind
  a_symmetric_key : kind ≡ symmetric_kind → AtomKinded kind
  no_atom : (kind < principal_kind) ⊎ (symmetric_kind < kind) → AtomKinded kind

unfoldable pub atom_kinded : (kind : ℕ) → AtomKinded kind
atom_kinded zero = no_atom (inl (omega arith))
atom_kinded (suc zero) = a_principal refl
atom_kinded (suc (suc zero)) = a_nonce refl
atom_kinded (suc (suc (suc zero))) = a_public_key refl
atom_kinded (suc (suc (suc (suc zero)))) = a_private_key refl
atom_kinded (suc (suc (suc (suc (suc zero))))) = a_symmetric_key refl
atom_kinded (suc (suc (suc (suc (suc (suc k)))))) = no_atom (inr (omega arith))

-- The atoms of the entries, four bytes each: kind, known (0 or 1), partner (two bytes, little-endian).
unfoldable pub atoms_of : List ℕ → List Atom
atoms_of [] = []
atoms_of (a ∷ []) = []
atoms_of (a ∷ b ∷ []) = []
atoms_of (a ∷ b ∷ c ∷ []) = []
atoms_of (kind ∷ known ∷ low ∷ high ∷ rest) = record { kind = kind; known = known; partner = low + 256 * high } ∷ atoms_of rest

-- The atoms of two blocks, one list: "the second's atoms are numbered on" (02, No. 1).
abbrev pub joined_atoms : List ℕ → List ℕ → List Atom
joined_atoms first second = atoms_of first ++ atoms_of second

abbrev pub listed : Atoms → List Atom
listed atoms = joined_atoms atoms.first.now atoms.more.now

-- The atom of a number (all zero where there is none).
unfoldable pub atom_at : List Atom → ℕ → Atom
atom_at atoms n = get_or atoms n (record { kind = 0; known = 0; partner = 0 })

abbrev pub atom_kind : List Atom → ℕ → ℕ
atom_kind atoms n = (atom_at atoms n).kind

abbrev pub known_of : List Atom → ℕ → ℕ
known_of atoms n = (atom_at atoms n).known

abbrev pub partner_of : List Atom → ℕ → ℕ
partner_of atoms n = (atom_at atoms n).partner

-- A key: public, private or symmetric.
pub data IsKey (atoms : List Atom) (n : ℕ) : Type 0 where
  is_public : atom_kind atoms n ≡ public_kind → IsKey atoms n
  is_private : atom_kind atoms n ≡ private_kind → IsKey atoms n
  is_symmetric : atom_kind atoms n ≡ symmetric_kind → IsKey atoms n

-- That is, a kind from 3 to 5.
pub key-kind : {atoms : List Atom} {n : ℕ} → IsKey atoms n → (public_kind ≤ atom_kind atoms n) × (atom_kind atoms n ≤ symmetric_kind)
key-kind (is_public e) = (omega arith, omega arith)
key-kind (is_private e) = (omega arith, omega arith)
key-kind (is_symmetric e) = (omega arith, omega arith)

pub kind-key : {atoms : List Atom} {n : ℕ} → public_kind ≤ atom_kind atoms n → atom_kind atoms n ≤ symmetric_kind → IsKey atoms n
kind-key {atoms} {n} low high = elim (ℕ_discrete (atom_kind atoms n) public_kind) [
  | yes p ↦ is_public p
  | no p ↦ elim (ℕ_discrete (atom_kind atoms n) private_kind) [ yes q ↦ is_private q | no q ↦ is_symmetric (omega arith) ]
]

unfoldable pub is_key? : (atoms : List Atom) (n : ℕ) → Dec (IsKey atoms n)
unfolding atom_at dec_le dec_map dec_and
is_key? atoms n = dec_map (λ h. kind-key h.0 h.1) key-kind (dec_and (dec_le public_kind (atom_kind atoms n)) (λ l. dec_le (atom_kind atoms n) symmetric_kind))

-- A nonce: a listed atom of kind 2, or a foreign one, for "all are nonces". (02, No. 3: "listed or foreign".) This is the
-- one place that says which atoms are nonces.
pub data Nonce (atoms : List Atom) (n : ℕ) : Type 0 where
  listed_nonce : atom_kind atoms n ≡ nonce_kind → Nonce atoms n
  foreign_nonce : Foreign n → Nonce atoms n

unfoldable pub nonce? : (atoms : List Atom) (n : ℕ) → Dec (Nonce atoms n)
unfolding atom_at ℕ_discrete dec_le dec_map dec_or
nonce? atoms n = dec_map to from (dec_or (ℕ_discrete (atom_kind atoms n) nonce_kind) (λ off. dec_le 1000 n))
  where
    to : (atom_kind atoms n ≡ nonce_kind) ⊎ Foreign n → Nonce atoms n
    to (inl is) = listed_nonce is
    to (inr far) = foreign_nonce far

    from : Nonce atoms n → (atom_kind atoms n ≡ nonce_kind) ⊎ Foreign n
    from (listed_nonce is) = inl is
    from (foreign_nonce far) = inr far

-- A public and a private key name each other: the partner is an entry of the other kind whose partner field is this
-- entry's number. Of the partner's entry only its kind and its partner field count.
pub record NamedBack (atoms : List Atom) (n other : ℕ) : Type 0 where
  pub there : partner_of atoms n < length atoms
  pub kind : atom_kind atoms (partner_of atoms n) ≡ other
  pub back : partner_of atoms (partner_of atoms n) ≡ n

-- Partner: zero for kinds 1 and 2; a public and a private key name each other; a symmetric key names itself.
pub data PartnerRight (atoms : List Atom) (n : ℕ) : Type 0 where
  principal : atom_kind atoms n ≡ principal_kind → partner_of atoms n ≡ 0 → PartnerRight atoms n
  nonce : atom_kind atoms n ≡ nonce_kind → partner_of atoms n ≡ 0 → PartnerRight atoms n
  public_key : atom_kind atoms n ≡ public_kind → NamedBack atoms n private_kind → PartnerRight atoms n
  private_key : atom_kind atoms n ≡ private_kind → NamedBack atoms n public_kind → PartnerRight atoms n
  symmetric_key : atom_kind atoms n ≡ symmetric_kind → partner_of atoms n ≡ n → PartnerRight atoms n

-- Number 6: the atom entry is right: known is 0 or 1, and the kind, one of 1 to 5, has the partner that it asks for.
pub record AtomRight (atoms : List Atom) (n : ℕ) : Type 0 where
  pub known : known_of atoms n ≤ 1
  pub partner : PartnerRight atoms n

-- The same, decided by the kind.
module _ (atoms : List Atom) (n : ℕ) where
  -- What an entry of this kind has to have.
  abbrev pub PartnerWantedBy : {kind : ℕ} → AtomKinded kind → Type 0
  PartnerWantedBy (a_principal e) = partner_of atoms n ≡ 0
  PartnerWantedBy (a_nonce e) = partner_of atoms n ≡ 0
  PartnerWantedBy (a_public_key e) = NamedBack atoms n private_kind
  PartnerWantedBy (a_private_key e) = NamedBack atoms n public_kind
  PartnerWantedBy (a_symmetric_key e) = partner_of atoms n ≡ n
  PartnerWantedBy (no_atom e) = ⊥

  unfoldable pub PartnerWanted : ℕ → Type 0
  unfolding atom_kinded
  PartnerWanted kind = PartnerWantedBy (atom_kinded kind)

  pub partner_wanted : PartnerRight atoms n → PartnerWanted (atom_kind atoms n)
  unfolding PartnerWanted
  partner_wanted (principal k p) = rw k p
  partner_wanted (nonce k p) = rw k p
  partner_wanted (public_key k p) = rw k p
  partner_wanted (private_key k p) = rw k p
  partner_wanted (symmetric_key k p) = rw k p

  pub partner_right : (k : ℕ) → atom_kind atoms n ≡ k → PartnerWanted k → PartnerRight atoms n
  unfolding PartnerWanted
  partner_right k is w = go (atom_kinded k) w
    where
      go : (c : AtomKinded k) → PartnerWantedBy c → PartnerRight atoms n
      go (a_principal e) w = principal (is ∙ e) w
      go (a_nonce e) w = nonce (is ∙ e) w
      go (a_public_key e) w = public_key (is ∙ e) w
      go (a_private_key e) w = private_key (is ∙ e) w
      go (a_symmetric_key e) w = symmetric_key (is ∙ e) w
      go (no_atom e) w = absurd w

  unfoldable pub named_back? : (other : ℕ) → Dec (NamedBack atoms n other)
  unfolding atom_at ℕ_discrete dec_lt dec_map dec_and
  named_back? other = dec_map (λ h. record { there = h.0; kind = h.1.0; back = h.1.1 }) (λ r. (r.there, (r.kind, r.back)))
      (dec_and (dec_lt (partner_of atoms n) (length atoms))
      (λ l. dec_and (ℕ_discrete (atom_kind atoms (partner_of atoms n)) other) (λ k. ℕ_discrete (partner_of atoms (partner_of atoms n)) n)))

  wanted? : (k : ℕ) → Dec (PartnerWanted k)
  unfolding PartnerWanted named_back? ℕ_discrete atom_at
  wanted? k = go (atom_kinded k)
    where
      go : (c : AtomKinded k) → Dec (PartnerWantedBy c)
      go (a_principal e) = ℕ_discrete (partner_of atoms n) 0
      go (a_nonce e) = ℕ_discrete (partner_of atoms n) 0
      go (a_public_key e) = named_back? private_kind
      go (a_private_key e) = named_back? public_kind
      go (a_symmetric_key e) = ℕ_discrete (partner_of atoms n) n
      go (no_atom e) = no (λ h. h)

  -- Is the atom entry right?
  unfoldable pub atom_right? : Dec (AtomRight atoms n)
  unfolding atom_at wanted? dec_le dec_map dec_and
  atom_right? = dec_map (λ h. record { known = h.0; partner = partner_right (atom_kind atoms n) refl h.1 }) (λ r. (r.known, partner_wanted r.partner))
      (dec_and (dec_le (known_of atoms n) 1) (λ l. wanted? (atom_kind atoms n)))

-- The first atom entry that is not right.
unfoldable pub wrong_atom : List Atom → Found
unfolding first_not atom_right?
wrong_atom atoms = first_not (atom_right? atoms) (length atoms)
