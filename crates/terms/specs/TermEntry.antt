-- Term entries, and what number 7 asks of them (document 01, "Term entry").
use Rattle.std.specs.Prelude.{◌≡◌, List, ◌⊎◌, ℕ, ◌*◌, ◌/◌, ◌<◌, length, get_or, drop}
use Rattle.std.proofs.Math.Decide.{ℕ_discrete, dec_lt}
use Rattle.blocks.specs.Kinds.{secret_kind, good_kind, bad_kind}
use Rattle.terms.specs.First.{Found, first_not}
use Rattle.terms.specs.Term.{Sort, sort, plain, marked, Wrapping, encryption, hash, signature}
use Rattle.terms.specs.Tag.{atom_tag, pair_tag, wrapping_tag, sort_tag, variables, Tagged, an_atom, a_pair, a_wrapping, a_variable, no_tag, tagged}
use Rattle.terms.specs.Tag.{wrapping-tagged, sort-tagged}
use Rattle.terms.specs.Entry.{tag_at, value_at}
use Rattle.terms.specs.declared.atom.Atom.{Atom}
use Rattle.terms.specs.Atom.{private_kind, atom_at, atom_kind, IsKey, is_key?}
use Rattle.terms.specs.Decisions.{dec_map, dec_not, dec_and, dec_or}
use Rattle.terms.specs.Each.{EntryIs}

-- Where a variable of this sort may stand. "Secrets have no variables"; 5, a marked variable, is for good patterns, and for
-- bad ones (02, No. 2). "Tag 6 is allowed where tag 4 is, tag 7 where tag 5 is" (02, No. 3).
unfoldable pub MayStand : Sort → ℕ → Type 0
MayStand (sort plain r) kind = kind ≡ secret_kind → ⊥
MayStand (sort marked r) kind = (kind ≡ good_kind) ⊎ (kind ≡ bad_kind)

-- The number that goes with what is put around a term: "encryption (a key's number)"; "a hash (value 0)", "a signature (value a
-- private key's number)" (02, No. 7).
unfoldable pub NumberRight : List Atom → Wrapping → ℕ → Type 0
NumberRight atoms encryption n = IsKey atoms n
NumberRight atoms hash n = n ≡ 0
NumberRight atoms signature n = atom_kind atoms n ≡ private_kind

-- Tags: 1 atom (its number); 2 pair (0); 3 encryption (a key's number); 4 plain variable (0 to 7); 5 marked variable
-- (0 to 7, good and bad only); 6 plain nonce variable, 7 marked one (0 to 7; 02, No. 3); 8 hash (0), 9 signature (a private
-- key's number), "wherever a pair may" stand (02, No. 7). Secrets have no variables. Kinds: 2 secret, 3 good, 4 bad, 5 rule.
pub data TagRight (atoms : List Atom) (kind tag value : ℕ) : Type 0 where
  atom_entry : tag ≡ atom_tag → value < length atoms → TagRight atoms kind tag value
  pair_entry : tag ≡ pair_tag → value ≡ 0 → TagRight atoms kind tag value
  wrapping_entry : (w : Wrapping) → tag ≡ wrapping_tag w → NumberRight atoms w value → TagRight atoms kind tag value
  variable_entry : (s : Sort) → tag ≡ sort_tag s → value < variables → MayStand s kind → TagRight atoms kind tag value

-- Number 7: the entry is right in a block of this kind; its second byte is zero.
pub record EntryRight (atoms : List Atom) (kind tag zero_byte value : ℕ) : Type 0 where
  pub blank : zero_byte ≡ 0
  pub tagged : TagRight atoms kind tag value

-- The same, decided by the tag.
unfoldable pub may_stand? : (s : Sort) (kind : ℕ) → Dec (MayStand s kind)
unfolding MayStand ℕ_discrete dec_not dec_or
may_stand? (sort plain r) kind = dec_not (ℕ_discrete kind secret_kind)
may_stand? (sort marked r) kind = dec_or (ℕ_discrete kind good_kind) (λ n. ℕ_discrete kind bad_kind)

unfoldable pub number_right? : (atoms : List Atom) (w : Wrapping) (n : ℕ) → Dec (NumberRight atoms w n)
unfolding NumberRight ℕ_discrete is_key? atom_at
number_right? atoms encryption n = is_key? atoms n
number_right? atoms hash n = ℕ_discrete n 0
number_right? atoms signature n = ℕ_discrete (atom_kind atoms n) private_kind

module _ (atoms : List Atom) (kind value : ℕ) where
  -- What an entry of this tag has to have.
  abbrev pub AskedBy : {tag : ℕ} → Tagged tag → Type 0
  AskedBy (an_atom e) = value < length atoms
  AskedBy (a_pair e) = value ≡ 0
  AskedBy (a_wrapping w e) = NumberRight atoms w value
  AskedBy (a_variable s e) = (value < variables) × MayStand s kind
  AskedBy (no_tag e) = ⊥

  unfoldable pub Asked : ℕ → Type 0
  unfolding tagged
  Asked tag = AskedBy (tagged tag)

  pub asked : {tag : ℕ} → TagRight atoms kind tag value → Asked tag
  unfolding Asked
  asked (atom_entry t l) = rw t l
  asked (pair_entry t z) = rw t z
  asked (wrapping_entry w t k) = rw (t, wrapping-tagged w) k
  asked (variable_entry s t l k) = rw (t, sort-tagged s) (l, k)

  pub tag_right : (tag : ℕ) → Asked tag → TagRight atoms kind tag value
  unfolding Asked
  tag_right tag a = go (tagged tag) a
    where
      go : (w : Tagged tag) → AskedBy w → TagRight atoms kind tag value
      go (an_atom e) a = atom_entry e a
      go (a_pair e) a = pair_entry e a
      go (a_wrapping w e) a = wrapping_entry w e a
      go (a_variable s e) a = variable_entry s e a.0 a.1
      go (no_tag e) a = absurd a

  asked? : (tag : ℕ) → Dec (Asked tag)
  unfolding Asked ℕ_discrete dec_lt number_right? dec_and may_stand?
  asked? tag = go (tagged tag)
    where
      go : (w : Tagged tag) → Dec (AskedBy w)
      go (an_atom e) = dec_lt value (length atoms)
      go (a_pair e) = ℕ_discrete value 0
      go (a_wrapping w e) = number_right? atoms w value
      go (a_variable s e) = dec_and (dec_lt value variables) (λ l. may_stand? s kind)
      go (no_tag e) = no (λ h. h)

-- Is the entry right?
unfoldable pub entry_right? : (atoms : List Atom) (kind tag zero_byte value : ℕ) → Dec (EntryRight atoms kind tag zero_byte value)
unfolding asked? ℕ_discrete dec_map dec_and
entry_right? atoms kind tag zero_byte value = dec_map
    (λ h. record { blank = h.0; tagged = tag_right atoms kind value tag h.1 }) (λ r. (r.blank, asked atoms kind value r.tagged))
    (dec_and (ℕ_discrete zero_byte 0) (λ z. asked? atoms kind value tag))

-- Is entry n right?
abbrev pub right_at? : (atoms : List Atom) (kind : ℕ) (e : List ℕ) (n : ℕ) → Dec (EntryIs (EntryRight atoms kind) e n)
right_at? atoms kind e n = entry_right? atoms kind (tag_at (drop (4 * n) e)) (get_or (drop (4 * n) e) 1 0) (value_at (drop (4 * n) e))

-- The first entry that is not right.
unfoldable pub wrong_entry : List Atom → ℕ → List ℕ → Found
unfolding first_not entry_right?
wrong_entry atoms kind e = first_not (right_at? atoms kind e) (length e / 4)
