-- Laws of the tables: an entry is right (number 7) if and only if the tables say so.
use mathlib.Core.Path.{◌≡◌, refl, sym, ap}
use mathlib.Core.Bool.{Bool, true, false}
use mathlib.Core.List.{List}
use mathlib.Core.Logic.{◌↔◌, ◌⊎◌, inl, inr}
use Prim.Native.Nat.{ℕ, ◌*◌, ◌≤◌, ◌<◌}
use native.Mathlib.Decide.{ℕ_discrete}
use native.Mathlib.Omega.{arith}
use lib.Dec.{ltb}
use lib.ListN.{length, get_or, drop, get_or-eq_default}
use borrow.Author.Tests.{ltb-true, lt-ltb, le-ltb, eq-eqb, ne_eqb}
use borrow.Author.Rules.{part_to_end}
use Rattle.blocks.specs.Kinds.{secret_kind, good_kind, bad_kind}
use Rattle.terms.specs.Term.{Sort, sort, plain, marked, Range, any_message, one_nonce, Wrapping, encryption, hash, signature}
use Rattle.terms.specs.declared.atom.Atom.{Atom}
use Rattle.terms.specs.Atom.{public_kind, private_kind, atom_at, atom_kind, IsKey, key-kind, kind-key}
use Rattle.terms.specs.Tag.{atom_tag, encryption_tag, signature_tag, sort_tag, wrapping_tag, variables, Tagged, an_atom, a_pair, a_wrapping, a_variable, no_tag, tagged}
use Rattle.terms.specs.Entry.{tag_at, value_at, from}
use Rattle.terms.specs.Each.{EntryIs}
use Rattle.terms.specs.TermEntry.{NumberRight, MayStand, EntryRight, AskedBy, Asked, asked, tag_right}
use Rattle.terms.specs.Decisions.{pick}
use Rattle.terms.specs.EntryTables.{listed_kind, plain_limit, marked_limit, limits_of, ByLimits}
use Rattle.terms.proofs.AtomLaws.{kind-listed, key-listed}

-- The kind of an atom, by its entry.
module _ (atoms : List Atom) (n : ℕ) {a : Atom} (is : a ≡ atom_at atoms n) where
  by-entry : listed_kind atoms n ≡ pick (ltb a.kind 6) a.kind 0
  unfolding listed_kind
  by-entry = ap (λ (x : Atom). pick (ltb x.kind 6) x.kind 0) (sym is)

  pub kind-low : a.kind < 6 → a.kind ≡ listed_kind atoms n
  kind-low low = rw (by-entry, lt-ltb a.kind 6 low)

  pub kind-high : 6 ≤ a.kind → 0 ≡ listed_kind atoms n
  kind-high high = rw (by-entry, le-ltb a.kind 6 high)

-- How many variables, by the kind of the block.
module _ {kind : ℕ} where
  pub plain-secret : kind ≡ secret_kind → 0 ≡ plain_limit kind
  unfolding plain_limit
  plain-secret e = rw (eq-eqb kind secret_kind e)

  pub plain_other : (kind ≡ secret_kind → ⊥) → variables ≡ plain_limit kind
  unfolding plain_limit
  plain_other e = rw (ne_eqb kind secret_kind e)

  pub marked-some : (kind ≡ good_kind) ⊎ (kind ≡ bad_kind) → variables ≡ marked_limit kind
  unfolding marked_limit
  marked-some (inl e) = rw (eq-eqb kind good_kind e)
  marked-some (inr e) = let off : ¬ (kind ≡ good_kind) = omega arith in rw (ne_eqb kind good_kind off, eq-eqb kind bad_kind e)

  pub marked_other : (kind ≡ good_kind → ⊥) → (kind ≡ bad_kind → ⊥) → 0 ≡ marked_limit kind
  unfolding marked_limit
  marked_other e f = rw (ne_eqb kind good_kind e, ne_eqb kind bad_kind f)

-- What the tables ask of an entry is what number 7 asks, tag by tag.
module _ (atoms : List Atom) (kind value : ℕ) where
  kind-key-listed : public_kind ≤ listed_kind atoms value → IsKey atoms value
  unfolding listed_kind
  kind-key-listed = go (ltb (atom_kind atoms value) 6) refl
    where
      go : (t : Bool) → ltb (atom_kind atoms value) 6 ≡ t → public_kind ≤ pick t (atom_kind atoms value) 0 → IsKey atoms value
      go true e h = let l = ltb-true (atom_kind atoms value) 6 e in kind-key h (omega arith)
      go false e h = absurd (omega arith)

  key-kind-listed : IsKey atoms value → public_kind ≤ listed_kind atoms value
  unfolding listed_kind
  key-kind-listed k = let b = key-kind k in rw (lt-ltb (atom_kind atoms value) 6 (omega arith)) b.0

  -- A private key, by its kind among those listed.
  listed-private : listed_kind atoms value ≡ private_kind → atom_kind atoms value ≡ private_kind
  unfolding listed_kind
  listed-private = go (ltb (atom_kind atoms value) 6) refl
    where
      go : (t : Bool) → ltb (atom_kind atoms value) 6 ≡ t → pick t (atom_kind atoms value) 0 ≡ private_kind → atom_kind atoms value ≡ private_kind
      go true e is = is
      go false e is = absurd (omega arith)

  private-listed : atom_kind atoms value ≡ private_kind → listed_kind atoms value ≡ private_kind
  unfolding listed_kind
  private-listed is = rw (lt-ltb (atom_kind atoms value) 6 (omega arith)) is

  -- What the tables ask of an entry of this tag.
  record Within (tag : ℕ) : Type 0 where
    below : value < get_or (limits_of kind (length atoms)) tag 0
    key : tag ≡ encryption_tag → public_kind ≤ listed_kind atoms value
    signer : tag ≡ signature_tag → listed_kind atoms value ≡ private_kind

  within-asked : (tag : ℕ) → Within tag → Asked atoms kind value tag
  unfolding Asked limits_of sort_tag wrapping_tag MayStand NumberRight
  within-asked tag within = go (tagged tag)
    where
      unmarked : (r : Range) → value < plain_limit kind → (value < variables) × MayStand (sort plain r) kind
      unmarked r below = elim (ℕ_discrete kind secret_kind) [
        | yes e ↦ absurd (omega (arith, plain-secret e))
        | no off ↦ (omega (arith, plain_other off), off)
      ]

      with-mark : (r : Range) → value < marked_limit kind → (value < variables) × MayStand (sort marked r) kind
      with-mark r below = elim (ℕ_discrete kind good_kind) [
        | yes e ↦ (omega (arith, marked-some (inl e)), inl e)
        | no not-Good ↦ elim (ℕ_discrete kind bad_kind) [
          | yes e ↦ (omega (arith, marked-some (inr e)), inr e)
          | no off ↦ absurd (omega (arith, marked_other not-Good off))
        ]
      ]

      sorted : (s : Sort) → value < get_or (limits_of kind (length atoms)) (sort_tag s) 0 → (value < variables) × MayStand s kind
      sorted (sort plain any_message) below = unmarked any_message below
      sorted (sort marked any_message) below = with-mark any_message below
      sorted (sort plain one_nonce) below = unmarked one_nonce below
      sorted (sort marked one_nonce) below = with-mark one_nonce below

      number : (w : Wrapping) → Within (wrapping_tag w) → NumberRight atoms w value
      number encryption h = kind-key-listed (h.key refl)
      number hash h = omega (arith, h.below)
      number signature h = listed-private (h.signer refl)

      past : {n : ℕ} (l : List ℕ) → length l ≡ 10 → signature_tag < n → get_or l n 0 ≡ 0
      past l long far = get_or-eq_default l 0 (omega arith)

      none : (n : ℕ) → (n < atom_tag) ⊎ (signature_tag < n) → value < get_or (limits_of kind (length atoms)) n 0 → ⊥
      none n (inl low) below = let z : n ≡ 0 = omega arith in let h = rw z at below in omega arith
      none n (inr far) below = let z = past (limits_of kind (length atoms)) refl far in omega arith

      go : (w : Tagged tag) → AskedBy atoms kind value w
      go (an_atom e) = rw e at within.below
      go (a_pair e) = let h = rw e at within.below in omega arith
      go (a_wrapping w e) = number w (rw e at within)
      go (a_variable s e) = sorted s (rw e at within.below)
      go (no_tag e) = absurd (none tag e within.below)

  asked-within : (tag : ℕ) → Asked atoms kind value tag → Within tag
  unfolding Asked limits_of sort_tag wrapping_tag MayStand NumberRight
  asked-within tag a = go (tagged tag) a
    where
      unmarked : ¬ (kind ≡ secret_kind) → value < variables → value < plain_limit kind
      unmarked off low = omega (arith, plain_other off)

      with-mark : (kind ≡ good_kind) ⊎ (kind ≡ bad_kind) → value < variables → value < marked_limit kind
      with-mark is low = omega (arith, marked-some is)

      sorted : (s : Sort) → value < variables → MayStand s kind → Within (sort_tag s)
      sorted (sort plain any_message) low off = record { below = unmarked off low; key = λ e. absurd (omega (arith, e)); signer = λ e. absurd (omega (arith, e)) }
      sorted (sort marked any_message) low may = record { below = with-mark may low; key = λ e. absurd (omega (arith, e)); signer = λ e. absurd (omega (arith, e)) }
      sorted (sort plain one_nonce) low off = record { below = unmarked off low; key = λ e. absurd (omega (arith, e)); signer = λ e. absurd (omega (arith, e)) }
      sorted (sort marked one_nonce) low may = record { below = with-mark may low; key = λ e. absurd (omega (arith, e)); signer = λ e. absurd (omega (arith, e)) }

      number : (w : Wrapping) → NumberRight atoms w value → Within (wrapping_tag w)
      number encryption is = record { below = key-listed is; key = λ e. key-kind-listed is; signer = λ e. absurd (omega (arith, e)) }
      number hash is = record { below = omega arith; key = λ e. absurd (omega (arith, e)); signer = λ e. absurd (omega (arith, e)) }
      number signature is = record { below = kind-listed atoms value (omega arith); key = λ e. absurd (omega (arith, e)); signer = λ e. private-listed is }

      go : (w : Tagged tag) → AskedBy atoms kind value w → Within tag
      go (an_atom e) a = rw e (record { below = a; key = λ e. absurd (omega (arith, e)); signer = λ e. absurd (omega (arith, e)) })
      go (a_pair e) a = rw e (record { below = omega arith; key = λ e. absurd (omega (arith, e)); signer = λ e. absurd (omega (arith, e)) })
      go (a_wrapping w e) a = rw e (number w a)
      go (a_variable s e) a = rw e (sorted s a.0 a.1)
      go (no_tag e) a = absurd a

-- The entry that stands first, and entry n: what is said by the tables is said by number 7.
module _ (atoms : List Atom) (kind : ℕ) {limits : List ℕ} (tables : limits ≡ limits_of kind (length atoms)) where
  abbrev Right : List ℕ → Type 0
  Right e = EntryRight atoms kind (tag_at e) (get_or e 1 0) (value_at e)

  within-right : (e : List ℕ) → ByLimits atoms limits e ↔ Right e
  within-right e = (to, back)
    where
      to : ByLimits atoms limits e → Right e
      to w = record {
        blank = w.blank;
        tagged = tag_right atoms kind (value_at e) (tag_at e)
            (within-asked atoms kind (value_at e) (tag_at e) (record { below = rw tables at w.below; key = w.key; signer = w.signer }));
      }

      back : Right e → ByLimits atoms limits e
      back w =
          let a = asked-within atoms kind (value_at e) (tag_at e) (asked atoms kind (value_at e) w.tagged) in
          record { blank = w.blank; below = rw tables a.below; key = a.key; signer = a.signer }

  pub limits-right : (e : List ℕ) (n : ℕ) → ByLimits atoms limits (from (4 * n) e) ↔ EntryIs (EntryRight atoms kind) e n
  limits-right e n = rw part_to_end (within-right (drop (4 * n) e))
