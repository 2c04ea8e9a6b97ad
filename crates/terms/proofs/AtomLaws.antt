-- Laws of atom entries: what the bytes of an entry say, which entries are right (number 6), and keys with their partners.
use mathlib.Core.Path.{◌≡◌, refl, ap, ◌∙◌, sym}
use mathlib.Core.List.{List, [], ◌∷◌}
use Prim.Native.Nat.{ℕ, zero, suc, ◌+◌, ◌-◌, ◌*◌, ◌/◌, ◌≤◌, ◌<◌}
use native.Mathlib.Omega.{arith}
use native.Mathlib.Decide.{dec_lt}
use lib.ListN.{length, get_or, drop, length-append, get_or-append, get_or-eq_default}
use lib.Seq.{get_or-append-add}
use lib.Dec.{eqb}
use borrow.Author.Rules.{part_to_end}
use Rattle.terms.specs.declared.atom.Atom.{Atom}
use Rattle.terms.specs.Atom.{atoms_of, joined_atoms, atom_at, atom_kind, known_of, partner_of, IsKey}
use Rattle.terms.specs.Atom.{key-kind, NamedBack}
use Rattle.terms.specs.Entry.{tag_at, value_at, from}
use Rattle.terms.specs.Decisions.{Says, says_same}
use Rattle.terms.proofs.AnswerLaws.{says_eq}

-- Beyond the list an entry is all zero.
away : (atoms : List Atom) (n : ℕ) → length atoms ≤ n → atom_at atoms n ≡ record { kind = 0; known = 0; partner = 0 }
unfolding atom_at
away atoms n far = get_or-eq_default atoms _ far

-- What has a kind, or is known, is listed.
module _ (atoms : List Atom) (n : ℕ) where
  pub kind-listed : 0 < atom_kind atoms n → n < length atoms
  kind-listed some-kind = elim (dec_lt n (length atoms)) [
    | yes l ↦ l
    | no ge ↦ (let z = ap (λ (a : Atom). a.kind) (away atoms n (omega arith)) in absurd (omega arith))
  ]

  pub known-listed : 0 < known_of atoms n → n < length atoms
  known-listed some_Known = elim (dec_lt n (length atoms)) [
    | yes l ↦ l
    | no ge ↦ (let z = ap (λ (a : Atom). a.known) (away atoms n (omega arith)) in absurd (omega arith))
  ]

pub key-listed : {atoms : List Atom} {n : ℕ} → IsKey atoms n → n < length atoms
key-listed {atoms} {n} k = let b = key-kind k in kind-listed atoms n (omega arith)

-- What the bytes say of the entry of a number.
pub length-atoms : (b : List ℕ) → length (atoms_of b) ≡ length b / 4
unfolding atoms_of
length-atoms [] = refl
length-atoms (x ∷ []) = refl
length-atoms (x ∷ y ∷ []) = refl
length-atoms (x ∷ y ∷ z ∷ []) = refl
length-atoms (x ∷ y ∷ z ∷ w ∷ b) = let ih = length-atoms b in omega arith

atom-bytes : (b : List ℕ) (n : ℕ) → n < length b / 4
    → atom_at (atoms_of b) n ≡ record { kind = tag_at (drop (4 * n) b); known = get_or (drop (4 * n) b) 1 0; partner = value_at (drop (4 * n) b) }
unfolding atoms_of atom_at
atom-bytes [] n h = absurd (omega arith)
atom-bytes (x ∷ []) n h = absurd (omega arith)
atom-bytes (x ∷ y ∷ []) n h = absurd (omega arith)
atom-bytes (x ∷ y ∷ z ∷ []) n h = absurd (omega arith)
atom-bytes (x ∷ y ∷ z ∷ w ∷ b) zero h = refl
atom-bytes (x ∷ y ∷ z ∷ w ∷ b) (suc n) h =
    let far : 4 * suc n ≡ suc (suc (suc (suc (4 * n)))) = omega arith in
    rw far (atom-bytes b n (omega arith))

-- The atom of a number, by the bytes of its entry.
module _ (b : List ℕ) (n : ℕ) where
  pub atom-none : length b / 4 ≤ n → {a : Atom} → a.kind ≡ 0 → a.known ≡ 0 → a.partner ≡ 0 → a ≡ atom_at (atoms_of b) n
  atom-none far {a} kind known partner =
      let zero : ◌≡◌ {A = Atom} (record { kind = a.kind; known = a.known; partner = a.partner }) (record { kind = 0; known = 0; partner = 0 }) = rw (kind, known, partner) refl in
      zero ∙ sym (away (atoms_of b) n (omega (arith, length-atoms b)))

  pub atom-entry : n < length b / 4 → {p : ℕ} → p ≡ value_at (from (4 * n) b)
      → record { kind = get_or (from (4 * n) b) 0 0; known = get_or (from (4 * n) b) 1 0; partner = p } ≡ atom_at (atoms_of b) n
  atom-entry inside is = rw (is, part_to_end) (sym (atom-bytes b n inside))

-- The atoms of two blocks: how many there are, and which they are.
module _ (first second : List ℕ) where
  pub joined_length : length (joined_atoms first second) ≡ length first / 4 + length second / 4
  joined_length = length-append (atoms_of first) (atoms_of second) ∙ omega (arith, length-atoms first, length-atoms second)

  module _ (n : ℕ) where
    pub joined-first : n < length first / 4 → atom_at (atoms_of first) n ≡ atom_at (joined_atoms first second) n
    unfolding atom_at
    joined-first inside = sym (get_or-append (atoms_of first) (atoms_of second) _ n (omega (arith, length-atoms first)))

    pub joined-second : length first / 4 ≤ n → atom_at (atoms_of second) (n - length first / 4) ≡ atom_at (joined_atoms first second) n
    unfolding atom_at
    joined-second past =
        let here : length (atoms_of first) + (n - length first / 4) ≡ n = omega (arith, length-atoms first) in
        rw here at (sym (get_or-append-add (atoms_of first) (atoms_of second) (n - length first / 4) (record { kind = 0; known = 0; partner = 0 })))

-- A key and its partner name each other: q is the partner's entry.
module _ (atoms : List Atom) (n other : ℕ) {a q : Atom} (is : a ≡ atom_at atoms n) (partner : q ≡ atom_at atoms a.partner) where
  same-partner : q ≡ atom_at atoms (partner_of atoms n)
  same-partner = partner ∙ ap (λ (x : Atom). atom_at atoms x.partner) is

  pub back-named : 0 < other → q.kind ≡ other → Says (eqb q.partner n) (NamedBack atoms n other)
  back-named some-kind kind = says_same (eqb q.partner n)
      (λ e. record { there = kind-listed atoms (partner_of atoms n) (omega (arith, there)); kind = there; back = sym (ap (λ (x : Atom). x.partner) same-partner) ∙ e })
      (λ w. ap (λ (x : Atom). x.partner) same-partner ∙ w.back) (says_eq q.partner n)
    where
      there : atom_kind atoms (partner_of atoms n) ≡ other
      there = sym (ap (λ (x : Atom). x.kind) same-partner) ∙ kind
