-- Number 8, decided (`one_term?`), and what that needs: entries are read as terms, and terms written as entries again.
use Rattle.std.specs.Prelude.{◌≡◌, Bool, ltb, get_or, drop}
use Rattle.std.proofs.Math.Path.{refl}
use Rattle.std.proofs.Common.{ap, sym, ◌∙◌, arith, ltb-true, lt-ltb}
use Rattle.std.proofs.Math.Bool.{true, false}
use mathlib.Core.List.{List, [], ◌∷◌, ◌++◌, append_assoc, append-nil, nil≢cons}
use Rattle.std.proofs.Math.Option.{Option, none, some}
use Prim.Native.Nat.{ℕ, zero, suc, ◌+◌, ◌*◌, ◌<◌, ◌/◌, ◌%◌}
use Rattle.std.proofs.Math.Decide.{ℕ_discrete}
use Rattle.terms.specs.Term.{Term, variable, atom, pair, Sort, Variable, named, wrapped, Wrapping}
use Rattle.terms.specs.Tag.{atom_tag, pair_tag, encryption_tag, sort_tag, variables, Tagged, an_atom, a_pair, a_wrapping, a_variable, no_tag, wrapping_tag, wrapping-tag, wrapping-tagged}
use Rattle.terms.specs.Tag.{tagged, sort-range, sort-tagged}
use Rattle.terms.specs.Entry.{Symbol, atom_symbol, pair_symbol, wrapper_symbol, variable_symbol, tag_of, value_of, entry_of, term_entries, numbered, symbol_by}
use Rattle.terms.specs.Entry.{symbol_of, before, before_all, with_zero, terms_of, Reads, tag_at, value_at}
use Rattle.terms.specs.OneTerm.{Numbered, OneTerm}

-- The entry of this tag and value, before these entries, makes these terms.
pub data First (tag n : ℕ) (rest : List ℕ) (l : List (Term Variable)) : Type 0 where
  first_atom : {m : List (Term Variable)} → tag ≡ atom_tag → l ≡ atom n ∷ m → Reads rest m → First tag n rest l
  first_pair : {t u : Term Variable} {m : List (Term Variable)} → tag ≡ pair_tag → n ≡ 0 → l ≡ pair t u ∷ m → Reads rest (t ∷ u ∷ m) → First tag n rest l
  first_wrapped : {w : Wrapping} {t : Term Variable} {m : List (Term Variable)} → tag ≡ wrapping_tag w → pair_tag < tag → l ≡ wrapped w n t ∷ m
      → Reads rest (t ∷ m) → First tag n rest l
  first_variable : {s : Sort} {m : List (Term Variable)} → tag ≡ sort_tag s → encryption_tag < tag → n < variables → l ≡ variable (named s n) ∷ m
      → Reads rest m → First tag n rest l

pub none≢some : {A : Type 0} (x : A) → none ≡ some x → ⊥
none≢some x e = let z : ◌≡◌ {A = ℕ} 0 1 = cc in omega arith

module _ (rest : List ℕ) (l : List (Term Variable)) {tag : ℕ} where
  atom_case : tag ≡ atom_tag → (n : ℕ) (o : Option (List (Term Variable))) → terms_of rest ≡ o → before_all (some (atom_symbol n)) o ≡ some l → First tag n rest l
  unfolding before_all before
  atom_case g n none q r = absurd (none≢some _ r)
  atom_case g n (some m) q r = first_atom {m = m} g (cc) (record { is = q })

  pair_case : tag ≡ pair_tag → (o : Option (List (Term Variable))) → terms_of rest ≡ o → before_all (some pair_symbol) o ≡ some l → First tag 0 rest l
  unfolding before_all before
  pair_case g none q r = absurd (none≢some _ r)
  pair_case g (some []) q r = absurd (none≢some _ r)
  pair_case g (some (t ∷ [])) q r = absurd (none≢some _ r)
  pair_case g (some (t ∷ u ∷ m)) q r = first_pair {t = t} {u = u} {m = m} g refl (cc) (record { is = q })

  wrapped_case : (w : Wrapping) → tag ≡ wrapping_tag w → (n : ℕ) (o : Option (List (Term Variable))) → terms_of rest ≡ o
      → before_all (some (wrapper_symbol w n)) o ≡ some l → First tag n rest l
  unfolding before_all before
  wrapped_case w g n none q r = absurd (none≢some _ r)
  wrapped_case w g n (some []) q r = absurd (none≢some _ r)
  wrapped_case w g n (some (t ∷ m)) q r = first_wrapped {w = w} {t = t} {m = m} g (wrapping-tag w g) (cc) (record { is = q })

  variable_case : (s : Sort) → tag ≡ sort_tag s → (n : ℕ) (b : Bool) (o : Option (List (Term Variable))) → terms_of rest ≡ o → ltb n variables ≡ b
      → before_all (numbered b (named s n)) o ≡ some l → First tag n rest l
  unfolding before_all before
  variable_case s g n false o q b r = absurd (none≢some _ r)
  variable_case s g n true none q b r = absurd (none≢some _ r)
  variable_case s g n true (some m) q b r = first_variable {s = s} {m = m} g (sort-range s g).0 (ltb-true n variables b) (cc) (record { is = q })

  from_symbol : (n : ℕ) → before_all (symbol_of tag n) (terms_of rest) ≡ some l → First tag n rest l
  unfolding symbol_of before_all
  from_symbol n r = go (tagged tag) n r
    where
      go : (w : Tagged tag) (n : ℕ) → before_all (symbol_by w n) (terms_of rest) ≡ some l → First tag n rest l
      go (an_atom e) n r = atom_case e n (terms_of rest) refl r
      go (a_pair e) zero r = pair_case e (terms_of rest) refl r
      go (a_pair e) (suc n) r = absurd (none≢some _ r)
      go (a_wrapping w e) n r = wrapped_case w e n (terms_of rest) refl r
      go (a_variable s e) n r = variable_case s e n (ltb n variables) (terms_of rest) refl refl r
      go (no_tag e) n r = absurd (none≢some _ r)

  from_entry : (z n : ℕ) → before_all (with_zero z (symbol_of tag n)) (terms_of rest) ≡ some l → First tag n rest l
  unfolding with_zero before_all
  from_entry zero n r = from_symbol n r
  from_entry (suc z) n r = absurd (none≢some _ r)

pub nothing_read : {A : Type 0} {t : Term Variable} {l : List (Term Variable)} → some [] ≡ some (t ∷ l) → A
nothing_read r = let z : ◌≡◌ {A = ℕ} 0 1 = cc in absurd (omega arith)

-- Entries that begin with a term have a first entry, and what is left after it are terms again.
pub first : {e : List ℕ} {t : Term Variable} {l : List (Term Variable)} → Reads e (t ∷ l) → First (tag_at e) (value_at e) (drop 4 e) (t ∷ l)
unfolding terms_of
first {e} {t} {l} r = go e r.is
  where
    go : (e : List ℕ) → terms_of e ≡ some (t ∷ l) → First (tag_at e) (value_at e) (drop 4 e) (t ∷ l)
    go [] r = nothing_read r
    go (a ∷ []) r = absurd (none≢some _ r)
    go (a ∷ b ∷ []) r = absurd (none≢some _ r)
    go (a ∷ b ∷ c ∷ []) r = absurd (none≢some _ r)
    go (a ∷ b ∷ c ∷ d ∷ e) r = from_entry e (t ∷ l) b (c + 256 * d) r

-- The second byte of an entry is zero.
pub entry_zero : {r : List (Term Variable)} (z : ℕ) (s : Option Symbol) (o : Option (List (Term Variable))) → before_all (with_zero z s) o ≡ some r → z ≡ 0
unfolding with_zero before_all
entry_zero zero s o r = refl
entry_zero (suc z) s o r = absurd (none≢some _ r)

-- An entry makes at least one term.
pub never-empty : (s : Option Symbol) (o : Option (List (Term Variable))) → before_all s o ≡ some [] → ⊥
unfolding before_all before
never-empty none o r = none≢some _ r
never-empty (some s) none r = none≢some _ r
never-empty (some (atom_symbol a)) (some l) r = let z : ◌≡◌ {A = ℕ} 0 1 = cc in omega arith
never-empty (some (variable_symbol x)) (some l) r = let z : ◌≡◌ {A = ℕ} 0 1 = cc in omega arith
never-empty (some pair_symbol) (some []) r = none≢some _ r
never-empty (some pair_symbol) (some (t ∷ [])) r = none≢some _ r
never-empty (some pair_symbol) (some (t ∷ u ∷ l)) r = let z : ◌≡◌ {A = ℕ} 0 1 = cc in omega arith
never-empty (some (wrapper_symbol w k)) (some []) r = none≢some _ r
never-empty (some (wrapper_symbol w k)) (some (t ∷ l)) r = let z : ◌≡◌ {A = ℕ} 0 1 = cc in omega arith

-- A term's entries are read as the term, whatever follows.
pub entries-read : (t : Term Variable) → Numbered t → {r : List ℕ} {l : List (Term Variable)} → Reads r l → Reads (term_entries t ++ r) (t ∷ l)
unfolding Numbered term_entries entry_of tag_of value_of terms_of with_zero symbol_of before_all before
entries-read (variable (named s x)) n {r} {l} q =
    let value : x % 256 + 256 * (x / 256) ≡ x = omega arith in record { is = rw (value, sort-tagged s, lt-ltb x variables n, q.is) }
entries-read (atom a) n {r} {l} q = let value : a % 256 + 256 * (a / 256) ≡ a = omega arith in record { is = rw (q.is, value) }
entries-read (pair t u) n {r} {l} q =
    let halves = entries-read t n.0 (entries-read u n.1 q) in
    record { is = ap (before_all (some pair_symbol)) (ap terms_of (append_assoc (term_entries t) (term_entries u) r) ∙ halves.is) }
entries-read (wrapped w k t) n {r} {l} q =
    let value : k % 256 + 256 * (k / 256) ≡ k = omega arith in
    let below = entries-read t n q in record { is = rw (below.is, value, wrapping-tagged w) }

-- The entries of terms, one after the other.
unfoldable pub entries_all : List (Term Variable) → List ℕ
entries_all [] = []
entries_all (t ∷ l) = term_entries t ++ entries_all l

-- Q holds of each of the terms.
unfoldable pub AllOf : (Term Variable → Type 0) → List (Term Variable) → Type 0
AllOf Q [] = Unit {0}
AllOf Q (t ∷ l) = Q t × AllOf Q l

-- The bytes of an entry, from its value.
entry-bytes : {a b c d tag n : ℕ} {e f : List ℕ} → a ≡ tag → b ≡ 0 → c + 256 * d ≡ n → c < 256 → e ≡ f
    → a ∷ b ∷ c ∷ d ∷ e ≡ tag ∷ 0 ∷ n % 256 ∷ n / 256 ∷ f
entry-bytes {a} {b} {c} {d} {tag} {n} {e} {f} t z v low same =
    let l : c ≡ n % 256 = omega arith in let h : d ≡ n / 256 = omega arith in cc

-- Bytes that are read as terms are the entries of these.
pub record Written (e : List ℕ) (l : List (Term Variable)) : Type 0 where
  pub numbers : AllOf Numbered l
  pub same : ((i : ℕ) → get_or e i 0 < 256) → e ≡ entries_all l

pub read-entries : (e : List ℕ) (l : List (Term Variable)) → Reads e l → Written e l
unfolding terms_of AllOf entries_all term_entries entry_of tag_of value_of Numbered
read-entries [] l r = let same : [] ≡ l = cc in rw (← same) (record { numbers = tt; same = λ all. refl })
read-entries (a ∷ []) l r = absurd (none≢some _ r.is)
read-entries (a ∷ b ∷ []) l r = absurd (none≢some _ r.is)
read-entries (a ∷ b ∷ c ∷ []) l r = absurd (none≢some _ r.is)
read-entries (a ∷ b ∷ c ∷ d ∷ e) [] r = absurd (never-empty _ _ r.is)
read-entries (a ∷ b ∷ c ∷ d ∷ e) (t ∷ l) r = go (first r) (entry_zero b _ _ r.is) (λ m q. read-entries e m q)
  where
    later : ((i : ℕ) → get_or (a ∷ b ∷ c ∷ d ∷ e) i 0 < 256) → (i : ℕ) → get_or e i 0 < 256
    later all i = all (suc (suc (suc (suc i))))

    go : First a (c + 256 * d) e (t ∷ l) → b ≡ 0
        → ((m : List (Term Variable)) → Reads e m → Written e m) → Written (a ∷ b ∷ c ∷ d ∷ e) (t ∷ l)
    go (first_atom {m} g q k) z ih = let w = ih m k in
        rw q (record { numbers = (tt, w.numbers); same = λ all. entry-bytes g z refl (all 2) (w.same (later all)) })
    go (first_pair {t = u} {u = v} {m} g n q k) z ih = let w = ih (u ∷ v ∷ m) k in
        rw q (record {
          numbers = ((w.numbers.0, w.numbers.1.0), w.numbers.1.1);
          same = λ all. rw (append_assoc (term_entries u) (term_entries v) (entries_all m)) (entry-bytes g z n (all 2) (w.same (later all)));
        })
    go (first_wrapped {t = u} {m} i g q k) z ih = let w = ih (u ∷ m) k in
        rw q (record { numbers = w.numbers; same = λ all. entry-bytes i z refl (all 2) (w.same (later all)) })
    go (first_variable {m = m} g v n q k) z ih = let w = ih m k in
        rw q (record { numbers = (n, w.numbers); same = λ all. entry-bytes g z refl (all 2) (w.same (later all)) })

-- Exactly one term is read as that term, and the other way round for bytes.
pub one-reads : {e : List ℕ} (o : OneTerm e) → Reads e (o.term ∷ [])
unfolding terms_of
one-reads {e} o =
    let r = entries-read o.term o.numbers {r = []} {l = []} (record { is = refl }) in
    let same : term_entries o.term ++ [] ≡ e = append-nil (term_entries o.term) ∙ sym o.is in rw same at r

-- Are two lists of bytes the same?
same? : (l m : List ℕ) → Dec (l ≡ m)
unfolding ℕ_discrete
same? [] [] = yes refl
same? [] (b ∷ m) = no nil≢cons
same? (a ∷ l) [] = no (λ e. nil≢cons (sym e))
same? (a ∷ l) (b ∷ m) = elim (ℕ_discrete a b) [
  | no n ↦ no (λ e. n (cc))
  | yes p ↦ elim (same? l m) [ no n ↦ no (λ e. n (cc)) | yes q ↦ yes (cc) ]
]

-- Are the entries exactly one term?
one_of : (e : List ℕ) (o : Option (List (Term Variable))) → terms_of e ≡ o → Dec (OneTerm e)
unfolding same? term_entries entry_of tag_of value_of AllOf
one_of e none q = no (λ w. none≢some _ (sym q ∙ (one-reads w).is))
one_of e (some []) q = no (λ w. (let r = (one-reads w).is in let z : ◌≡◌ {A = ℕ} 0 1 = cc in omega arith))
one_of e (some (t ∷ u ∷ l)) q = no (λ w. (let r = (one-reads w).is in let z : ◌≡◌ {A = ℕ} 0 1 = cc in omega arith))
one_of e (some (t ∷ [])) q = elim (same? e (term_entries t)) [
  | yes p ↦ yes (record { term = t; numbers = (read-entries e (t ∷ []) (record { is = q })).numbers.0; is = p })
  | no n ↦ no (λ w. n (let r = (one-reads w).is in let same : w.term ≡ t = cc in w.is ∙ ap term_entries same))
]

unfoldable pub one_term? : (e : List ℕ) → Dec (OneTerm e)
unfolding one_of terms_of before_all before with_zero symbol_of
one_term? e = one_of e (terms_of e) refl
