-- Laws of exactly one term: what is known of a block's term after numbers 7 and 8.
use mathlib.Core.Path.{◌≡◌, refl, sym, ap, ◌∙◌, ap₂}
use mathlib.Core.List.{List, [], ◌∷◌, ◌++◌, append_assoc, append-nil}
use mathlib.Core.Option.{some}
use mathlib.Core.Bool.{Bool, true, false}
use mathlib.Core.Logic.{inl, inr, ◌↔◌}
use Prim.Native.Nat.{ℕ, ◌+◌, ◌*◌, ◌/◌, ◌%◌, ◌<◌}
use native.Mathlib.Omega.{arith}
use lib.ListN.{get_or, length, length-append}
use lib.Dec.{ltb, eqb}
use borrow.Author.Tests.{lt-ltb, ltb-true}
use Rattle.blocks.specs.Kinds.{secret_kind}
use Rattle.std.specs.Prelude.{None}
use Rattle.terms.specs.Term.{Term, variable, atom, pair, encrypted, Message, Sort, sort, plain, marked, Variable, named, replace, as_term, wrapped, Wrapping, encryption}
use Rattle.terms.specs.declared.atom.Atom.{Atom}
use Rattle.terms.specs.Tag.{encryption_tag, wrapping_tag, variables, wrapping-tagged, sort-tagged}
use Rattle.terms.specs.Entry.{Symbol, atom_symbol, pair_symbol, wrapper_symbol, variable_symbol, tag_of, value_of, entry_of, term_entries, size, numbered}
use Rattle.terms.specs.Entry.{symbol_of, with_zero, terms_of, term_of, Reads, Begins, tag_at, value_at}
use Rattle.terms.specs.Each.{Each, none_left, one_more}
use Rattle.terms.specs.TermEntry.{NumberRight, MayStand, TagRight, atom_entry, pair_entry, wrapping_entry, variable_entry, EntryRight, Asked, asked, right_at?}
use Rattle.terms.specs.TermEntry.{wrong_entry}
use Rattle.terms.specs.OneTerm.{Numbered, OneTerm, HasSymbol, IsEncryption}
use Rattle.terms.specs.Decisions.{Says, says_same}
use Rattle.terms.specs.Reading.{First, first_atom, first_pair, first_wrapped, first_variable, none≢some, first, never-empty, entries_all, AllOf}
use Rattle.terms.specs.Reading.{read-entries, one-reads}
use Rattle.terms.proofs.AnswerLaws.{says_eq}
use Rattle.terms.proofs.EntryLaws.{reads-encrypted, term_of-reads, begins, wrapped-first}
use Rattle.terms.proofs.EachLaws.{each_of, each_map}
use Rattle.terms.proofs.FirstLaws.{first_none}

-- Bytes that are read as one term are exactly one term.
pub reads-one : {e : List ℕ} {t : Term Variable} → Reads e (t ∷ []) → ((i : ℕ) → get_or e i 0 < 256) → OneTerm e
unfolding AllOf entries_all
reads-one {e} {t} r all =
    let w = read-entries e (t ∷ []) r in record { term = t; numbers = w.numbers.0; is = w.same all ∙ append-nil (term_entries t) }

-- Nothing found: each entry is right.
pub right-each : (atoms : List Atom) (kind : ℕ) (e : List ℕ) → length e % 4 ≡ 0
    → wrong_entry atoms kind e ≡ None → Each (EntryRight atoms kind) e
unfolding wrong_entry
right-each atoms kind e whole nothing = each_of e whole (first_none (right_at? atoms kind e) nothing)

-- A right entry has a symbol.
pub entry-symbol : {atoms : List Atom} {kind tag zero_byte value : ℕ} → EntryRight atoms kind tag zero_byte value → HasSymbol tag zero_byte value
unfolding with_zero symbol_of
entry-symbol {atoms} {kind} {tag} {zero_byte} {value} w = go w.tagged
  where
    go : TagRight atoms kind tag value → HasSymbol tag zero_byte value
    go (atom_entry t l) = record { symbol = atom_symbol value; is = rw (w.blank, t) }
    go (pair_entry t z) = record { symbol = pair_symbol; is = rw (w.blank, t, z) }
    go (wrapping_entry wr t k) = record { symbol = wrapper_symbol wr value; is = rw (w.blank, t, wrapping-tagged wr) }
    go (variable_entry s t l k) = record { symbol = variable_symbol (named s value); is = rw (w.blank, t, sort-tagged s, lt-ltb value variables l) }

pub right-symbols : {atoms : List Atom} {kind : ℕ} {e : List ℕ} → Each (EntryRight atoms kind) e → Each HasSymbol e
right-symbols each = each_map (λ t z v. entry-symbol) each

-- Exactly one term begins the entries, and nothing follows.
pub one-begins : {e : List ℕ} → OneTerm e → Begins e
one-begins o = begins (one-reads o)

pub one-term_of : {e : List ℕ} (o : OneTerm e) → term_of e ≡ o.term
one-term_of o = term_of-reads (one-reads o)

pub one-alone : {e : List ℕ} → OneTerm e → terms_of e ≡ some (term_of e ∷ [])
one-alone o = (one-reads o).is ∙ ap (λ (t : Term Variable). some (t ∷ [])) (sym (one-term_of o))

-- Where each entry has a symbol, the entries of any term are exactly one term: its variables are 0 to 7.
each_first : {P : ℕ → ℕ → ℕ → Type 0} {a b c d : ℕ} {e : List ℕ} → Each P (a ∷ b ∷ c ∷ d ∷ e) → P a b (c + 256 * d) × Each P e
each_first (one_more p r) = (p, r)

small : (v : ℕ) (x : Variable) {s : Symbol} → numbered (ltb v variables) x ≡ some s → v < variables
small v x {s} e = go (ltb v variables) refl e
  where
    go : (b : Bool) → ltb v variables ≡ b → numbered b x ≡ some s → v < variables
    go true q r = ltb-true v variables q
    go false q r = absurd (none≢some _ r)

symbols-numbered : (t : Term Variable) {r : List ℕ} → Each HasSymbol (term_entries t ++ r) → Numbered t × Each HasSymbol r
unfolding Numbered term_entries entry_of tag_of value_of with_zero symbol_of
symbols-numbered (variable (named s x)) each =
    let f = each_first each in
    let low = small (x % 256 + 256 * (x / 256)) (named s _) (rw (sort-tagged s) at f.0.is) in (omega arith, f.1)
symbols-numbered (atom a) each = (tt, (each_first each).1)
symbols-numbered (pair t u) {r} each =
    let f = symbols-numbered t (rw (append_assoc (term_entries t) (term_entries u) r) at (each_first each).1) in
    let g = symbols-numbered u f.1 in ((f.0, g.0), g.1)
symbols-numbered (wrapped w k t) each = symbols-numbered t (each_first each).1

pub some_term : {e : List ℕ} → Each HasSymbol e → (t : Term Variable) → e ≡ term_entries t → OneTerm e
some_term {e} each t is =
    let same : e ≡ term_entries t ++ [] = is ∙ sym (append-nil (term_entries t)) in
    record { term = t; numbers = (symbols-numbered t (rw same at each)).0; is = is }

pub one-iff-entries : {e : List ℕ} → Each HasSymbol e → OneTerm e ↔ ((t : Term Variable) × (e ≡ term_entries t))
one-iff-entries each = (λ o. (o.term, o.is), λ w. some_term each w.0 w.1)

-- A term of a block of this kind: every atom number is below the number of atoms, the number that goes with anything around a
-- term is right, every variable is allowed here.
pub data TermRight (atoms : List Atom) (kind : ℕ) : Term Variable → Type 0 where
  atom_right : {a : ℕ} → a < length atoms → TermRight atoms kind (atom a)
  pair_right : {t u : Term Variable} → TermRight atoms kind t → TermRight atoms kind u → TermRight atoms kind (pair t u)
  wrapped_right : {w : Wrapping} {k : ℕ} {t : Term Variable} → NumberRight atoms w k → TermRight atoms kind t → TermRight atoms kind (wrapped w k t)
  variable_right : {s : Sort} {x : ℕ} → x < variables → MayStand s kind → TermRight atoms kind (variable (named s x))

-- Right entries are read as such terms.
right-terms : {atoms : List Atom} {kind : ℕ} {e : List ℕ} → Each (EntryRight atoms kind) e
    → (l : List (Term Variable)) → Reads e l → AllOf (TermRight atoms kind) l
unfolding terms_of AllOf Asked
right-terms none_left l r = let same : [] ≡ l = cc in rw (← same) tt
right-terms (one_more p each) [] r = absurd (never-empty _ _ r.is)
right-terms {atoms} {kind} (one_more {tag} {zero_byte} {low} {high} {rest} p each) (t ∷ l) r =
    go (t ∷ l) (first r) (asked atoms kind (low + 256 * high) p.tagged) (right-terms each)
  where
    go : (n : List (Term Variable)) → First tag (low + 256 * high) rest n → Asked atoms kind (low + 256 * high) tag
        → ((m : List (Term Variable)) → Reads rest m → AllOf (TermRight atoms kind) m) → AllOf (TermRight atoms kind) n
    go n (first_atom {m} g q k) a ih = rw q (atom_right (rw g at a), ih m k)
    go n (first_pair {t = u} {u = v} {m} g z q k) a ih = let w = ih (u ∷ v ∷ m) k in rw q (pair_right w.0 w.1.0, w.1.1)
    go n (first_wrapped {w = wr} {t = u} {m = m} i g q k) a ih =
        let w = ih (u ∷ m) k in rw q (wrapped_right (rw (i, wrapping-tagged wr) at a) w.0, w.1)
    go n (first_variable {s = s} {m = m} g v low q k) a ih = rw q (variable_right low (rw (g, sort-tagged s) at a).1, ih m k)

pub right-term : {atoms : List Atom} {kind : ℕ} {e : List ℕ} → Each (EntryRight atoms kind) e → OneTerm e → TermRight atoms kind (term_of e)
unfolding AllOf
right-term {e = e} each o = (right-terms each (term_of e ∷ []) (record { is = one-alone o })).0

-- Secrets have no variables: a secret is a message.
pub secret-bare : (s : Sort) {kind : ℕ} → kind ≡ secret_kind → ¬ MayStand s kind
unfolding MayStand
secret-bare (sort plain r) secret may = may secret
secret-bare (sort marked r) secret (inl good) = omega arith
secret-bare (sort marked r) secret (inr bad) = omega arith

pub secret-message : {atoms : List Atom} {kind : ℕ} {t : Term Variable} → kind ≡ secret_kind → TermRight atoms kind t → (m : Message) × (t ≡ as_term m)
unfolding as_term replace
secret-message s (atom_right {a} l) = (atom a, refl)
secret-message s (pair_right w v) = let a = secret-message s w in let b = secret-message s v in (pair a.0 b.0, ap₂ pair a.1 b.1)
secret-message s (wrapped_right {w = wr} {k = k} i w) = let a = secret-message s w in (wrapped wr k a.0, ap (wrapped wr k) a.1)
secret-message s (variable_right {s = σ} l k) = absurd (secret-bare σ s k)

-- Entries that are exactly one term have its size.
entries-length : (t : Term Variable) → length (term_entries t) ≡ 4 * size t
unfolding term_entries entry_of size
entries-length (variable x) = omega arith
entries-length (atom a) = omega arith
entries-length (pair t u) = omega (arith, length-append (term_entries t) (term_entries u), entries-length t, entries-length u)
entries-length (wrapped w k t) = omega (arith, entries-length t)

pub one-whole : {e : List ℕ} → OneTerm e → 4 * size (term_of e) ≡ length e
one-whole {e} o =
    let term : term_of e ≡ o.term = term_of-reads (one-reads o) in
    ap (λ (t : Term Variable). 4 * size t) term ∙ sym (entries-length o.term) ∙ ap length (sym o.is)

-- The root's tag.
pub says-encryption : {e : List ℕ} → Begins e → Says (eqb (tag_at e) encryption_tag) (IsEncryption (term_of e))
unfolding wrapping_tag
says-encryption {e} w = says_same (eqb (tag_at e) encryption_tag)
    (λ t. (let f = wrapped-first w encryption t in record { key = value_at e; content = f.content; is = term_of-reads f.whole }))
    (λ r. (let same : w.term ≡ encrypted r.key r.content = sym (term_of-reads w.reads) ∙ r.is in
    (reads-encrypted (rw same at w.reads)).0)) (says_eq (tag_at e) encryption_tag)
