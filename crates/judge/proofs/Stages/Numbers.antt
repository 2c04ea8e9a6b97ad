-- Laws of numbers 9, 10 and 11: what the entries of a secret or of a good pattern say, and what is answered of a block.
-- Assumes nothing.
use mathlib.Core.Path.{◌≡◌, refl, sym, ap, subst, ◌∙◌}
use mathlib.Core.Bool.{Bool, true, false, not}
use mathlib.Core.Logic.{◌⊎◌, inl, inr}
use mathlib.Core.List.{List, [], ◌∷◌}
use Prim.Native.Nat.{ℕ, ◌+◌, ◌*◌, ◌/◌, ◌%◌, ◌≤◌}
use native.Mathlib.Omega.{arith}
use lib.Dec.{eqb}
use lib.ListN.{drop, get_or}
use Rattle.std.specs.Int.{to_le_bytes, w16}
use Rattle.blocks.specs.Block.{block_at}
use Rattle.terms.specs.Term.{Term, Message, Variable, variable, atom, pair, replace, as_term, wrapped, Wrapping, encryption, hash, signature}
use Rattle.terms.specs.Tag.{atom_tag, pair_tag, hash_tag, wrapping_tag, WrapperTag}
use Rattle.terms.specs.Entry.{Begins, Reads, terms_of, term_of, symbol_of, with_zero, before, before_all, tag_at, value_at, size, from}
use Rattle.terms.specs.Reading.{First, first_atom, first_pair, first_wrapped, first_variable, first}
use Rattle.terms.proofs.EntryLaws.{reads-atom, reads-pair, reads-wrapped, reads-encrypted, term_of-reads, pair-first, wrapped-first, right-begins}
use Rattle.terms.specs.declared.atom.Atom.{Atom}
use Rattle.terms.specs.Atom.{atom_at, known_of}
use Rattle.terms.proofs.AtomLaws.{known-listed}
use Rattle.terms.specs.OneTerm.{IsEncryption}
use Rattle.terms.specs.Decisions.{Says, says_same}
use Rattle.terms.proofs.AnswerLaws.{says_eq, says-yes, says-no, answer-says}
use Rattle.terms.specs.Decide.{answer}
use Rattle.judge.specs.Certificate.{Certificate, Secret, inverse}
use Rattle.judge.specs.File.{pattern_of, secret_of}
use Rattle.judge.specs.Laid.{SecretBlock, GoodBlock}
use Rattle.judge.specs.Conditions.{KnownAtom, WeaklyClosed, KeptKey}
use Rattle.judge.specs.Meaning.{SecretNotKnown, SecretClosed, RootKeyKept}
use Rattle.judge.specs.Listed.{IsSecret, is_secret?, TermPart}
use Rattle.judge.proofs.Stages.ListedLaws.{as_term-only, secret-is}
use Rattle.judge.proofs.Stages.Listing.{secret-term}

-- One of two, the first being refused.
second : {P Q R : Type 0} (b : Bool) → (R → P ⊎ Q) → (P ⊎ Q → R) → ¬ P → Says b Q → Says b R
second {P} {Q} {R} b to back off says = says_same b (λ q. back (inr q)) (λ r. pick (to r)) says
  where
    pick : P ⊎ Q → Q
    pick (inl p) = absurd (off p)
    pick (inr q) = q

-- The message that a term reads as has the term's form.
pub pair-message : (m : Message) {t u : Term Variable} → pair t u ≡ as_term m
    → (l : Message) × (r : Message) × (m ≡ pair l r) × (t ≡ as_term l) × (u ≡ as_term r)
unfolding as_term replace
pair-message (variable x) e = absurd x
pair-message (atom a) e = let z : ◌≡◌ {A = ℕ} 0 1 = cc in absurd (omega arith)
pair-message (pair l r) e = (l, r, refl, (cc), (cc))
pair-message (wrapped w k m) e = let z : ◌≡◌ {A = ℕ} 0 1 = cc in absurd (omega arith)

pub wrapped-message : (m : Message) {w : Wrapping} {k : ℕ} {t : Term Variable} → wrapped w k t ≡ as_term m
    → (n : Message) × (m ≡ wrapped w k n) × (t ≡ as_term n)
unfolding as_term replace
wrapped-message (variable x) e = absurd x
wrapped-message (atom a) e = let z : ◌≡◌ {A = ℕ} 0 1 = cc in absurd (omega arith)
wrapped-message (pair l r) e = let z : ◌≡◌ {A = ℕ} 0 1 = cc in absurd (omega arith)
wrapped-message (wrapped v j n) {w} {k} e = let same : k ≡ j = cc in let around : w ≡ v = cc in (n, rw (same, around) refl, (cc))

-- A term of a known form stands first.
read : {e : List ℕ} (b : Begins e) {t : Term Variable} → term_of e ≡ t → Reads e (t ∷ b.others)
read b is = let same = sym (term_of-reads b.reads) ∙ is in rw same at b.reads

atom-first : {e : List ℕ} → Begins e → tag_at e ≡ atom_tag → term_of e ≡ atom (value_at e)
atom-first {e} b is = go (first b.reads)
  where
    go : First (tag_at e) (value_at e) (drop 4 e) (b.term ∷ b.others) → term_of e ≡ atom (value_at e)
    go (first_atom g q k) = term_of-reads (rw q at b.reads)
    go (first_pair g n q k) = absurd (omega arith)
    go (first_wrapped i g q k) = absurd (omega arith)
    go (first_variable g v n q k) = absurd (omega arith)

-- The entry of an atom, alone.
pub one-atom : (a : ℕ) → Reads (1 ∷ 0 ∷ a % 256 ∷ a / 256 ∷ []) (atom a ∷ [])
unfolding terms_of with_zero symbol_of before_all before
one-atom a = let value : a % 256 + 256 * (a / 256) ≡ a = omega arith in record { is = rw value refl }

pub atom-bytes : (a : ℕ) → a ≤ 65535 → {b : List ℕ} → b ≡ to_le_bytes w16 a → 1 ∷ 0 ∷ get_or b 0 0 ∷ get_or b 1 0 ∷ [] ≡ 1 ∷ 0 ∷ a % 256 ∷ a / 256 ∷ []
atom-bytes a small is = let high : (a / 256) % 256 ≡ a / 256 = omega arith in rw (is, high) refl

module _ (c : Certificate) where
  -- Is the message that the entries begin with a listed secret?
  secret-says : (e : List ℕ) (m : Message) → term_of e ≡ as_term m → (b : Bool) → b ≡ answer (is_secret? c (term_of e)) → Says b (Secret c m)
  secret-says e m same b is =
      let way = secret-is c m in
      says_same {P = IsSecret c (term_of e)} b (λ h. way.0 (subst (IsSecret c) same h)) (λ s. subst (IsSecret c) (sym same) (way.1 s))
      (answer-says b (is_secret? c (term_of e)) is)

  pub atom-says : {e : List ℕ} (a : ℕ) → e ≡ 1 ∷ 0 ∷ a % 256 ∷ a / 256 ∷ [] → (b : Bool) → b ≡ answer (is_secret? c (term_of e)) → Says b (Secret c (atom a))
  unfolding as_term replace
  atom-says {e} a bytes b is = secret-says e (atom a) (ap term_of bytes ∙ term_of-reads (one-atom a)) b is

  -- 10, by the form of the message.
  closed-pair : {m l r : Message} → m ≡ pair l r → Secret c l ⊎ Secret c r → WeaklyClosed c m
  closed-pair {m} {l} {r} is s = record {
    of_pair = λ l' r' e. let a : l ≡ l' = cc in let b : r ≡ r' = cc in rw (a, b) at s;
    of_encrypted = λ n k e. let z : ◌≡◌ {A = ℕ} 0 1 = cc in absurd (omega arith);
    of_hashed = λ n k e. let z : ◌≡◌ {A = ℕ} 0 1 = cc in absurd (omega arith);
    of_signed = λ n k e. let z : ◌≡◌ {A = ℕ} 0 1 = cc in absurd (omega arith);
  }

  -- What closes a message with something around it: what it holds, or the key; with a hash only the first.
  abbrev Closes : Wrapping → Message → ℕ → Type 0
  Closes encryption n k = Secret c n ⊎ Secret c (atom k)
  Closes hash n k = Secret c n
  Closes signature n k = Secret c n ⊎ Secret c (atom k)

  closed-wrapped : (w : Wrapping) {m n : Message} {k : ℕ} → m ≡ wrapped w k n → Closes w n k → WeaklyClosed c m
  closed-wrapped encryption {m} {n} {k} is s = record {
    of_pair = λ l r e. let z : ◌≡◌ {A = ℕ} 0 1 = cc in absurd (omega arith);
    of_encrypted = λ n' k' e. let a : n ≡ n' = cc in let b : k ≡ k' = cc in rw (a, b) at s;
    of_hashed = λ n' k' e. let z : ◌≡◌ {A = ℕ} 0 1 = cc in absurd (omega arith);
    of_signed = λ n' k' e. let z : ◌≡◌ {A = ℕ} 0 1 = cc in absurd (omega arith);
  }
  closed-wrapped hash {m} {n} {k} is s = record {
    of_pair = λ l r e. let z : ◌≡◌ {A = ℕ} 0 1 = cc in absurd (omega arith);
    of_encrypted = λ n' k' e. let z : ◌≡◌ {A = ℕ} 0 1 = cc in absurd (omega arith);
    of_hashed = λ n' k' e. let a : n ≡ n' = cc in rw a at s;
    of_signed = λ n' k' e. let z : ◌≡◌ {A = ℕ} 0 1 = cc in absurd (omega arith);
  }
  closed-wrapped signature {m} {n} {k} is s = record {
    of_pair = λ l r e. let z : ◌≡◌ {A = ℕ} 0 1 = cc in absurd (omega arith);
    of_encrypted = λ n' k' e. let z : ◌≡◌ {A = ℕ} 0 1 = cc in absurd (omega arith);
    of_hashed = λ n' k' e. let z : ◌≡◌ {A = ℕ} 0 1 = cc in absurd (omega arith);
    of_signed = λ n' k' e. let a : n ≡ n' = cc in let b : k ≡ k' = cc in rw (a, b) at s;
  }

  closes-content : (w : Wrapping) (n : Message) (k : ℕ) → Secret c n → Closes w n k
  closes-content encryption n k s = inl s
  closes-content hash n k s = s
  closes-content signature n k s = inl s

  module _ {e : List ℕ} (b : Begins e) (m : Message) (message : term_of e ≡ as_term m) where
    -- With a pair: the left half, and then the right one.
    module _ (tag : tag_at e ≡ pair_tag) {t : Bool} (left : t ≡ answer (is_secret? c (term_of (from 4 e)))) where
      abbrev halves : (l : Message) × (r : Message) × (m ≡ pair l r) × ((pair-first b tag).left ≡ as_term l) × ((pair-first b tag).right ≡ as_term r)
      halves = pair-message m (sym (term_of-reads (pair-first b tag).whole) ∙ message)

      left-says : Says t (Secret c halves.0)
      left-says = secret-says (from 4 e) halves.0 (term_of-reads (pair-first b tag).below ∙ halves.3) t left

      pub closed-left : t ≡ true → WeaklyClosed c m
      closed-left h = closed-pair halves.2 (inl (says-yes t left-says h))

      pub closed-right : t ≡ false → {r : ℕ} → r ≡ size (term_of (from 4 e)) → (u : Bool)
          → u ≡ answer (is_secret? c (term_of (from (4 * (1 + r)) e))) → Says u (WeaklyClosed c m)
      closed-right h {r} is u right =
          let there = term_of-reads (right-begins (pair-first b tag) is) in
          second u (λ w. w.of_pair halves.0 halves.1 halves.2) (closed-pair halves.2)
          (says-no t left-says h) (secret-says (from (4 * (1 + r)) e) halves.1 (there ∙ halves.4) u right)

    -- With something around a message: that, and then the key, if there is one.
    module _ (one : WrapperTag (tag_at e)) {t : Bool} (content : t ≡ answer (is_secret? c (term_of (from 4 e)))) where
      abbrev inner : (n : Message) × (m ≡ wrapped one.wrapping (value_at e) n) × ((wrapped-first b one.wrapping one.is).content ≡ as_term n)
      inner = wrapped-message m (sym (term_of-reads (wrapped-first b one.wrapping one.is).whole) ∙ message)

      content-says : Says t (Secret c inner.0)
      content-says = secret-says (from 4 e) inner.0 (term_of-reads (wrapped-first b one.wrapping one.is).below ∙ inner.2) t content

      pub closed-content : t ≡ true → WeaklyClosed c m
      closed-content h = closed-wrapped one.wrapping inner.1 (closes-content one.wrapping inner.0 (value_at e) (says-yes t content-says h))

      pub closed-hash : t ≡ false → tag_at e ≡ hash_tag → ¬ WeaklyClosed c m
      unfolding wrapping_tag
      closed-hash h eight w = go one.wrapping one.is inner.1
        where
          go : (v : Wrapping) → tag_at e ≡ wrapping_tag v → m ≡ wrapped v (value_at e) inner.0 → ⊥
          go encryption is same = omega arith
          go hash is same = says-no t content-says h (w.of_hashed inner.0 (value_at e) same)
          go signature is same = omega arith

      pub closed-key : t ≡ false → ¬ (tag_at e ≡ hash_tag) → {k : ℕ} → k ≡ value_at e → (u : Bool) → Says u (Secret c (atom k)) → Says u (WeaklyClosed c m)
      unfolding wrapping_tag
      closed-key h off {k} value u key = go one.wrapping one.is (rw value inner.1)
        where
          go : (v : Wrapping) → tag_at e ≡ wrapping_tag v → m ≡ wrapped v k inner.0 → Says u (WeaklyClosed c m)
          go encryption tag is =
              second u (λ w. w.of_encrypted inner.0 k is) (closed-wrapped encryption is) (says-no t content-says h) key
          go hash tag is = absurd (off tag)
          go signature tag is =
              second u (λ w. w.of_signed inner.0 k is) (closed-wrapped signature is) (says-no t content-says h) key

    -- 9: no other tag is an atom's.
    pub known-other : ¬ (tag_at e ≡ atom_tag) → ¬ KnownAtom c m
    unfolding as_term replace
    known-other off w = off (reads-atom (read b (message ∙ ap as_term w.same))).0

    -- 10: with an atom there is nothing to ask.
    pub closed-atom : ¬ (tag_at e ≡ pair_tag) → ¬ WrapperTag (tag_at e) → WeaklyClosed c m
    unfolding as_term replace
    closed-atom off off' = record {
      of_pair = λ l r is. absurd (off (reads-pair (read b (message ∙ ap as_term is))).0);
      of_encrypted = λ n k is. absurd (off' (record { wrapping = encryption; is = (reads-wrapped (read b (message ∙ ap as_term is))).0 }));
      of_hashed = λ n k is. absurd (off' (record { wrapping = hash; is = (reads-wrapped (read b (message ∙ ap as_term is))).0 }));
      of_signed = λ n k is. absurd (off' (record { wrapping = signature; is = (reads-wrapped (read b (message ∙ ap as_term is))).0 }));
    }

-- The atom of a number.
module _ (c : Certificate) (n : ℕ) {a : Atom} (listed : a ≡ atom_at c.atoms n) where
  -- The partner field.
  pub inverse-at : a.partner ≡ inverse c n
  inverse-at = ap (λ (x : Atom). x.partner) listed

  -- 9
  pub known-says : {e : List ℕ} → Begins e → (m : Message) → term_of e ≡ as_term m → tag_at e ≡ atom_tag → n ≡ value_at e
      → Says (eqb a.known 1) (KnownAtom c m)
  unfolding as_term replace
  known-says {e} begins m message tag value = says_same (eqb a.known 1)
      (λ (h : a.known ≡ 1). (let one = sym (ap (λ (x : Atom). x.known) listed) ∙ h in record {
        number = n;
        same = as_term-only (sym message ∙ atom-first begins tag ∙ ap atom (sym value));
        known = record { listed = known-listed c.atoms n (omega (arith, one)); known = one };
      }))
      (λ w. (let same : n ≡ w.number = value ∙ (reads-atom (read begins (message ∙ ap as_term w.same))).1 in
      ap (λ (x : Atom). x.known) listed ∙ ap (known_of c.atoms) same ∙ w.known.known))
      (says_eq a.known 1)

-- 11
pub kept-says : (c : Certificate) {e : List ℕ} → Begins e → IsEncryption (term_of e) → {k p : ℕ} → k ≡ value_at e → p ≡ inverse c k
    → (b : Bool) → Says b (Secret c (atom p)) → Says b (KeptKey c (term_of e))
kept-says c {e} begins root {k} {p} value is b says =
    let key : value_at e ≡ root.key = (reads-encrypted (read begins root.is)).1 in
    let same : inverse c root.key ≡ p = ap (inverse c) (sym (value ∙ key)) ∙ sym is in
    says_same b (λ s. record { key = root.key; inner = root.content; same = root.is; kept = rw same s })
    (λ w. (let again : w.key ≡ root.key = (let a = w.same in let d = root.is in cc) in
    rw (ap (inverse c) again ∙ same) at w.kept)) says

-- ---- what a block is asked

says-not : (P : Type 0) (b : Bool) → Says b P → Says (not b) (¬ P)
says-not P true p = λ n. n p
says-not P false n = n

module _ {file : List ℕ} {i : ℕ} {e : List ℕ} (part : TermPart file i e) where
  -- The secret of block i is the message that its entries begin with.
  message-at : SecretBlock (block_at file i) → term_of e ≡ as_term (secret_of (block_at file i))
  unfolding pattern_of
  message-at s = ap term_of part.part ∙ secret-term s

  pattern-at : pattern_of (block_at file i) ≡ term_of e
  unfolding pattern_of
  pattern-at = ap term_of (sym part.part)

  module _ (c : Certificate) (b : Bool) where
    pub unknown-at : SecretBlock (block_at file i) → ((m : Message) → term_of e ≡ as_term m → Says b (KnownAtom c m))
        → Says (not b) (SecretNotKnown c (block_at file i))
    unknown-at s says = says-not (KnownAtom c (secret_of (block_at file i))) b (says (secret_of (block_at file i)) (message-at s))

    pub closed_at : SecretBlock (block_at file i) → ((m : Message) → term_of e ≡ as_term m → Says b (WeaklyClosed c m))
        → Says b (SecretClosed c (block_at file i))
    closed_at s says = says (secret_of (block_at file i)) (message-at s)

    pub kept_at : Says b (KeptKey c (term_of e)) → Says b (RootKeyKept c (block_at file i))
    kept_at says = subst (λ (t : Term Variable). Says b (KeptKey c t)) (sym pattern-at) says

  -- The root of a good pattern is an encryption.
  pub good-root : GoodBlock (block_at file i) → IsEncryption (term_of e)
  good-root g = record { key = g.key; content = g.content; is = sym pattern-at ∙ g.same }
