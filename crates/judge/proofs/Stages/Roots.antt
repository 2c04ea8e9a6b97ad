-- Laws of the flagged roots: a term whose root no secret has is no secret, and shares an instance with none. Assumes
-- nothing.
use mathlib.Core.Path.{◌≡◌, refl, sym, ap, ap₂, subst, ◌∙◌}
use mathlib.Core.Bool.{Bool}
use mathlib.Core.List.{List, ◌∷◌}
use Prim.Native.Nat.{ℕ, ◌+◌, ◌%◌, ◌<◌, ◌≤◌}
use native.Mathlib.Omega.{arith}
use native.Mathlib.Decide.{ℕ_discrete}
use borrow.Author.Rules.{part_to_end}
use lib.ListN.{length, get_or, drop}
use Rattle.blocks.specs.Kinds.{secret_kind}
use Rattle.blocks.specs.Block.{block_at, kind_of, first_entries}
use Rattle.blocks.proofs.KindLaws.{secret-lists}
use Rattle.terms.specs.Term.{range_of, no_variable, Term, Message, Variable, variable, atom, pair, Sort, named, replace, as_term, wrapped, Wrapping}
use Rattle.terms.specs.Tag.{atom_tag, pair_tag, signature_tag, sort_tag, VariableTag, SymbolTag, sort-tag, sort-tagged, wrapping_tag, wrapping-symbol, wrapping-tagged}
use Rattle.terms.specs.Tag.{Tagged, an_atom, a_pair, a_wrapping, a_variable, no_tag, tagged}
use Rattle.terms.specs.Slot.{slot_count}
use Rattle.terms.specs.declared.atom.Atom.{Atom}
use Rattle.terms.specs.Instance.{Instance, Matches, Share}
use Rattle.terms.specs.Seek.{Becomes}
use Rattle.terms.specs.Apart.{Common}
use Rattle.terms.proofs.InstanceLaws.{replace-as_term, nonce-replaced, matches-replace, ground, ground-nonces, common}
use Rattle.terms.specs.Occurs.{replace-twice}
use Rattle.terms.specs.Entry.{Begins, term_of, tag_at, value_at, from}
use Rattle.terms.specs.Reading.{First, first, first_atom, first_pair, first_wrapped, first_variable}
use Rattle.terms.proofs.EntryLaws.{begins-tag, term_of-reads, begins, pair-first, from-length}
use Rattle.terms.proofs.RootLaws.{tags-apart, values-apart}
use Rattle.judge.specs.File.{block_count, pattern_of, certificate_of}
use mathlib.Core.Logic.{inl, inr, ◌↔◌, ∥∥₁_elim}
use native.Mathlib.Nat.{ℕ_set}
use Rattle.judge.specs.Laid.{Laid, SecretBlock}
use Rattle.terms.specs.Decisions.{Says, says_same}
use Rattle.terms.specs.Decide.{answer}
use Rattle.terms.proofs.AnswerLaws.{answer-says}
use Rattle.judge.specs.Listed.{atoms_in, pair_roots, wrapper_roots, variable_roots}
use Rattle.judge.specs.Listed.{TermPart, SharesListed, IsSecret, slot_for, slot_by, slot_at, FlaggedAt, SecretSlot, RootsOf, NoRoot}
use Rattle.judge.proofs.Stages.Listing.{none_found}
use Rattle.judge.proofs.Stages.Numbers.{pair-message}

-- ---- slots

-- Only a pair's slot depends on the entry after the root.
slot-leaf : (tag n l m : ℕ) → (tag ≡ pair_tag → ⊥) → slot_by tag n l ≡ slot_by tag n m
unfolding slot_by
slot-leaf tag n l m off = go (tagged tag)
  where
    go : (w : Tagged tag) → slot_for w n l ≡ slot_for w n m
    go (an_atom e) = refl
    go (a_pair e) = absurd (off e)
    go (a_wrapping w e) = refl
    go (a_variable s e) = refl
    go (no_tag e) = refl

-- A root that is none of a variable's, a pair's or an atom's: that of something around a term.
slot-low : (tag n l : ℕ) → ¬ VariableTag tag → (tag ≡ pair_tag → ⊥) → (tag ≡ atom_tag → ⊥) → wrapper_roots + n % pair_roots ≡ slot_by tag n l
unfolding slot_by
slot-low tag n l low no-pair no-atom = go (tagged tag)
  where
    go : (w : Tagged tag) → wrapper_roots + n % pair_roots ≡ slot_for w n l
    go (an_atom e) = absurd (no-atom e)
    go (a_pair e) = absurd (no-pair e)
    go (a_wrapping w e) = refl
    go (a_variable s e) = absurd (low (sort-tag s e))
    go (no_tag e) = refl

slot-high : (tag n l : ℕ) → tag ≤ signature_tag → VariableTag tag → variable_roots + n % slot_count ≡ slot_by tag n l
unfolding slot_by
slot-high tag n l last high = go (tagged tag)
  where
    go : (w : Tagged tag) → variable_roots + n % slot_count ≡ slot_for w n l
    go (an_atom e) = absurd (omega arith)
    go (a_pair e) = absurd (omega arith)
    go (a_wrapping w e) = let low = wrapping-symbol w e in absurd (omega arith)
    go (a_variable s e) = refl
    go (no_tag (inl none)) = absurd (omega arith)
    go (no_tag (inr far)) = absurd (omega arith)

-- Something around a term.
slot-wrapping : (w : Wrapping) (n l : ℕ) → slot_by (wrapping_tag w) n l ≡ wrapper_roots + n % pair_roots
unfolding slot_by
slot-wrapping w n l = rw (wrapping-tagged w) refl

-- A variable of any sort.
slot-sort : (s : Sort) (n l : ℕ) → slot_by (sort_tag s) n l ≡ variable_roots + n % slot_count
unfolding slot_by
slot-sort s n l = rw (sort-tagged s) refl

-- The slot, as the code finds it by the tag.
module _ (e : List ℕ) {n : ℕ} where
  pub slot-pair : tag_at e ≡ pair_tag → n ≡ value_at (from 4 e) → pair_roots + n % pair_roots ≡ slot_at e
  unfolding slot_by
  slot-pair two is =
      let left : n ≡ value_at (drop 4 e) = is ∙ ap value_at (part_to_end e 4) in
      ap (λ (m : ℕ). pair_roots + m % pair_roots) left ∙ ap (λ (tag : ℕ). slot_by tag (value_at e) (value_at (drop 4 e))) (sym two)

  pub slot-atom : tag_at e ≡ atom_tag → n ≡ value_at e → n % pair_roots ≡ slot_at e
  unfolding slot_by
  slot-atom one is = ap (λ (m : ℕ). m % pair_roots) is ∙ ap (λ (tag : ℕ). slot_by tag (value_at e) (value_at (drop 4 e))) (sym one)

  pub slot-wrapper : ¬ VariableTag (tag_at e) → (tag_at e ≡ pair_tag → ⊥) → (tag_at e ≡ atom_tag → ⊥) → n ≡ value_at e → wrapper_roots + n % pair_roots ≡ slot_at e
  slot-wrapper low no-pair no-atom is =
      ap (λ (m : ℕ). wrapper_roots + m % pair_roots) is ∙ slot-low (tag_at e) (value_at e) (value_at (drop 4 e)) low no-pair no-atom

  pub slot-variable : Begins e → VariableTag (tag_at e) → n ≡ value_at e → variable_roots + n % slot_count ≡ slot_at e
  slot-variable b high is =
      ap (λ (m : ℕ). variable_roots + m % slot_count) is ∙ slot-high (tag_at e) (value_at e) (value_at (drop 4 e)) (begins-tag b) high

-- The value of a term's root, and its slot by the term alone: the same terms have the same slot.
root_value : Term Variable → ℕ
root_value (variable (named s x)) = x
root_value (atom a) = a
root_value (pair t u) = 0
root_value (wrapped w k t) = k

term_slot : Term Variable → ℕ
term_slot (variable (named s x)) = variable_roots + x % slot_count
term_slot (atom a) = a % pair_roots
term_slot (pair t u) = pair_roots + root_value t % pair_roots
term_slot (wrapped w k t) = wrapper_roots + k % pair_roots

value-term : {e : List ℕ} → Begins e → value_at e ≡ root_value (term_of e)
unfolding root_value
value-term {e} b = go (first b.reads) (term_of-reads b.reads)
  where
    go : First (tag_at e) (value_at e) (drop 4 e) (b.term ∷ b.others) → term_of e ≡ b.term → value_at e ≡ root_value (term_of e)
    go (first_atom g q k) is = let t : term_of e ≡ atom (value_at e) = cc in rw t refl
    go (first_pair {t} {u} g n q k) is = let w : term_of e ≡ pair t u = cc in rw w n
    go (first_wrapped {w = wr} {t = t} i g q k) is = let w : term_of e ≡ wrapped wr (value_at e) t = cc in rw w refl
    go (first_variable {s = s} g v l q k) is = let w : term_of e ≡ variable (named s (value_at e)) = cc in rw w refl

slot-term : {e : List ℕ} → Begins e → slot_at e ≡ term_slot (term_of e)
unfolding term_slot slot_by
slot-term {e} b = go (first b.reads) (term_of-reads b.reads)
  where
    by-tag : (tag : ℕ) → tag_at e ≡ tag → slot_at e ≡ slot_by tag (value_at e) (value_at (drop 4 e))
    by-tag tag is = ap (λ (n : ℕ). slot_by n (value_at e) (value_at (drop 4 e))) is

    go : First (tag_at e) (value_at e) (drop 4 e) (b.term ∷ b.others) → term_of e ≡ b.term → slot_at e ≡ term_slot (term_of e)
    go (first_atom g q k) is = let w : term_of e ≡ atom (value_at e) = cc in rw w (by-tag atom_tag g)
    go (first_pair {t} {u} g n q k) is =
        let w : term_of e ≡ pair t u = cc in
        let left : value_at (drop 4 e) ≡ root_value t = value-term (begins k) ∙ ap root_value (term_of-reads k) in
        rw w (by-tag pair_tag g ∙ ap (λ (n : ℕ). pair_roots + n % pair_roots) left)
    go (first_wrapped {w = wr} {t = t} i g q k) is =
        let w : term_of e ≡ wrapped wr (value_at e) t = cc in rw w (by-tag (wrapping_tag wr) i ∙ slot-wrapping wr (value_at e) (value_at (drop 4 e)))
    go (first_variable {s = s} g v l q k) is =
        let w : term_of e ≡ variable (named s (value_at e)) = cc in rw w (by-tag (sort_tag s) g ∙ slot-sort s (value_at e) (value_at (drop 4 e)))

pub slot_same : {e f : List ℕ} → Begins e → Begins f → term_of e ≡ term_of f → slot_at e ≡ slot_at f
slot_same b d same = slot-term b ∙ ap term_slot same ∙ sym (slot-term d)

-- A pair has the entry of its left half's root after its own.
pub pair-room : {e : List ℕ} → Begins e → tag_at e ≡ pair_tag → 8 ≤ length e
pair-room {e} b two = let half = (begins (pair-first b two).below).room in omega (arith, from-length 4 e)

-- The root of a secret among some blocks is one among more.
pub slots-before : {file : List ℕ} {i n slot : ℕ} → i ≤ n → SecretSlot file i slot → SecretSlot file n slot
slots-before l w = record { number = w.number; before = let b = w.before in omega arith; has_kind = w.has_kind; same = w.same }

-- ---- what the flags say

-- A message's root is a symbol.
message-symbol : {e : List ℕ} → Begins e → (m : Message) → term_of e ≡ as_term m → SymbolTag (tag_at e)
unfolding as_term replace
message-symbol {e} b m same = go (first b.reads) (term_of-reads b.reads)
  where
    no-variable : (x : Variable) (m : Message) → ◌≡◌ {A = Term Variable} (variable x) (replace (λ y. absurd y) m) → ⊥
    no-variable x (variable y) e = y
    no-variable x (atom a) e = let z : ◌≡◌ {A = ℕ} 0 1 = cc in omega arith
    no-variable x (pair m n) e = let z : ◌≡◌ {A = ℕ} 0 1 = cc in omega arith
    no-variable x (wrapped w k m) e = let z : ◌≡◌ {A = ℕ} 0 1 = cc in omega arith

    go : {tag n : ℕ} {rest : List ℕ} → First tag n rest (b.term ∷ b.others) → term_of e ≡ b.term → SymbolTag tag
    go (first_atom g q k) is = omega arith
    go (first_pair g n q k) is = omega arith
    go (first_wrapped {w = w} i g q k) is = wrapping-symbol w i
    go {n = n} (first_variable {s = s} g v l q k) is =
        let t : b.term ≡ variable (named s n) = cc in absurd (no-variable (named s n) m (sym t ∙ sym is ∙ same))

-- The left half of a pair stands after the root, and it is a message's if the pair is.
left-begins : {e : List ℕ} → Begins e → tag_at e ≡ pair_tag → Begins (drop 4 e)
left-begins {e} b two = rw (part_to_end e 4) at (begins (pair-first b two).below)

left_is : {e : List ℕ} (b : Begins e) (two : tag_at e ≡ pair_tag) → term_of (drop 4 e) ≡ (pair-first b two).left
left_is {e} b two = ap term_of (sym (part_to_end e 4)) ∙ term_of-reads (pair-first b two).below

left-message : {e : List ℕ} → Begins e → tag_at e ≡ pair_tag → (m : Message) → term_of e ≡ as_term m → (l : Message) × (term_of (drop 4 e) ≡ as_term l)
left-message b two m same =
    let p = pair-first b two in
    let w = pair-message m (sym (term_of-reads p.whole) ∙ same) in (w.0, left_is b two ∙ w.3)

-- Pairs with a message in common have left halves that have one.
lefts-share : {s t : List ℕ} → Begins s → Begins t → tag_at s ≡ pair_tag → tag_at t ≡ pair_tag → Common (term_of s) (term_of t)
    → Common (term_of (drop 4 s)) (term_of (drop 4 t))
unfolding replace
lefts-share {s} {t} left right two other share =
    let p = pair-first left two in
    let q = pair-first right other in
    let first-is : pair (replace share.left.by p.left) (replace share.left.by p.right) ≡ share.message =
    ap (replace share.left.by) (sym (term_of-reads p.whole)) ∙ share.left.same in
    let second_is : pair (replace share.right.by q.left) (replace share.right.by q.right) ≡ share.message =
    ap (replace share.right.by) (sym (term_of-reads q.whole)) ∙ share.right.same in
    let halves : replace share.right.by q.left ≡ replace share.left.by p.left = cc in
    rw (left_is left two, left_is right other) (record {
      message = replace share.left.by p.left;
      left = record { by = share.left.by; same = refl };
      right = record { by = share.right.by; same = halves };
    })

-- The root of a secret is flagged.
pub root-flagged : {file roots : List ℕ} → ∥ RootsOf file roots ∥₁ → (i : ℕ) → i < block_count file → kind_of (block_at file i) ≡ secret_kind → FlaggedAt roots (first_entries (block_at file i))
root-flagged flags i inside kind = ∥∥₁_elim flags (ℕ_set _ _) (λ w. w.flagged i inside kind)

module _ {file roots e : List ℕ} (laid : Laid file) (flags : ∥ RootsOf file roots ∥₁) (b : Begins e) (none : NoRoot roots e) where
  -- Where a secret and e's term have a message in common, their roots have one slot, which is flagged.
  apart : (i : ℕ) → i < block_count file → kind_of (block_at file i) ≡ secret_kind → Common (pattern_of (block_at file i)) (term_of e) → ⊥
  unfolding pattern_of
  apart i inside kind share =
      let s = first_entries (block_at file i) in
      let start = (laid.terms i inside (secret-lists kind)).term in
      let secret = laid.secrets i inside kind in
      let symbol = message-symbol start secret.message secret.same in
      tags-apart start b symbol none.symbol (λ tags. values-apart start b symbol none.symbol (λ values.
      elim (ℕ_discrete (tag_at e) 2) [
        | yes two ↦
            let half = left-message start (tags ∙ two) secret.message secret.same in
            let there = left-begins start (tags ∙ two) in
            values-apart there (left-begins b two) (message-symbol there half.0 half.1) (none.left_symbol two)
            (λ lefts. clash (ap₂ (slot_by (tag_at s)) values lefts ∙ ap (λ (tag : ℕ). slot_by tag (value_at e) (value_at (drop 4 e))) tags))
            (lefts-share start b (tags ∙ two) two share)
        | no off ↦
            let leaf = slot-leaf (tag_at e) (value_at e) (value_at (drop 4 s)) (value_at (drop 4 e)) off in
            clash (ap₂ (λ (tag n : ℕ). slot_by tag n (value_at (drop 4 s))) tags values ∙ leaf)
      ]) share) share
    where
      clash : slot_at (first_entries (block_at file i)) ≡ slot_at e → ⊥
      clash same =
          let on : get_or roots (slot_at e) 0 ≡ 1 = ap (λ (n : ℕ). get_or roots n 0) (sym same) ∙ root-flagged flags i inside kind in
          omega (arith, none.absent)

  pub no-root-shares : ¬ SharesListed (certificate_of file) secret_kind (term_of e)
  no-root-shares = none_found laid secret_kind (λ p. Share (atoms_in file) p (term_of e)) (λ i inside h. apart i inside h.has_kind (common h.holds))

  pub no-root-secret : ¬ IsSecret (certificate_of file) (term_of e)
  no-root-secret = none_found laid secret_kind (λ p. p ≡ term_of e) (λ i inside h.
      let secret = laid.secrets i inside h.has_kind in
      let itself : Becomes (pattern_of (block_at file i)) secret.message = record { by = λ x. atom 0; same = ap (replace (λ x. atom 0)) secret.same ∙ replace-as_term (λ x. atom 0) secret.message } in
      apart i inside h.has_kind (subst (Common (pattern_of (block_at file i))) h.holds (record { message = secret.message; left = itself; right = itself })))

-- A secret has no variables: it shares an instance with a term of which it is one.
pub instance-shares : (atoms : List Atom) {b : List ℕ} → SecretBlock b → {t : Term Variable} → Matches atoms t (pattern_of b) ↔ Share atoms (pattern_of b) t
unfolding as_term
instance-shares atoms {b} secret {t} = (to, back)
  where
    m : Message
    m = secret.message

    itself : Instance atoms (pattern_of b) m
    itself = record { by = ground; nonces = ground-nonces atoms; same = ap (replace ground) secret.same ∙ replace-as_term ground m }

    to : Matches atoms t (pattern_of b) → Share atoms (pattern_of b) t
    to w = let v = matches-replace ground (ground-nonces atoms) w in
        record { message = m; left = itself; right = record { by = v.by; nonces = v.nonces; same = v.same ∙ itself.same } }

    back : Share atoms (pattern_of b) t → Matches atoms t (pattern_of b)
    back w =
        let one : w.message ≡ m = sym w.left.same ∙ ap (replace w.left.by) secret.same ∙ replace-as_term w.left.by m in
        record {
          by = λ x. as_term (w.right.by x);
          nonces = λ x is. nonce-replaced atoms no_variable range_of (λ y. absurd y) (λ y. absurd y) (w.right.by x) (w.right.nonces x is);
          same = sym (replace-twice (λ y. absurd y) w.right.by t) ∙ ap as_term (w.right.same ∙ one) ∙ sym secret.same;
        }

-- As the code finds it at block i.
pub instance-answer : (atoms : List Atom) {file : List ℕ} {i : ℕ} {p : List ℕ} {t : Term Variable} → Laid file → i < block_count file
    → kind_of (block_at file i) ≡ secret_kind → TermPart file i p
    → (b : Bool) (d : Dec (Matches atoms t (term_of p))) → b ≡ answer d → Says b (Share atoms (pattern_of (block_at file i)) t)
unfolding pattern_of
instance-answer atoms {file} {i} {p} {t} laid inside kind part b d is =
    let same = instance-shares atoms (laid.secrets i inside kind) in
    says_same b (λ m. same.0 (rw (ap term_of part.part) at m)) (λ w. rw (ap term_of part.part) (same.1 w)) (answer-says b d is)
