-- Messages restricted to given atoms and keys change no answer.
use mathlib.Core.Path.{◌≡◌, refl, sym, ap, ap₂, ◌∙◌}
use mathlib.Core.Logic.{◌↔◌, inl, inr, ⊎_elim}
use mathlib.Core.List.{List}
use Prim.Native.Nat.{ℕ}
use native.Mathlib.Omega.{arith}
use native.Mathlib.Decide.{dec_lt, dec_le}
use lib.ListN.{length}
use Rattle.terms.specs.Term.{Term, variable, atom, pair, Variable, Range, replace, wrapped, Wrapping}
use Rattle.terms.specs.Instance.{NonceTerm, Replaced, Share}
use Rattle.terms.specs.declared.atom.Atom.{Atom}
use Rattle.terms.specs.Atom.{Nonce, listed_nonce, foreign_nonce}
use Rattle.terms.specs.TermEntry.{NumberRight, number_right?}
use Rattle.terms.proofs.AtomLaws.{kind-listed}
use Rattle.terms.specs.Occurs.{replace-none}
use Rattle.terms.specs.Decide.{answer}
use Rattle.terms.specs.Built.{Built, BuiltMatch, BuiltShare, MessageAtom}
use Rattle.terms.proofs.AnswerLaws.{answer-same}
use Rattle.terms.proofs.OneTermLaws.{TermRight, atom_right, pair_right, wrapped_right, variable_right}

-- A and K can be decided, and f has A.
module _ {A : ℕ → Type 0} {K : Wrapping → ℕ → Type 0} (A? : (a : ℕ) → Dec (A a)) (K? : (w : Wrapping) (k : ℕ) → Dec (K w k)) (f : ℕ) (ok : A f) where
  -- The term with f for all that is not built: an atom without A, anything around a term with a number without K.
  mend : {X : Type 0} → Term X → Term X
  mend (variable x) = variable x
  mend (atom a) = elim (A? a) [ yes p ↦ atom a | no n ↦ atom f ]
  mend (pair t u) = pair (mend t) (mend u)
  mend (wrapped w k t) = elim (K? w k) [ yes p ↦ wrapped w k (mend t) | no n ↦ atom f ]

  -- What is mended is built.
  mend-built : {X : Type 0} (t : Term X) → Built A K (mend t)
  unfolding Built mend
  mend-built (variable x) = tt
  mend-built {X} (atom a) = go (A? a)
    where
      go : (q : Dec (A a)) → Built {X = X} A K (elim q [ yes p ↦ atom a | no n ↦ atom f ])
      go (yes p) = p
      go (no n) = ok
  mend-built (pair t u) = (mend-built t, mend-built u)
  mend-built {X} (wrapped w k t) = go (K? w k) (mend-built t)
    where
      go : (q : Dec (K w k)) → Built A K (mend t) → Built {X = X} A K (elim q [ yes p ↦ wrapped w k (mend t) | no n ↦ atom f ])
      go (yes p) b = (p, b)
      go (no n) b = ok

  -- In a built term, replaced, only the replacements are mended.
  mend-replace : {X Y : Type 0} (by : X → Term Y) (t : Term X) → Built A K t
      → mend (replace by t) ≡ replace (λ x. mend (by x)) t
  unfolding Built mend replace
  mend-replace by (variable x) b = refl
  mend-replace {X} {Y} by (atom a) b = go (A? a)
    where
      go : (q : Dec (A a)) → ◌≡◌ {A = Term Y} (elim q [ yes p ↦ atom a | no n ↦ atom f ]) (atom a)
      go (yes p) = refl
      go (no n) = absurd (n b)
  mend-replace by (pair t u) b = ap₂ pair (mend-replace by t b.0) (mend-replace by u b.1)
  mend-replace {X} {Y} by (wrapped w k t) b = go (K? w k) (mend-replace by t b.1)
    where
      go : (q : Dec (K w k)) → mend (replace by t) ≡ replace (λ x. mend (by x)) t
          → ◌≡◌ {A = Term Y} (elim q [ yes p ↦ wrapped w k (mend (replace by t)) | no n ↦ atom f ])
          (wrapped w k (replace (λ x. mend (by x)) t))
      go (yes p) e = ap (wrapped w k) e
      go (no n) e = absurd (n b.0)

  -- A built term stays as it is.
  mend-same : {X : Type 0} (t : Term X) → Built A K t → mend t ≡ t
  unfolding mend
  mend-same t b = ap mend (sym (replace-none t)) ∙ mend-replace variable t b ∙ replace-none t

  -- Where A has all nonces, a nonce stays one.
  module _ (atoms : List Atom) (all : (a : ℕ) → Nonce atoms a → A a) where
    mend-nonce : {Y : Type 0} (range : Y → Range) (t : Term Y) → NonceTerm atoms range t → NonceTerm atoms range (mend t)
    unfolding NonceTerm mend
    mend-nonce range (variable y) is = is
    mend-nonce {Y} range (atom a) is = go (A? a)
      where
        go : (q : Dec (A a)) → NonceTerm atoms range (elim q [ yes p ↦ atom a | no n ↦ atom f ])
        go (yes p) = is
        go (no n) = absurd (n (all a is))
    mend-nonce range (pair t u) is = is
    mend-nonce range (wrapped w k t) is = absurd is

    mended : {Y : Type 0} {range : Y → Range} {p : Term Variable} {t : Term Y} → Built A K p → Replaced atoms range p t → Replaced atoms range p (mend t)
    mended {range = range} {p = p} bp m = record {
      by = λ x. mend (m.by x);
      nonces = λ x is. mend-nonce range (m.by x) (m.nonces x is);
      same = sym (mend-replace m.by p bp) ∙ ap mend m.same;
    }

    -- A match of built terms is one by built terms.
    pub built-match : {Y : Type 0} {range : Y → Range} {p : Term Variable} {t : Term Y} → Built A K p → Built A K t → Replaced atoms range p t
        → BuiltMatch A K atoms range p t
    unfolding mended
    built-match {t = t} bp bt m = let n = mended bp m in record {
      match = record { by = n.by; nonces = n.nonces; same = n.same ∙ mend-same t bt };
      built = λ x. mend-built (m.by x);
    }

    -- Built terms that share an instance share a built one.
    pub built-share : {s t : Term Variable} → Built A K s → Built A K t → Share atoms s t → BuiltShare A K atoms s t
    unfolding mended
    built-share bs bt c = record {
      share = record { message = mend c.message; left = mended bs c.left; right = mended bt c.right };
      message = mend-built c.message;
      left = λ x. mend-built (c.left.by x);
      right = λ y. mend-built (c.right.by y);
    }

    -- So the restriction changes no answer.
    pub built-answer : {s t : Term Variable} → Built A K s → Built A K t
        → (d : Dec (Share atoms s t)) (e : Dec (BuiltShare A K atoms s t)) → answer d ≡ answer e
    built-answer bs bt d e = answer-same d e (built-share bs bt) (λ b. b.share)

-- A nonce is a message's atom.
pub nonce-atom : {atoms : List Atom} (a : ℕ) → Nonce atoms a → MessageAtom atoms a
nonce-atom {atoms} a (listed_nonce is) = inl (kind-listed atoms a (omega arith))
nonce-atom a (foreign_nonce far) = inr far

message-atom? : (atoms : List Atom) (a : ℕ) → Dec (MessageAtom atoms a)
message-atom? atoms a = elim (dec_lt a (length atoms)) [
  | yes l ↦ yes (inl l)
  | no n ↦ elim (dec_le 1000 a) [ yes h ↦ yes (inr h) | no m ↦ no (λ w. ⊎_elim n m w) ]
]

message-built : {atoms : List Atom} {kind : ℕ} {t : Term Variable} → TermRight atoms kind t → Built (MessageAtom atoms) (NumberRight atoms) t
unfolding Built
message-built (atom_right l) = inl l
message-built (pair_right w v) = (message-built w, message-built v)
message-built (wrapped_right i w) = (i, message-built w)
message-built (variable_right l k) = tt

pub message-share : {atoms : List Atom} {i j : ℕ} {s t : Term Variable} → TermRight atoms i s → TermRight atoms j t
    → Share atoms s t ↔ BuiltShare (MessageAtom atoms) (NumberRight atoms) atoms s t
message-share {atoms} w v =
    (built-share (message-atom? atoms) (number_right? atoms) 1000 (inr (omega arith)) atoms nonce-atom (message-built w) (message-built v), λ b. b.share)
