-- Laws of replacements and instances.
use mathlib.Core.Path.{◌≡◌, refl, sym, ap, ◌∙◌}
use mathlib.Core.List.{List}
use native.Mathlib.Omega.{arith}
use Rattle.terms.specs.declared.atom.Atom.{Atom}
use Rattle.terms.specs.Atom.{foreign_nonce}
use Rattle.terms.specs.Term.{Term, variable, atom, pair, Message, Variable, Range, one_nonce, range_of, no_variable, replace, as_term, wrapped}
use Rattle.terms.specs.Instance.{NonceTerm, PutsNonces, Replaced, Matches, Share}
use Rattle.terms.specs.Seek.{Becomes}
use Rattle.terms.specs.Apart.{Common}
use Rattle.terms.specs.Occurs.{replace-twice}

-- A message holds no variable, so a replacement leaves it as it is.
pub replace-message : (by : ⊥ → Message) (m : Message) → replace by m ≡ m
unfolding replace
replace-message by (variable x) = absurd x
replace-message by (atom a) = refl
replace-message by (pair m n) = cc (replace-message by m, replace-message by n)
replace-message by (wrapped w k m) = cc (replace-message by m)

pub replace-as_term : {X : Type 0} (by : X → Message) (m : Message) → replace by (as_term m) ≡ m
unfolding as_term
replace-as_term by m = replace-twice by (λ x. absurd x) m ∙ replace-message (λ x. replace by (absurd x)) m

-- A nonce atom or nonce variable, replaced, is one again.
pub nonce-replaced : (atoms : List Atom) {X Y : Type 0} (from : X → Range) (to : Y → Range) (by : X → Term Y)
    → ((x : X) → from x ≡ one_nonce → NonceTerm atoms to (by x)) → (t : Term X) → NonceTerm atoms from t → NonceTerm atoms to (replace by t)
unfolding NonceTerm replace
nonce-replaced atoms from to by nonces (variable x) is = nonces x is
nonce-replaced atoms from to by nonces (atom a) is = is
nonce-replaced atoms from to by nonces (pair t u) is = is
nonce-replaced atoms from to by nonces (wrapped w k t) is = is

-- What matches a term matches the term's instances.
pub matches-replace : {atoms : List Atom} {Y : Type 0} {range : Y → Range} {pattern t : Term Variable} (by : Variable → Term Y)
    → PutsNonces atoms range by → Matches atoms pattern t → Replaced atoms range pattern (replace by t)
matches-replace {atoms} {range = range} {pattern} by nonces h = record {
  by = λ x. replace by (h.by x);
  nonces = λ x is. nonce-replaced atoms range_of range by nonces (h.by x) (h.nonces x is);
  same = sym (replace-twice by h.by pattern) ∙ ap (replace by) h.same;
}

-- Every variable replaced by the same foreign nonce.
abbrev pub ground : Variable → Message
ground x = atom 1000

pub ground-nonces : (atoms : List Atom) → PutsNonces atoms no_variable ground
unfolding NonceTerm
ground-nonces atoms x is = foreign_nonce (omega arith)

-- Replacements that make two terms the same give a shared instance.
pub alike-share : {atoms : List Atom} {t u : Term Variable} (by by' : Variable → Term Variable) → PutsNonces atoms range_of by → PutsNonces atoms range_of by'
    → replace by t ≡ replace by' u → Share atoms t u
alike-share {atoms} {t} {u} by by' nonces nonces' h = record {
  message = replace ground (replace by t);
  left = record {
    by = λ x. replace ground (by x);
    nonces = λ x is. nonce-replaced atoms range_of no_variable ground (ground-nonces atoms) (by x) (nonces x is);
    same = sym (replace-twice ground by t);
  };
  right = record {
    by = λ x. replace ground (by' x);
    nonces = λ x is. nonce-replaced atoms range_of no_variable ground (ground-nonces atoms) (by' x) (nonces' x is);
    same = sym (replace-twice ground by' u) ∙ ap (replace ground) (sym h);
  };
}

-- A match and a shared instance, whatever the variables stand for.
pub becomes : {atoms : List Atom} {Y : Type 0} {range : Y → Range} {p : Term Variable} {t : Term Y} → Replaced atoms range p t → Becomes p t
becomes m = record { by = m.by; same = m.same }

pub common : {atoms : List Atom} {s t : Term Variable} → Share atoms s t → Common s t
common h = record { message = h.message; left = becomes h.left; right = becomes h.right }

-- A pattern has a message in common with what it becomes: any instance of that.
pub matched-common : {X Y : Type 0} {pattern : Term X} {t : Term Y} → Becomes pattern t → Common pattern t
matched-common {pattern = pattern} {t = t} h =
    let ends : Becomes t (replace (λ y. atom 0) t) = record { by = λ y. atom 0; same = refl } in
    record {
      message = replace (λ y. atom 0) t;
      left = record { by = λ x. replace (λ y. atom 0) (h.by x); same = sym (replace-twice (λ y. atom 0) h.by pattern) ∙ ap (replace (λ y. atom 0)) h.same };
      right = ends;
    }
