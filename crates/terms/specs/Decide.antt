-- What is decided of terms: that they are the same, that a pattern matches, that two terms share an instance. Each is
-- decided as its meaning, so a yes comes with the replacements and a no with a proof that there are none.
-- To compute: `unfolding match? share? term? variable?`.
use Rattle.std.specs.Prelude.{◌≡◌, refl, Bool, true, false, List}
use Rattle.std.proofs.Common.{sym, ap, ◌∙◌}
use mathlib.Core.HLevel.{Discrete}
use Rattle.std.proofs.Math.Decide.{ℕ_discrete}
use Rattle.terms.specs.declared.atom.Atom.{Atom}
use Rattle.terms.specs.Term.{Term, Term-discrete, Wrapping-discrete, Marking-discrete, Range-discrete, Sort-discrete, Variable, Variable-discrete, range_of, no_variable, Range, replace}
use Rattle.terms.specs.Instance.{Replaced, Matches, Share}
use Rattle.terms.specs.Seek.{Becomes, found, found-is}
use Rattle.terms.specs.Apart.{common?}
use Rattle.terms.specs.Fences.{fenced, unfenced, unfence_fenced, fenced_by, unfenced_by, unfenced_nonces, fence_replaced, unfence_replaced}
use Rattle.terms.specs.Decisions.{dec_map}

-- The answer of a decision.
abbrev pub answer : {P : Type 0} → Dec P → Bool
answer (yes p) = true
answer (no n) = false

-- Are two variables of a file the same?
unfoldable pub variable? : Discrete Variable
unfolding ℕ_discrete
variable? = Variable-discrete (Sort-discrete Marking-discrete Range-discrete) ℕ_discrete

-- Are two terms the same?
unfoldable pub term? : {X : Type 0} → Discrete X → Discrete (Term X)
unfolding ℕ_discrete
term? d = Term-discrete d ℕ_discrete Wrapping-discrete

-- Is the term the pattern with its variables replaced by terms, whatever they stand for?
becomes? : {X Y : Type 0} → Discrete X → Discrete Y → (p : Term X) (t : Term Y) → Dec (Becomes p t)
unfolding ℕ_discrete replace found term?
becomes? d_x d_y p t = elim (term? d_y (replace (found d_x p t) p) t) [
  | yes e ↦ yes (record { by = found d_x p t; same = e })
  | no n ↦ no (λ m. n (found-is d_x p t m))
]

module _ (atoms : List Atom) {Y : Type 0} (range : Y → Range) {p : Term Variable} {t : Term Y} where
  -- A pattern becomes a term just where it does so between fences.
  pub into_fences : Replaced atoms range p t → Becomes (fenced atoms range_of p) (fenced atoms range t)
  into_fences m = record {
    by = fenced_by atoms range m.by;
    same = sym (fence_replaced atoms range m.by m.nonces p) ∙ ap (fenced atoms range) m.same;
  }

  pub out_of_fences : {u : Term Y} → unfenced atoms range u ≡ t → Becomes (fenced atoms range_of p) u → Replaced atoms range p t
  out_of_fences is b = record {
    by = unfenced_by atoms range b.by;
    nonces = unfenced_nonces atoms range b.by;
    same = sym (unfence_replaced atoms range b.by p) ∙ ap (unfenced atoms range) b.same ∙ is;
  }

-- Is the term the pattern with its variables replaced by terms?
unfoldable pub match? : (atoms : List Atom) (p t : Term Variable) → Dec (Matches atoms p t)
unfolding dec_map becomes? variable? fenced range_of
match? atoms p t =
    dec_map (out_of_fences atoms range_of (unfence_fenced atoms range_of t)) (into_fences atoms range_of)
    (becomes? variable? variable? (fenced atoms range_of p) (fenced atoms range_of t))

-- Do two terms, each with variables of its own, share an instance?
unfoldable pub share? : (atoms : List Atom) (s t : Term Variable) → Dec (Share atoms s t)
unfolding dec_map common? variable? fenced range_of
share? atoms s t =
    dec_map (λ c. record {
      message = unfenced atoms no_variable c.message;
      left = out_of_fences atoms no_variable refl c.left;
      right = out_of_fences atoms no_variable refl c.right;
    })
    (λ h. record {
      message = fenced atoms no_variable h.message;
      left = into_fences atoms no_variable h.left;
      right = into_fences atoms no_variable h.right;
    })
    (common? variable? variable? (fenced atoms range_of s) (fenced atoms range_of t))
