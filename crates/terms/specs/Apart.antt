-- What `share?` needs: whether two terms, each with variables of its own, become one message, whatever their variables
-- stand for; asked of them as terms over the variables of both.
use Rattle.std.proofs.Common.{sym, ap, ◌∙◌, inl, inr, ⊎_elim}
use mathlib.Core.HLevel.{Discrete}
use Rattle.std.specs.Prelude.{Bool, ◌⊎◌}
use mathlib.Core.Sum.{inl-injective, inr-injective, inl-ne-inr, inr-ne-inl}
use Rattle.terms.specs.Term.{Term, variable, Message, replace}
use Rattle.terms.specs.Seek.{Becomes}
use Rattle.terms.specs.Occurs.{replace-twice}
use Rattle.terms.specs.Unify.{unify}
use Rattle.terms.specs.Decisions.{Says, says_same, decided}
use Rattle.terms.specs.Solve.{unify-says}

-- Some message is made from both.
pub record Common {X Y : Type 0} (s : Term X) (t : Term Y) : Type 0 where
  pub message : Message
  pub left : Becomes s message
  pub right : Becomes t message

-- Variables of two sides, told apart.
unfoldable pub either? : {X Y : Type 0} → Discrete X → Discrete Y → Discrete (X ⊎ Y)
either? d_x d_y (inl x) (inl y) = elim (d_x x y) [ yes e ↦ yes (ap inl e) | no n ↦ no (λ p. n (inl-injective x y p)) ]
either? d_x d_y (inl x) (inr y) = no inl-ne-inr
either? d_x d_y (inr x) (inl y) = no inr-ne-inl
either? d_x d_y (inr x) (inr y) = elim (d_y x y) [ yes e ↦ yes (ap inr e) | no n ↦ no (λ p. n (inr-injective x y p)) ]

-- A term with its variables on the one side, or on the other.
abbrev pub leftward : {X Y : Type 0} → Term X → Term (X ⊎ Y)
leftward s = replace (λ x. variable (inl x)) s

abbrev pub rightward : {X Y : Type 0} → Term Y → Term (X ⊎ Y)
rightward t = replace (λ y. variable (inr y)) t

-- Whether it is so, computed.
unfoldable pub meet : {X Y : Type 0} → Discrete X → Discrete Y → Term X → Term Y → Bool
unfolding either? replace unify
meet d_x d_y s t = unify (either? d_x d_y) (leftward s) (rightward t)

-- It says truly.
pub meet-says : {X Y : Type 0} (d_x : Discrete X) (d_y : Discrete Y) (s : Term X) (t : Term Y) → Says (meet d_x d_y s t) (Common s t)
unfolding meet replace
meet-says {X} {Y} d_x d_y s t = says_same (meet d_x d_y s t)
    (λ r. record {
      message = replace r.by (leftward s);
      left = record { by = λ x. r.by (inl x); same = sym (replace-twice r.by (λ x. variable (inl x)) s) };
      right = record { by = λ y. r.by (inr y); same = sym (replace-twice r.by (λ y. variable (inr y)) t) ∙ sym r.same };
    })
    (λ r. record {
      by = ⊎_elim r.left.by r.right.by;
      same = replace-twice (⊎_elim r.left.by r.right.by) (λ x. variable (inl x)) s ∙ r.left.same
          ∙ sym (replace-twice (⊎_elim r.left.by r.right.by) (λ y. variable (inr y)) t ∙ r.right.same);
    })
    (unify-says (either? d_x d_y) (leftward s) (rightward t))

unfoldable pub common? : {X Y : Type 0} → Discrete X → Discrete Y → (s : Term X) (t : Term Y) → Dec (Common s t)
unfolding meet
common? d_x d_y s t = decided (meet d_x d_y s t) (meet-says d_x d_y s t)
