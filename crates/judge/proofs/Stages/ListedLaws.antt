-- Laws of specs/Listed.antt: what a listed term says of hats and cover, for any certificate. Assumes nothing.
use mathlib.Core.Path.{◌≡◌, refl, sym, ap, subst, ◌∙◌}
use mathlib.Core.Logic.{◌⊎◌, inl, inr, ◌↔◌}
use mathlib.Core.List.Memᴰ
use mathlib.Core.List.{List}
use Rattle.blocks.specs.Kinds.{secret_kind}
use Rattle.terms.specs.Term.{Term, Message, Variable, variable, atom, replace, as_term}
use Rattle.terms.specs.declared.atom.Atom.{Atom}
use Rattle.terms.specs.Instance.{Share}
use Rattle.terms.proofs.InstanceLaws.{replace-as_term}
use Rattle.judge.specs.Certificate.{Certificate, Secret}
use Rattle.judge.specs.Cover.{Risky, is_variable, shares_secret}
use Rattle.judge.specs.Listed.{listed_of, SharesListed, IsSecret}

-- Sharing is symmetric.
pub share-sym : {atoms : List Atom} {s t : Term Variable} → Share atoms s t → Share atoms t s
share-sym h = record { message = h.message; left = h.right; right = h.left }

-- Different messages read as different terms.
pub as_term-only : {m n : Message} → as_term {X = Variable} m ≡ as_term n → m ≡ n
as_term-only {m} {n} e = sym (replace-as_term (λ x. atom 0) m) ∙ ap (replace (λ x. atom 0)) e ∙ replace-as_term (λ x. atom 0) n

module _ (c : Certificate) where
  -- A term is a listed secret if it is that of a listed message.
  pub secret-term : (t : Term Variable) → IsSecret c t ↔ ((m : Message) × Secret c m × (t ≡ as_term m))
  unfolding listed_of
  secret-term t = (
    λ h. (let o = Memᴰ.of_map as_term c.secrets h.listed in (o.0, o.1, sym (o.2 ∙ h.holds))),
    λ w. record { term = as_term w.0; listed = Memᴰ.map as_term w.1; holds = sym w.2 },
  )

  pub secret-is : (m : Message) → IsSecret c (as_term m) ↔ Secret c m
  secret-is m = (
    λ h. (let w = (secret-term (as_term m)).0 h in Memᴰ.cast (as_term-only w.2) w.1),
    λ s. (secret-term (as_term m)).1 (m, s, refl),
  )

  module _ (t : Term Variable) where
    -- A variable, or a term that shares an instance with a listed secret.
    pub risky-is : Risky c t ↔ (((x : Variable) × (t ≡ variable x)) ⊎ SharesListed c secret_kind t)
    unfolding listed_of
    risky-is = (to, back)
      where
        to : Risky c t → ((x : Variable) × (t ≡ variable x)) ⊎ SharesListed c secret_kind t
        to (is_variable {x} e) = inl (x, e)
        to (shares_secret {secret} l s) = inr (record { term = as_term secret; listed = Memᴰ.map as_term l; holds = share-sym s })

        back : ((x : Variable) × (t ≡ variable x)) ⊎ SharesListed c secret_kind t → Risky c t
        back (inl w) = is_variable w.1
        back (inr h) =
            let o = Memᴰ.of_map as_term c.secrets h.listed in
            shares_secret o.1 (share-sym (subst (λ (p : Term Variable). Share c.atoms p t) (sym o.2) h.holds))
