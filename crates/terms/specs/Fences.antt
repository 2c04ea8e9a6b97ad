-- What `match?` and `share?` need: a fence around every nonce and every nonce variable. From any replacement between fenced
-- terms comes one that puts nonces (`unfenced_by`), and the other way round (`fenced_by`), as what stands in a fence meets only
-- what stands in one. A fence is an encryption under key 0, and all other keys are one higher.
use Rattle.std.proofs.Math.Path.{◌≡◌, refl, ap, ap₂}
use Rattle.std.specs.Prelude.{List}
use Prim.Native.Nat.{zero, suc}
use Rattle.std.proofs.Common.{arith}
use Rattle.terms.specs.declared.atom.Atom.{Atom}
use Rattle.terms.specs.Atom.{Nonce, foreign_nonce, nonce?}
use Rattle.terms.specs.Term.{Term, variable, atom, pair, wrapped, encrypted, Variable, Range, any_message, one_nonce, range_of, replace}
use Rattle.terms.specs.Instance.{NonceTerm, PutsNonces}

-- A variable of this range, fenced.
abbrev fence_by : {Y : Type 0} → Range → Y → Term Y
fence_by any_message y = variable y
fence_by one_nonce y = encrypted 0 (variable y)

-- What is put for a variable inside a fence: itself if it is a nonce variable, and else a foreign nonce.
abbrev inside_by : {Y : Type 0} → Range → Y → Term Y
inside_by any_message y = atom 1000
inside_by one_nonce y = variable y

module _ (atoms : List Atom) {Y : Type 0} (range : Y → Range) where
  unfoldable pub fenced : Term Y → Term Y
  unfolding nonce?
  fenced (variable y) = fence_by (range y) y
  fenced (atom a) = elim (nonce? atoms a) [ yes is ↦ encrypted 0 (atom a) | no off ↦ atom a ]
  fenced (pair t u) = pair (fenced t) (fenced u)
  fenced (wrapped w k t) = wrapped w (suc k) (fenced t)

  -- What stands in a fence, made a nonce atom or a nonce variable if it is none.
  unfoldable pub inside : Term Y → Term Y
  unfolding nonce?
  inside (variable y) = inside_by (range y) y
  inside (atom a) = elim (nonce? atoms a) [ yes is ↦ atom a | no off ↦ atom 1000 ]
  inside (pair t u) = atom 1000
  inside (wrapped w k t) = atom 1000

  -- The term without its fences.
  unfoldable pub unfenced : Term Y → Term Y
  unfolding inside
  unfenced (variable y) = variable y
  unfenced (atom a) = atom a
  unfenced (pair t u) = pair (unfenced t) (unfenced u)
  unfenced (wrapped w zero t) = inside t
  unfenced (wrapped w (suc k) t) = wrapped w k (unfenced t)

  foreign : Nonce atoms 1000
  foreign = foreign_nonce (omega arith)

  inside-nonce : (t : Term Y) → NonceTerm atoms range (inside t)
  unfolding NonceTerm inside
  inside-nonce (variable y) = go (range y) refl
    where
      go : (r : Range) → range y ≡ r → NonceTerm atoms range (inside_by r y)
      go any_message is = foreign
      go one_nonce is = is
  inside-nonce (atom a) = go (nonce? atoms a)
    where
      go : (q : Dec (Nonce atoms a)) → NonceTerm atoms range (elim q [ yes is ↦ atom a | no off ↦ atom 1000 ])
      go (yes is) = is
      go (no off) = foreign
  inside-nonce (pair t u) = foreign
  inside-nonce (wrapped w k t) = foreign

  -- A nonce, fenced.
  fence-nonce : (t : Term Y) → NonceTerm atoms range t → fenced t ≡ encrypted 0 t
  unfolding NonceTerm fenced
  fence-nonce (variable y) is = rw is
  fence-nonce (atom a) is = go (nonce? atoms a)
    where
      go : (q : Dec (Nonce atoms a)) → ◌≡◌ {A = Term Y} (elim q [ yes is ↦ encrypted 0 (atom a) | no off ↦ atom a ]) (encrypted 0 (atom a))
      go (yes p) = refl
      go (no off) = absurd (off is)
  fence-nonce (pair t u) is = absurd is
  fence-nonce (wrapped w k t) is = absurd is

  -- And taken out again.
  out-of-fence : (t : Term Y) → NonceTerm atoms range t → inside t ≡ t
  unfolding NonceTerm inside
  out-of-fence (variable y) is = rw is
  out-of-fence (atom a) is = go (nonce? atoms a)
    where
      go : (q : Dec (Nonce atoms a)) → ◌≡◌ {A = Term Y} (elim q [ yes is ↦ atom a | no off ↦ atom 1000 ]) (atom a)
      go (yes p) = refl
      go (no off) = absurd (off is)
  out-of-fence (pair t u) is = absurd is
  out-of-fence (wrapped w k t) is = absurd is

  pub unfence_fenced : (t : Term Y) → unfenced (fenced t) ≡ t
  unfolding fenced unfenced inside NonceTerm
  unfence_fenced (variable y) = go (range y) refl
    where
      go : (r : Range) → range y ≡ r → unfenced (fence_by r y) ≡ variable y
      go any_message is = refl
      go one_nonce is = rw is
  unfence_fenced (atom a) = go (nonce? atoms a)
    where
      go : (q : Dec (Nonce atoms a)) → unfenced (elim q [ yes is ↦ encrypted 0 (atom a) | no off ↦ atom a ]) ≡ atom a
      go (yes is) = out-of-fence (atom a) is
      go (no off) = refl
  unfence_fenced (pair t u) = ap₂ pair (unfence_fenced t) (unfence_fenced u)
  unfence_fenced (wrapped w k t) = ap (wrapped w k) (unfence_fenced t)

  -- A replacement between fenced terms, from one that puts nonces; and back from any.
  abbrev enter_by : Range → Term Y → Term Y
  enter_by any_message t = fenced t
  enter_by one_nonce t = t

  abbrev pub fenced_by : (Variable → Term Y) → Variable → Term Y
  fenced_by by x = enter_by (range_of x) (by x)

  abbrev leave_by : Range → Term Y → Term Y
  leave_by any_message t = unfenced t
  leave_by one_nonce t = inside t

  abbrev pub unfenced_by : (Variable → Term Y) → Variable → Term Y
  unfenced_by by x = leave_by (range_of x) (by x)

  -- What comes out puts nonces.
  pub unfenced_nonces : (by : Variable → Term Y) → PutsNonces atoms range (unfenced_by by)
  unfenced_nonces by x is = rw is (inside-nonce (by x))

-- The fences of a replaced term, and the replaced term without its fences.
module _ (atoms : List Atom) {Y : Type 0} (range : Y → Range) (by : Variable → Term Y) where
  pub fence_replaced : PutsNonces atoms range by → (p : Term Variable)
      → fenced atoms range (replace by p) ≡ replace (fenced_by atoms range by) (fenced atoms range_of p)
  unfolding fenced replace
  fence_replaced nonces (variable x) = go (range_of x) refl
    where
      go : (r : Range) → range_of x ≡ r → fenced atoms range (by x) ≡ replace (fenced_by atoms range by) (fence_by r x)
      go any_message is = rw is
      go one_nonce is = rw is (fence-nonce atoms range (by x) (nonces x is))
  fence_replaced nonces (atom a) = go (nonce? atoms a)
    where
      go : (q : Dec (Nonce atoms a)) → ◌≡◌ {A = Term Y} (elim q [ yes is ↦ encrypted 0 (atom a) | no off ↦ atom a ])
          (replace (fenced_by atoms range by) (elim q [ yes is ↦ encrypted 0 (atom a) | no off ↦ atom a ]))
      go (yes is) = refl
      go (no off) = refl
  fence_replaced nonces (pair t u) = ap₂ pair (fence_replaced nonces t) (fence_replaced nonces u)
  fence_replaced nonces (wrapped w k t) = ap (wrapped w (suc k)) (fence_replaced nonces t)

  pub unfence_replaced : (p : Term Variable) → unfenced atoms range (replace by (fenced atoms range_of p)) ≡ replace (unfenced_by atoms range by) p
  unfolding fenced unfenced replace inside NonceTerm
  unfence_replaced (variable x) = go (range_of x)
    where
      go : (r : Range) → unfenced atoms range (replace by (fence_by r x)) ≡ leave_by atoms range r (by x)
      go any_message = refl
      go one_nonce = refl
  unfence_replaced (atom a) = go (nonce? atoms a)
    where
      go : (q : Dec (Nonce atoms a)) → unfenced atoms range (replace by (elim q [ yes is ↦ encrypted 0 (atom a) | no off ↦ atom a ])) ≡ atom a
      go (yes is) = out-of-fence atoms range (atom a) is
      go (no off) = refl
  unfence_replaced (pair t u) = ap₂ pair (unfence_replaced t) (unfence_replaced u)
  unfence_replaced (wrapped w k t) = ap (wrapped w k) (unfence_replaced t)
