-- Laws of flags: what painting, raising, clearing and narrowing them leaves. Assumes nothing.
use mathlib.Core.Path.{◌≡◌, refl, sym, ◌∙◌}
use mathlib.Core.Bool.{Bool, true, false, not, ◌&&◌}
use mathlib.Core.List.{List}
use mathlib.Core.Logic.{◌⊎◌, inl, inr, ◌↔◌}
use Prim.Native.Nat.{ℕ, ◌+◌, ◌<◌, ◌≤◌}
use native.Mathlib.Omega.{arith}
use native.Mathlib.Decide.{ℕ_discrete, dec_le, dec_lt}
use lib.ListN.{length, get_or, set, length-set, replicate, length-replicate, get_or-replicate, get_or-eq_default}
use mathlib.Core.Bool.{Bool-discrete}
use lib.Seq.{get_or-set_same, get_or-set_other}
use Rattle.terms.specs.Decisions.{Says}
use Rattle.terms.proofs.AnswerLaws.{says-yes, says-no}
use Rattle.std.proofs.lemmas.Bool.{and_parts, and_from, not-true}
use Rattle.judge.specs.CoverEntries.{On, Painted, Raised, Cleared}

-- A table of bytes: all are 0 at first, and they stay 0 or 1 where one is written.
pub zero-at : (n k : ℕ) → get_or {A = ℕ} (replicate n 0) k 0 ≡ 0
zero-at n k = go (dec_lt k n)
  where
    go : Dec (k < n) → get_or {A = ℕ} (replicate n 0) k 0 ≡ 0
    go (yes l) = get_or-replicate n k 0 0 l
    go (no m) = get_or-eq_default (replicate n 0) 0 {n = k} (let long : length {A = ℕ} (replicate n 0) ≡ n = length-replicate n 0 in omega arith)

pub bits-set : (flags : List ℕ) (n v : ℕ) → n < length flags → v ≤ 1 → ((k : ℕ) → get_or flags k 0 ≤ 1) → (k : ℕ) → get_or (set flags n v) k 0 ≤ 1
bits-set flags n v inside small b k = go (ℕ_discrete k n)
  where
    go : Dec (k ≡ n) → get_or (set flags n v) k 0 ≤ 1
    go (yes e) = rw e (omega (arith, get_or-set_same flags n v 0 inside))
    go (no ne) = omega (arith, get_or-set_other flags n k v 0 ne, b k)

-- A flag is on or off, and none is on at first.
pub on? : (flags : List Bool) (k : ℕ) → Dec (On flags k)
on? flags k = Bool-discrete (get_or flags k false) true

pub none-at : (k : ℕ) → ¬ On (replicate 64 false) k
none-at k = go (dec_lt k 64)
  where
    go : Dec (k < 64) → ¬ On (replicate 64 false) k
    go (yes l) o = let off = get_or-replicate 64 k false false l in cc
    go (no m) o = let off : get_or (replicate 64 false) k false ≡ false = get_or-eq_default (replicate 64 false) false {n = k} (omega arith) in cc

-- Flags that are painted on are raised.
pub painted-raised : {old new : List Bool} {low high : ℕ} → Painted old new low high true → Raised old new (λ k. (low ≤ k) × (k < high))
painted-raised {old} {new} {low} {high} p = record { long = p.long; on = λ k. (to k (dec_le low k) (dec_lt k high), back k) }
  where
    to : (k : ℕ) → Dec (low ≤ k) → Dec (k < high) → On new k → On old k ⊎ ((low ≤ k) × (k < high))
    to k (yes a) (yes b) e = inr (a, b)
    to k (yes a) (no b) e = inl (sym (p.outside k (λ w. b w.1)) ∙ e)
    to k (no a) d e = inl (sym (p.outside k (λ w. a w.0)) ∙ e)

    old-on : (k : ℕ) → Dec (low ≤ k) → Dec (k < high) → On old k → On new k
    old-on k (yes a) (yes b) e = p.inside k a b
    old-on k (yes a) (no b) e = p.outside k (λ w. b w.1) ∙ e
    old-on k (no a) d e = p.outside k (λ w. a w.0) ∙ e

    back : (k : ℕ) → On old k ⊎ ((low ≤ k) × (k < high)) → On new k
    back k (inl e) = old-on k (dec_le low k) (dec_lt k high) e
    back k (inr w) = p.inside k w.0 w.1

-- Raised by nothing, by the same, and twice.
pub raised-none : {flags : List Bool} {P : ℕ → Type 0} → length flags ≡ 64 → ((k : ℕ) → ¬ P k) → Raised flags flags P
raised-none {flags} {P} long none = record { long = long; on = λ k. (λ e. inl e, back k) }
  where
    back : (k : ℕ) → On flags k ⊎ P k → On flags k
    back k (inl e) = e
    back k (inr h) = absurd (none k h)

pub raised-as : {old new : List Bool} {P Q : ℕ → Type 0} → Raised old new P → ((k : ℕ) → P k ↔ Q k) → Raised old new Q
raised-as {old} {new} {P} {Q} r same = record { long = r.long; on = λ k. (λ e. to k ((r.on k).0 e), λ w. (r.on k).1 (back k w)) }
  where
    to : (k : ℕ) → On old k ⊎ P k → On old k ⊎ Q k
    to k (inl e) = inl e
    to k (inr h) = inr ((same k).0 h)

    back : (k : ℕ) → On old k ⊎ Q k → On old k ⊎ P k
    back k (inl e) = inl e
    back k (inr h) = inr ((same k).1 h)

pub raised-twice : {a b c : List Bool} {P Q : ℕ → Type 0} → Raised a b P → Raised b c Q → Raised a c (λ k. P k ⊎ Q k)
raised-twice {a} {b} {c} {P} {Q} r s = record { long = s.long; on = λ k. (λ e. to k ((s.on k).0 e), λ w. (s.on k).1 (back k w)) }
  where
    first : (k : ℕ) → On a k ⊎ P k → On a k ⊎ (P k ⊎ Q k)
    first k (inl e) = inl e
    first k (inr h) = inr (inl h)

    to : (k : ℕ) → On b k ⊎ Q k → On a k ⊎ (P k ⊎ Q k)
    to k (inl e) = first k ((r.on k).0 e)
    to k (inr h) = inr (inr h)

    back : (k : ℕ) → On a k ⊎ (P k ⊎ Q k) → On b k ⊎ Q k
    back k (inl e) = inl ((r.on k).1 (inl e))
    back k (inr (inl h)) = inl ((r.on k).1 (inr h))
    back k (inr (inr h)) = inr h

-- Put off: nothing; what is off in other flags; by one claim and then by another.
pub cleared-none : {flags : List Bool} {P : ℕ → Type 0} → length flags ≡ 64 → ((k : ℕ) → On flags k → ¬ P k) → Cleared flags flags P
cleared-none long none = record { long = long; kept = λ k o. (o, none k o); gone = λ k o off. absurd (off o) }

pub cleared-as : {old new : List Bool} {P Q : ℕ → Type 0} → Cleared old new P → ((k : ℕ) → P k ↔ Q k) → Cleared old new Q
cleared-as c same = record { long = c.long; kept = λ k o. ((c.kept k o).0, λ q. (c.kept k o).1 ((same k).1 q)); gone = λ k o off. (same k).0 (c.gone k o off) }

pub cleared-twice : {a b c : List Bool} {P Q : ℕ → Type 0} → Cleared a b P → Cleared b c Q → Cleared a c (λ k. P k ⊎ Q k)
cleared-twice {a} {b} {c} {P} {Q} r s = record { long = s.long; kept = kept; gone = λ k o off. gone k o off (on? b k) }
  where
    kept : (k : ℕ) → On c k → On a k × ¬ (P k ⊎ Q k)
    kept k o = let w = s.kept k o in let v = r.kept k w.0 in (v.0, none v w)
      where
        none : (On a k × ¬ P k) → (On b k × ¬ Q k) → ¬ (P k ⊎ Q k)
        none v w (inl h) = v.1 h
        none v w (inr h) = w.1 h

    gone : (k : ℕ) → On a k → ¬ On c k → Dec (On b k) → P k ⊎ Q k
    gone k o off (yes on) = inr (s.gone k on off)
    gone k o off (no n) = inl (r.gone k o n)

-- One flag after the other: those before flag k are put off where the claim holds.
pub record ClearedBelow (old new : List Bool) (P : ℕ → Type 0) (n : ℕ) : Type 0 where
  pub long : length new ≡ 64
  pub before : (k : ℕ) → k < n → On new k → On old k × ¬ P k
  pub gone : (k : ℕ) → k < n → On old k → ¬ On new k → P k
  pub same : (k : ℕ) → n ≤ k → get_or new k false ≡ get_or old k false

-- Flag n is put off where the claim holds of it, and else stays, by the answer of a test.
pub below_more : {old flags : List Bool} {P : ℕ → Type 0} {n : ℕ} {v : Bool} → ClearedBelow old flags P n → n < 64 → (b : Bool) → v ≡ (get_or flags n false && not b)
    → Says b (On old n × P n) → ClearedBelow old (set flags n v) P (n + 1)
below_more {old} {flags} {P} {n} {v} w small b is says = record {
  long = length-set flags n v ∙ w.long;
  before = λ k l o. before k l o (ℕ_discrete k n);
  gone = λ k l o g. gone k l o g (ℕ_discrete k n);
  same = λ k l. get_or-set_other flags n k v false (omega arith) ∙ w.same k (omega arith);
}
  where
    here : get_or (set flags n v) n false ≡ v
    here = get_or-set_same flags n v false (let long = w.long in omega arith)

    stays : v ≡ true → On old n × ¬ P n
    stays one =
        let both = and_parts (get_or flags n false) (not b) (sym is ∙ one) in
        let on : On old n = sym (w.same n (omega arith)) ∙ both.0 in
        (on, λ p. says-no b says (not-true b both.1) (on, p))

    goes : (b : Bool) → Says b (On old n × P n) → v ≡ (get_or flags n false && not b) → On old n → ¬ (v ≡ true) → P n
    goes true says is o g = says.1
    goes false says is o g = absurd (g (is ∙ and_from (get_or flags n false) true (w.same n (omega arith) ∙ o) refl))

    before : (k : ℕ) → k < n + 1 → On (set flags n v) k → Dec (k ≡ n) → On old k × ¬ P k
    before k l o (yes e) = rw e (stays (sym here ∙ rw e at o))
    before k l o (no ne) = w.before k (omega arith) (sym (get_or-set_other flags n k v false ne) ∙ o)

    gone : (k : ℕ) → k < n + 1 → On old k → ¬ On (set flags n v) k → Dec (k ≡ n) → P k
    gone k l o g (yes e) = rw e (goes b says is (rw e at o) (λ one. g (rw e (here ∙ one))))
    gone k l o g (no ne) = w.gone k (omega arith) o (λ on. g (get_or-set_other flags n k v false ne ∙ on))

-- Flags that are on lie within the first 64.
pub on-small : (flags : List Bool) → length flags ≡ 64 → (k : ℕ) → On flags k → k < 64
on-small flags long k o = go (dec_lt k 64)
  where
    go : Dec (k < 64) → k < 64
    go (yes l) = l
    go (no n) = let off : get_or flags k false ≡ false = get_or-eq_default flags false {n = k} (omega arith) in cc

-- What holds is answered yes.
pub yes-says : {P : Type 0} (b : Bool) → Says b P → P → b ≡ true
yes-says true says h = refl
yes-says false says h = absurd (says h)

-- Flags raised one after the other where a claim holds of the first n.
pub record RaisedBelow (flags : List Bool) (P : ℕ → Type 0) (n : ℕ) : Type 0 where
  pub long : length flags ≡ 64
  pub on : (k : ℕ) → On flags k ↔ ((k < n) × P k)

pub raised-start : {P : ℕ → Type 0} → RaisedBelow (replicate 64 false) P 0
raised-start = record { long = refl; on = λ k. (λ o. absurd (none-at k o), λ w. absurd (let l = w.0 in omega arith)) }

-- Over entries of which P does not hold.
pub raised-over : {flags : List Bool} {P : ℕ → Type 0} {m n : ℕ} → RaisedBelow flags P m → m ≤ n → ((k : ℕ) → m ≤ k → k < n → ¬ P k) → RaisedBelow flags P n
raised-over {P = P} {m = m} {n = n} w far none = record {
  long = w.long;
  on = λ k. (λ o. (let v = (w.on k).0 o in let l = v.0 in (omega arith, v.1)), λ h. (w.on k).1 (below k h.0 h.1 (dec_lt k m), h.1));
}
  where
    below : (k : ℕ) → k < n → P k → Dec (k < m) → k < m
    below k l p (yes low) = low
    below k l p (no high) = absurd (none k (omega arith) l p)

pub raised-more : {flags : List Bool} {P : ℕ → Type 0} {n : ℕ} → RaisedBelow flags P n → n < 64 → (b : Bool) → Says b (P n) → RaisedBelow (set flags n b) P (n + 1)
raised-more {flags} {P} {n} w small b says = record {
  long = length-set flags n b ∙ w.long;
  on = λ k. (λ o. to k o (ℕ_discrete k n), λ h. back k h (ℕ_discrete k n));
}
  where
    here : get_or (set flags n b) n false ≡ b
    here = get_or-set_same flags n b false (let long = w.long in omega arith)

    to : (k : ℕ) → On (set flags n b) k → Dec (k ≡ n) → (k < n + 1) × P k
    to k o (yes e) = (omega arith, rw e (says-yes b says (sym here ∙ rw e at o)))
    to k o (no ne) = let h = (w.on k).0 (sym (get_or-set_other flags n k b false ne) ∙ o) in (let l = h.0 in omega arith, h.1)

    back : (k : ℕ) → (k < n + 1) × P k → Dec (k ≡ n) → On (set flags n b) k
    back k h (yes e) = rw e (here ∙ yes-says b says (rw e at h.1))
    back k h (no ne) = get_or-set_other flags n k b false ne ∙ (w.on k).1 (let l = h.0 in omega arith, h.1)

-- One of the first n flags is on in both, as it is found flag by flag.
pub record BothBelow (flags others : List Bool) (n : ℕ) : Type 0 where
  pub number : ℕ
  pub below : number < n
  pub on : On flags number
  pub other : On others number
