-- Laws of the names of classes: following the links, linking one name to another, counting the classes.
use mathlib.Core.Path.{◌≡◌, refl, sym, ap, ◌∙◌, subst, fun_ext}
use mathlib.Core.List.{List, [], ◌∷◌}
use mathlib.Core.Logic.{inl, inr, ⊎_elim}
use Prim.Native.Nat.{ℕ, zero, suc, ◌+◌, ◌<◌, ◌≤◌}
use native.Mathlib.Omega.{arith}
use native.Mathlib.Decide.{ℕ_discrete, dec_lt}
use lib.ListN.{length, get_or, set, length-set, get_or-eq_default}
use lib.Seq.{get_or-set_same, get_or-set_other}
use borrow.Author.Tests.{eq-eqb, ne_eqb}
use Rattle.terms.specs.Graph.{Classes}
use Rattle.terms.specs.TermGraph.{all_nodes, node_of, AtHome}
use Rattle.terms.specs.Names.{link_of, links_on, name_of, Linked, count_from, class_count}
use Rattle.terms.proofs.GraphLaws.{rename, rename-hit, rename-miss, merge}
use Rattle.terms.proofs.NodeLaws.{symbol_low, home-symbol}

-- What stands in the array, whatever is read past its end.
get_d_any : (c : List ℕ) (i d d' : ℕ) → i < length c → get_or c i d ≡ get_or c i d'
get_d_any [] i d d' h = absurd (omega arith)
get_d_any (x ∷ c) zero d d' h = refl
get_d_any (x ∷ c) (suc i) d d' h = get_d_any c i d d' (omega arith)

past-link : (c : List ℕ) (i : ℕ) → length c ≤ i → link_of c i ≡ i
past-link c i h = get_or-eq_default c i h

-- ---- following the links

-- From a node that leads to itself no link leads away.
after-own : (n : ℕ) (c : List ℕ) (i : ℕ) → link_of c i ≡ i → links_on n c i ≡ i
unfolding links_on
after-own zero c i e = refl
after-own (suc n) c i e = ap (links_on n c) e ∙ after-own n c i e

name-own : (c : List ℕ) (i : ℕ) → link_of c i ≡ i → name_of c i ≡ i
unfolding name_of
name-own c i e = after-own all_nodes c i e

-- A node that stands at its own place in the array names its class.
pub own_name : (c : List ℕ) (i : ℕ) → i < length c → get_or c i 0 ≡ i → name_of c i ≡ i
own_name c i inside own = name-own c i (get_d_any c i i 0 inside ∙ own)

-- Node k is on the way from node i to its class's name, with n links at most left to follow.
pub record WayToName (c : List ℕ) (i n k : ℕ) : Type 0 where
  pub leads : links_on n c k ≡ name_of c i

pub way-starts : (c : List ℕ) (i : ℕ) → WayToName c i all_nodes i
unfolding name_of
way-starts c i = record { leads = refl }

pub way-ends : {c : List ℕ} {i n k : ℕ} → WayToName c i n k → n ≡ 0 → k ≡ name_of c i
unfolding links_on
way-ends {c} {i} {n} {k} way none = (rw none at way.leads)

module _ {c : List ℕ} {i n k x : ℕ} (way : WayToName c i n k) (inside : k < length c) (read : x ≡ get_or c k 0) where
  link-read : link_of c k ≡ x
  link-read = get_d_any c k k 0 inside ∙ sym read

  pub way-arrives : x ≡ k → k ≡ name_of c i
  way-arrives own = sym (after-own n c k (link-read ∙ own)) ∙ way.leads

  pub way-goes-on : {m : ℕ} → n ≡ suc m → WayToName c i m x
  unfolding links_on
  way-goes-on {m} some = record { leads = ap (links_on m c) (sym link-read) ∙ (rw some at way.leads) }

-- ---- names

module _ {s t c : List ℕ} (linked : Linked s t c) where
  after-stays : (n i : ℕ) → i ≤ n → link_of c (links_on n c i) ≡ links_on n c i
  unfolding links_on
  after-stays zero i h = ⊎_elim (λ own. own) (λ low. absurd (omega (arith, low.0))) (linked.falls i)
  after-stays (suc n) i h = ⊎_elim
      (λ own. subst (λ (k : ℕ). link_of c k ≡ k) (sym (after-own (suc n) c i own)) own) (λ low. after-stays n (link_of c i) (omega (arith, low.0))) (linked.falls i)

  after-low : (n i : ℕ) → links_on n c i ≤ i
  unfolding links_on
  after-low zero i = omega arith
  after-low (suc n) i =
      let rest = after-low n (link_of c i) in
      ⊎_elim (λ own. omega arith) (λ low. omega (arith, low.0)) (linked.falls i)

  after-home : (n i : ℕ) → AtHome s t i → AtHome s t (links_on n c i)
  unfolding links_on
  after-home zero i h = h
  after-home (suc n) i h = after-home n (link_of c i) (⊎_elim (λ own. rw own h) (λ low. low.1) (linked.falls i))

  -- A name leads to itself.
  name-leads : (i : ℕ) → link_of c (name_of c i) ≡ name_of c i
  unfolding name_of
  name-leads i = elim (dec_lt i all_nodes) [
    | yes l ↦ after-stays all_nodes i (omega arith)
    | no n ↦
        let own = past-link c i (omega (arith, linked.long)) in
        subst (λ (k : ℕ). link_of c k ≡ k) (sym (after-own all_nodes c i own)) own
  ]

  own-link : (i : ℕ) → name_of c i ≡ i → link_of c i ≡ i
  own-link i named = subst (λ (k : ℕ). link_of c k ≡ k) named (name-leads i)

  -- It names itself, is no higher than any node of its class, and is at home where one is.
  pub name-named : (i : ℕ) → name_of c (name_of c i) ≡ name_of c i
  name-named i = name-own c (name_of c i) (name-leads i)

  pub name-low : (i : ℕ) → name_of c i ≤ i
  unfolding name_of
  name-low i = after-low all_nodes i

  pub name-home : (i : ℕ) → AtHome s t i → AtHome s t (name_of c i)
  unfolding name_of
  name-home i h = after-home all_nodes i h

  pub classes-of : Classes (node_of s t) (name_of c)
  classes-of = record {
    named = name-named;
    kept = λ i is.
        let low = symbol_low s t {i = i} is in
        let below = name-low i in
        home-symbol (name-home i (record { small = omega arith; is = inr is })) (omega arith);
  }

-- ---- linking one name to another

module _ {s t c : List ℕ} {a b : ℕ} (linked : Linked s t c) (first : AtHome s t a) (second : AtHome s t b) (a-named : name_of c a ≡ a) (b-named : name_of c b ≡ b)
    (above : b < a) where
  a-inside : a < length c
  a-inside = omega (arith, first.small, linked.long)

  new-link : link_of (set c a b) a ≡ b
  new-link = get_or-set_same c a b a a-inside

  old-link : (i : ℕ) → (i ≡ a → ⊥) → link_of (set c a b) i ≡ link_of c i
  old-link i off = get_or-set_other c a i b i off

  pub joined-linked : Linked s t (set c a b)
  joined-linked = record {
    long = length-set c a b ∙ linked.long;
    falls = λ i. elim (ℕ_discrete i a) [
      | yes e ↦ rw e (inr (rw new-link (above, second)))
      | no off ↦ rw (old-link i off) (linked.falls i)
    ];
  }

  b-stays : link_of (set c a b) b ≡ b
  b-stays = old-link b (omega arith) ∙ own-link linked b b-named

  after-joined : (n i : ℕ) → i ≤ n → links_on n (set c a b) i ≡ rename a b (links_on n c i)
  unfolding links_on
  after-joined zero i h = sym (rename-miss b (omega arith))
  after-joined (suc n) i h = elim (ℕ_discrete i a) [
    | yes e ↦
        rw e (ap (links_on n (set c a b)) new-link ∙ after-own n (set c a b) b b-stays
        ∙ sym (rename-hit (after-own (suc n) c a (own-link linked a a-named))))
    | no off ↦ ⊎_elim
        (λ own. after-own (suc n) (set c a b) i (old-link i off ∙ own) ∙ sym (ap (rename a b) (after-own (suc n) c i own) ∙ rename-miss b off))
        (λ low. ap (links_on n (set c a b)) (old-link i off) ∙ after-joined n (link_of c i) (omega (arith, low.0))) (linked.falls i)
  ]

  pub joined-names : merge a b (name_of c) ≡ name_of (set c a b)
  unfolding name_of
  joined-names = fun_ext (λ i. elim (dec_lt i all_nodes) [
    | yes l ↦ sym (after-joined all_nodes i (omega arith))
    | no n ↦
        let off : (i ≡ a → ⊥) = λ e. omega (arith, first.small) in
        let own : link_of c i ≡ i = past-link c i (omega (arith, linked.long)) in
        ap (rename a b) (after-own all_nodes c i own) ∙ rename-miss b off ∙ sym (after-own all_nodes (set c a b) i (old-link i off ∙ own))
  ])

-- ---- the number of classes

count_less : (i : ℕ) (c : List ℕ) (k b : ℕ) → k < length c → get_or c k 0 ≡ i + k → b < i + k → count_from i (set c k b) < count_from i c
unfolding count_from
count_less i [] k b h is low = absurd (omega arith)
count_less i (x ∷ c) zero b h is low =
    let here : x ≡ i = is ∙ omega arith in
    rw (eq-eqb x i here, ne_eqb b i (omega arith)) (omega arith)
count_less i (x ∷ c) (suc k) b h is low =
    let rest = count_less (suc i) c k b (omega arith) (is ∙ omega arith) (omega arith) in
    omega arith

-- One class less.
pub joined-fewer : {s t c : List ℕ} {a b : ℕ} → Linked s t c → AtHome s t a → name_of c a ≡ a → b < a → class_count (set c a b) < class_count c
unfolding class_count
joined-fewer {c = c} {a = a} {b = b} linked first named above =
    let inside : a < length c = omega (arith, first.small, linked.long) in
    count_less 0 c a b inside (get_d_any c a 0 a inside ∙ own-link linked a named ∙ omega arith) (omega arith)

-- ---- every node a class by itself

module _ (c : List ℕ) (long : length c ≡ all_nodes) (own : (i : ℕ) → i < all_nodes → get_or c i 0 ≡ i) where
  alone-link : (i : ℕ) → link_of c i ≡ i
  alone-link i = elim (dec_lt i all_nodes) [
    | yes l ↦ get_d_any c i i 0 (omega arith) ∙ own i l
    | no n ↦ past-link c i (omega arith)
  ]

  pub names-alone : name_of c ≡ (λ i. i)
  names-alone = fun_ext (λ i. name-own c i (alone-link i))

pub alone-linked : (s t c : List ℕ) → length c ≡ all_nodes → ((i : ℕ) → i < all_nodes → get_or c i 0 ≡ i) → Linked s t c
alone-linked s t c long own = record { long = long; falls = λ i. inl (alone-link c long own i) }

-- One turn of the loop that makes every node lead to itself.
pub stored : (c : List ℕ) (k : ℕ) → k < length c → ((i : ℕ) → i < k → get_or c i 0 ≡ i) → (i : ℕ) → i < k + 1 → get_or (set c k k) i 0 ≡ i
stored c k inside own i h = elim (ℕ_discrete i k) [
  | yes e ↦ rw e (get_or-set_same c k k 0 inside)
  | no off ↦ get_or-set_other c k i k 0 off ∙ own i (omega arith)
]
