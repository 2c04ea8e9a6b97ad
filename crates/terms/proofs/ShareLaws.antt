-- Two terms share an instance if and only if their graph has a valid valuation that gives the noted entries' nodes equal
-- messages, two and two.
use mathlib.Core.Path.{◌≡◌, refl, sym, ap, ◌∙◌, subst, fun_ext}
use mathlib.Core.Bool.{Bool, true, false}
use mathlib.Core.List.{List}
use Prim.Native.Nat.{ℕ, ◌+◌, ◌*◌, ◌-◌, ◌<◌, ◌≤◌}
use native.Mathlib.Omega.{arith}
use native.Mathlib.Decide.{ℕ_discrete}
use native.Mathlib.Nat.{zero-add}
use lib.Dec.{ltb}
use lib.ListN.{length, drop}
use borrow.Author.Tests.{lt-ltb, le-ltb, ltb-true, ltb-false}
use borrow.Author.Rules.{part_to_end}
use Rattle.blocks.specs.Limits.{most_term_bytes}
use Rattle.terms.specs.declared.atom.Atom.{Atom}
use Rattle.terms.specs.Atom.{foreign_nonce}
use Rattle.terms.specs.Term.{Term, atom, Message, Sort, Variable, named, no_variable, replace, as_term}
use Rattle.terms.specs.Instance.{NonceTerm, PutsNonces, Share}
use Rattle.terms.specs.Apart.{Common}
use Rattle.terms.specs.Tag.{variables}
use Rattle.terms.specs.Entry.{term_of, Begins, from}
use Rattle.terms.specs.Decisions.{pick, Says}
use Rattle.terms.specs.Occurs.{replace-twice, replace-none}
use Rattle.terms.specs.Decide.{answer, share?}
use Rattle.terms.specs.Slot.{slot_count, any_slots, slot_in, slot_of, in_slot}
use Rattle.terms.specs.Graph.{Node, free, atom_node, pair_node, wrapper_node, IsSymbol, NonceNode, made, Valid, Respects, Classes, ClassStep, Clash, Outcome, Finite, Any}
use Rattle.terms.specs.TermGraph.{right_nodes, variable_nodes, right_variables, home, node_by, region, node_tag, node_of, TwoTerms}
use Rattle.terms.specs.declared.sharing.Beside.{Beside}
use Rattle.terms.specs.Meetings.{left_noted, right_noted, Reduced, AllEqual, NoncesKept}
use Rattle.terms.proofs.AnswerLaws.{says-answer}
use Rattle.terms.proofs.EntryLaws.{term_of-reads, suffix}
use Rattle.terms.proofs.SlotLaws.{slot_small, slot-in, nonce-slot, high-slot}
use Rattle.terms.proofs.RunLaws.{common-alike}
use Rattle.terms.proofs.InstanceLaws.{common}
use Rattle.terms.proofs.GraphLaws.{stay, both, second-clash, restate, restate-clash, Valued, valued}
use Rattle.terms.proofs.TermGraphLaws.{values, home-value, side-makes, left-side, right_side}

-- What a valuation puts for the variables from slots on; a foreign nonce for those that no entry has.
abbrev read : (ℕ → Message) → ℕ → Variable → Message
read v slots (named s x) = pick (ltb x variables) (v (slots + slot_in s x)) (atom 1000)

-- The valuation of two replacements.
abbrev given : List ℕ → List ℕ → (Variable → Message) → (Variable → Message) → ℕ → Message
given s t f g i =
    region i (replace f (term_of (drop (4 * i) s))) (replace g (term_of (drop (4 * (i - right_nodes)) t)))
    (pick (ltb i right_variables) (f (in_slot (i - variable_nodes))) (g (in_slot (i - right_variables))))

-- Nonces for the nonce variables.
abbrev NoncesAt : List Atom → (ℕ → Message) → ℕ → Type 0
NoncesAt atoms v slots = (k : ℕ) → any_slots ≤ k → k < slot_count → NonceTerm atoms no_variable (v (slots + k))

read_small : (v : ℕ → Message) (slots : ℕ) (s : Sort) (x : ℕ) → x < variables → v (slots + slot_in s x) ≡ read v slots (named s x)
read_small v slots s x low = simp (lt-ltb x variables low)

read-nonces : (atoms : List Atom) (v : ℕ → Message) (slots : ℕ) → NoncesAt atoms v slots → PutsNonces atoms no_variable (read v slots)
unfolding NonceTerm slot_of
read-nonces atoms v slots nonces (named s x) is = go (ltb x variables) refl
  where
    go : (b : Bool) → ltb x variables ≡ b → NonceTerm atoms no_variable (pick b (v (slots + slot_in s x)) (atom 1000))
    go true q = nonces (slot_in s x) (nonce-slot (named s x) is) (slot_small s (ltb-true x variables q))
    go false q = foreign_nonce (omega arith)

-- A node that may be in the class of a nonce variable makes a nonce, and the other way round.
made-nonce : (atoms : List Atom) (v : ℕ → Message) (n : Node) → NonceNode atoms n → NonceTerm atoms no_variable (made v n)
unfolding NonceTerm made
made-nonce atoms v free is = foreign_nonce (omega arith)
made-nonce atoms v (atom_node a) is = is
made-nonce atoms v (pair_node l r) is = is
made-nonce atoms v (wrapper_node w k c) is = is

nonce-made : (atoms : List Atom) (v : ℕ → Message) (n : Node) → (IsSymbol n → NonceTerm atoms no_variable (made v n)) → NonceNode atoms n
unfolding NonceTerm made
nonce-made atoms v free is = tt
nonce-made atoms v (atom_node a) is = is tt
nonce-made atoms v (pair_node l r) is = is tt
nonce-made atoms v (wrapper_node w k c) is = is tt

-- A message read as a term, and back.
unread : (m : Message) → replace (λ (x : Variable). atom 0) (as_term m) ≡ m
unfolding as_term
unread m = replace-twice (λ (x : Variable). atom 0) (λ x. absurd x) m ∙ ap (λ (f : ⊥ → Message). replace f m) (fun_ext (λ x. absurd x)) ∙ replace-none m

grounded : (f : Variable → Message) (t : Term Variable) → replace (λ (x : Variable). atom 0) (replace (λ x. as_term (f x)) t) ≡ replace f t
grounded f t =
    replace-twice (λ (x : Variable). atom 0) (λ x. as_term (f x)) t
    ∙ ap (λ (g : Variable → Message). replace g t) (fun_ext (λ x. unread (f x)))

lifted : (f : Variable → Message) (t : Term Variable) → replace {Y = Variable} (λ x. as_term (f x)) t ≡ as_term (replace f t)
unfolding as_term
lifted f t = sym (replace-twice (λ x. absurd x) f t)

-- Replacements by messages make terms the same just where they do, read as terms.
equal-up : (f g : Variable → Message) (t u : Term Variable) → replace f t ≡ replace g u
    → replace {Y = Variable} (λ x. as_term (f x)) t ≡ replace (λ x. as_term (g x)) u
equal-up f g t u h = lifted f t ∙ ap as_term h ∙ sym (lifted g u)

equal-down : (f g : Variable → Message) (t u : Term Variable) → replace {Y = Variable} (λ x. as_term (f x)) t ≡ replace (λ x. as_term (g x)) u
    → replace f t ≡ replace g u
equal-down f g t u h = sym (grounded f t) ∙ ap (replace (λ (x : Variable). atom 0)) h ∙ grounded g u

module _ (s t : List ℕ) (bs : Begins s) (bt : Begins t) (ss : length s ≤ most_term_bytes) (st : length t ≤ most_term_bytes) where
  -- What a valid valuation gives an entry's node: the instance of the term that stands there.
  module _ {v : ℕ → Message} (valid : Valid (node_of s t) v) where
    left-value : (k : ℕ) → 4 * (k + 1) ≤ length s → v (home s 0 variable_nodes k) ≡ replace (read v variable_nodes) (term_of (from (4 * k) s))
    left-value k h =
        let b = suffix k bs (omega arith) in
        values (node_of s t) s 0 variable_nodes ss (left-side s t) v (read v variable_nodes) (read_small v variable_nodes) valid b.term k (omega arith) b.reads
        ∙ ap (replace (read v variable_nodes)) (sym (rw part_to_end (term_of-reads b.reads)))

    right-value : (k : ℕ) → 4 * (k + 1) ≤ length t → v (home t right_nodes right_variables k) ≡ replace (read v right_variables) (term_of (from (4 * k) t))
    right-value k h =
        let b = suffix k bt (omega arith) in
        values (node_of s t) t right_nodes right_variables st (right_side s t) v (read v right_variables) (read_small v right_variables) valid b.term k (omega arith) b.reads
        ∙ ap (replace (read v right_variables)) (sym (rw part_to_end (term_of-reads b.reads)))

  -- The valuation of two replacements is valid, and gives an entry's node the instance of the term that stands there.
  module _ (f g : Variable → Message) where
    given-left : (k : ℕ) → k < right_nodes → given s t f g (0 + k) ≡ replace f (term_of (drop (4 * k) s))
    given-left k h = rw zero-add (simp (lt-ltb k right_nodes h))

    given-right : (k : ℕ) → k < right_nodes → given s t f g (right_nodes + k) ≡ replace g (term_of (drop (4 * k) t))
    given-right k h =
        let back : right_nodes + k - right_nodes ≡ k = omega arith in
        simp (le-ltb (right_nodes + k) right_nodes (omega arith), lt-ltb (right_nodes + k) variable_nodes (omega arith), back)

    -- The nodes of the variables lie past the entries'.
    given-slot : (i : ℕ) → variable_nodes ≤ i → given s t f g i ≡ pick (ltb i right_variables) (f (in_slot (i - variable_nodes))) (g (in_slot (i - right_variables)))
    given-slot i h = simp (le-ltb i right_nodes (omega arith), le-ltb i variable_nodes h)

    left-variable : (s' : Sort) (x : ℕ) → x < variables → given s t f g (variable_nodes + slot_in s' x) ≡ f (named s' x)
    left-variable s' x h =
        let low = slot_small s' h in
        let back : variable_nodes + slot_in s' x - variable_nodes ≡ slot_in s' x = omega arith in
        given-slot (variable_nodes + slot_in s' x) (omega arith) ∙ simp (lt-ltb (variable_nodes + slot_in s' x) right_variables (omega arith), back, slot-in s' h)

    right-variable : (s' : Sort) (x : ℕ) → x < variables → given s t f g (right_variables + slot_in s' x) ≡ g (named s' x)
    right-variable s' x h =
        let back : right_variables + slot_in s' x - right_variables ≡ slot_in s' x = omega arith in
        given-slot (right_variables + slot_in s' x) (omega arith) ∙ simp (le-ltb (right_variables + slot_in s' x) right_variables (omega arith), back, slot-in s' h)

    given-valid : Valid (node_of s t) (given s t f g)
    unfolding node_of node_tag node_by
    given-valid = record { makes = λ i is. go i is (ltb i right_nodes) (ltb i variable_nodes) refl refl }
      where
        Made : ℕ → Type 0
        Made i = IsSymbol (node_of s t i) → given s t f g i ≡ made (given s t f g) (node_of s t i)

        on-left : (k : ℕ) → k < right_nodes → Made (0 + k)
        on-left = side-makes (node_of s t) s 0 variable_nodes ss (left-side s t) (given s t f g) f left-variable given-left bs

        on-right : (k : ℕ) → k < right_nodes → Made (right_nodes + k)
        on-right = side-makes (node_of s t) t right_nodes right_variables st (right_side s t) (given s t f g) g right-variable given-right bt

        past-entries : (i : ℕ) → ltb i right_nodes ≡ false → ltb i variable_nodes ≡ false → node_of s t i ≡ free
        past-entries i p q = simp (p, q)

        go : (i : ℕ) → IsSymbol (node_of s t i) → (a b : Bool) → ltb i right_nodes ≡ a → ltb i variable_nodes ≡ b
            → given s t f g i ≡ made (given s t f g) (node_of s t i)
        go i is true b p q = (rw zero-add at (on-left i (ltb-true i right_nodes p))) is
        go i is false true p q =
            let low = ltb-false i right_nodes p in
            let high = ltb-true i variable_nodes q in
            let there : right_nodes + (i - right_nodes) ≡ i = omega arith in
            subst Made there (on-right (i - right_nodes) (omega arith)) is
        go i is false false p q = absurd (subst IsSymbol (past-entries i p q) is)

    given-left-value : (k : ℕ) → 4 * (k + 1) ≤ length s → given s t f g (home s 0 variable_nodes k) ≡ replace f (term_of (from (4 * k) s))
    given-left-value k h =
        let b = suffix k bs (omega arith) in
        home-value (node_of s t) s 0 variable_nodes ss (left-side s t) (given s t f g) f left-variable given-left k b.term (omega arith) b.reads
        ∙ ap (replace f) (sym (rw part_to_end (term_of-reads b.reads)))

    given-right-value : (k : ℕ) → 4 * (k + 1) ≤ length t → given s t f g (home t right_nodes right_variables k) ≡ replace g (term_of (from (4 * k) t))
    given-right-value k h =
        let b = suffix k bt (omega arith) in
        home-value (node_of s t) t right_nodes right_variables st (right_side s t) (given s t f g) g right-variable given-right k b.term (omega arith) b.reads
        ∙ ap (replace g) (sym (rw part_to_end (term_of-reads b.reads)))

  -- The noted entries, for a valuation and for replacements.
  module _ (atoms : List Atom) {m : List Beside} {n : ℕ} (r : Reduced s t m n) where
    shared_of : {v : ℕ → Message} → Valid (node_of s t) v → AllEqual s t m n v → NoncesAt atoms v variable_nodes → NoncesAt atoms v right_variables
        → Share atoms (term_of s) (term_of t)
    shared_of {v} valid all left right =
        let f = read v variable_nodes in
        let g = read v right_variables in
        let same = equal-down f g _ _ ((r.same (λ x. as_term (f x)) (λ x. as_term (g x))).1 (record {
          each = λ k h. record { same = equal-up f g _ _ (sym (left-value valid _ (r.noted.left k h)) ∙ all k h ∙ right-value valid _ (r.noted.right k h)) };
        })) in
        record {
          message = replace f (term_of s);
          left = record { by = f; nonces = read-nonces atoms v variable_nodes left; same = refl };
          right = record { by = g; nonces = read-nonces atoms v right_variables right; same = sym same };
        }

    all_of : (h : Common (term_of s) (term_of t)) → AllEqual s t m n (given s t h.left.by h.right.by)
    all_of h k l =
        let f = h.left.by in
        let g = h.right.by in
        let all = (r.same (λ x. as_term (f x)) (λ x. as_term (g x))).0 (common-alike h) in
        given-left-value f g _ (r.noted.left k l) ∙ equal-down f g _ _ (all.each k l).same ∙ sym (given-right-value f g _ (r.noted.right k l))

    sharing-no : Clash (node_of s t) (λ i. i) (AllEqual s t m n) → Common (term_of s) (term_of t) → ⊥
    sharing-no clash h = clash.never _ (given-valid h.left.by h.right.by) (record { same = λ i. refl }) (all_of h)

    -- The noted entries were united.
    module _ {next : ℕ → ℕ} (step : ClassStep (node_of s t) Any (λ i. i) next (AllEqual s t m n)) where
      -- Then the valuation of a shared instance respects the classes.
      given-respects : (h : Common (term_of s) (term_of t)) → Respects next (given s t h.left.by h.right.by)
      given-respects h = step.forth _ (given-valid h.left.by h.right.by) (record { same = λ i. refl }) (all_of h)

      sharing-endless : ((v : ℕ → Message) → Valid (node_of s t) v → Respects next v → ⊥) → Common (term_of s) (term_of t) → ⊥
      sharing-endless never h = never _ (given-valid h.left.by h.right.by) (given-respects h)

      -- Every way down ends, and the classes of nonce variables are named by variables or nonces.
      sharing-yes : ((i : ℕ) → Finite (node_of s t) next i) → NoncesKept atoms s t next → Share atoms (term_of s) (term_of t)
      sharing-yes ends kept =
          let w = valued step.classes ends in
          let closed = step.closes w.v w.respects (record { makes = λ i is. refl }) in
          shared_of (w.valid closed) (step.holds w.v w.respects tt) (λ k far few. nonce w _ (kept.left k far few)) (λ k far few. nonce w _ (kept.right k far few))
        where
          nonce : (w : Valued (node_of s t) next) (i : ℕ) → NonceNode atoms (node_of s t (next i)) → NonceTerm atoms no_variable (w.v i)
          nonce w i is = rw (w.makes i) (made-nonce atoms w.v (node_of s t (next i)) is)

      -- With a shared instance they are.
      sharing-kept : Share atoms (term_of s) (term_of t) → NoncesKept atoms s t next
      sharing-kept h = record {
        left = λ k far few. kept (variable_nodes + k) (rw (on-left k few) (h.left.nonces (in_slot k) (high-slot far)));
        right = λ k far few. kept (right_variables + k) (rw (on-right k) (h.right.nonces (in_slot k) (high-slot far)));
      }
        where
          f : Variable → Message
          f = h.left.by

          g : Variable → Message
          g = h.right.by

          still : Respects next (given s t f g)
          still = given-respects (record { message = h.message; left = record { by = f; same = h.left.same }; right = record { by = g; same = h.right.same } })

          on-left : (k : ℕ) → k < slot_count → given s t f g (variable_nodes + k) ≡ f (in_slot k)
          on-left k few =
              let back : variable_nodes + k - variable_nodes ≡ k = omega arith in
              given-slot f g (variable_nodes + k) (omega arith) ∙ simp (lt-ltb (variable_nodes + k) right_variables (omega arith), back)

          on-right : (k : ℕ) → given s t f g (right_variables + k) ≡ g (in_slot k)
          on-right k =
              let back : right_variables + k - right_variables ≡ k = omega arith in
              given-slot f g (right_variables + k) (omega arith) ∙ simp (le-ltb (right_variables + k) right_variables (omega arith), back)

          kept : (i : ℕ) → NonceTerm atoms no_variable (given s t f g i) → NonceNode atoms (node_of s t (next i))
          kept i is = nonce-made atoms (given s t f g) (node_of s t (next i))
              (λ symbol. rw (still.same i ∙ (given-valid f g).makes (next i) symbol) at is)

-- What the test for a shared instance answers, from the array in which every node is a class by itself.
module _ (atoms : List Atom) {s t : List ℕ} {m : List Beside} {n : ℕ} (two : TwoTerms s t) (r : Reduced s t m n) {name next : ℕ → ℕ} (own : name ≡ (λ i. i)) {a : Bool}
    (united : Outcome (node_of s t) Any name next (AllEqual s t m n) a) where
  -- Uniting met a clash.
  pub clash-answer : a ≡ false → false ≡ answer (share? atoms (term_of s) (term_of t))
  clash-answer e =
      let clash = rw own at (united.clashed e) in
      says-answer false (λ h. sharing-no s t two.left two.right two.left_short two.right_short atoms r clash (common h))
      (share? atoms (term_of s) (term_of t))

  -- All were united: then the classes of nonce variables have to be named by variables or nonces.
  pub lost-answer : a ≡ true → ¬ NoncesKept atoms s t next → false ≡ answer (share? atoms (term_of s) (term_of t))
  lost-answer e lost =
      let step = rw own at (united.stepped e) in
      says-answer false (λ h. lost (sharing-kept s t two.left two.right two.left_short two.right_short atoms r step h))
      (share? atoms (term_of s) (term_of t))

  -- And every way down has to end.
  pub ending-answer : a ≡ true → NoncesKept atoms s t next → (b : Bool) → (b ≡ true → (i : ℕ) → Finite (node_of s t) next i)
      → (b ≡ false → (v : ℕ → Message) → Valid (node_of s t) v → Respects next v → ⊥) → b ≡ answer (share? atoms (term_of s) (term_of t))
  ending-answer e kept b ends never =
      let step = rw own at (united.stepped e) in
      says-answer b (said b (λ q. sharing-yes s t two.left two.right two.left_short two.right_short atoms r step (ends q) kept)
      (λ q h. sharing-endless s t two.left two.right two.left_short two.right_short atoms r step (never q) (common h)))
      (share? atoms (term_of s) (term_of t))
    where
      said : {P : Type 0} (b : Bool) → (b ≡ true → P) → (b ≡ false → P → ⊥) → Says b P
      said true holds fails = holds refl
      said false holds fails = fails refl

-- The walk came to different symbols.
pub apart-answer : (atoms : List Atom) (t u : Term Variable) → ((by by' : Variable → Term Variable) → ¬ (replace by t ≡ replace by' u))
    → false ≡ answer (share? atoms t u)
apart-answer atoms t u off = says-answer false (λ h. off _ _ (common-alike (common h))) (share? atoms t u)

-- ---- uniting the noted entries, one after the other

-- None yet.
pub united-none : (s t : List ℕ) (m : List Beside) {name : ℕ → ℕ} → Classes (node_of s t) name → ClassStep (node_of s t) Any name name (AllEqual s t m 0)
united-none s t m cs = restate (λ v x e. tt) (λ v q e k h. absurd (omega arith)) (stay (node_of s t) Any cs)

module _ (s t : List ℕ) (m : List Beside) (k : ℕ) {name mid : ℕ → ℕ} (step : ClassStep (node_of s t) Any name mid (AllEqual s t m k)) where
  -- One more.
  module _ {i j : ℕ} (is : i ≡ home s 0 variable_nodes (left_noted m k)) (is' : j ≡ home t right_nodes right_variables (right_noted m k)) where
    split : (v : ℕ → Message) → AllEqual s t m (k + 1) v → AllEqual s t m k v × (v i ≡ v j)
    split v all = (λ l h. all l (omega arith), ap v is ∙ all k (omega arith) ∙ sym (ap v is'))

    joined : (v : ℕ → Message) → AllEqual s t m k v × (v i ≡ v j) → AllEqual s t m (k + 1) v
    joined v all l h = elim (ℕ_discrete l k) [
      | yes e ↦ rw e (sym (ap v is) ∙ all.1 ∙ ap v is')
      | no off ↦ all.0 l (omega arith)
    ]

    pub united-more : {next : ℕ → ℕ} → ClassStep (node_of s t) Any mid next (λ v. v i ≡ v j) → ClassStep (node_of s t) Any name next (AllEqual s t m (k + 1))
    united-more more = restate (λ v x all. split v all) (λ v q all. joined v all) (both (node_of s t) Any step more)

    pub united-noted-clash : {n : ℕ} → k < n → Clash (node_of s t) mid (λ v. v i ≡ v j) → Clash (node_of s t) name (AllEqual s t m n)
    united-noted-clash low clash = restate-clash (λ v x all. split v (λ l h. all l (omega arith))) (second-clash (node_of s t) Any step clash)
