-- Laws of nonces: the flags that tell a file's nonces, and the entries and nodes at which nonces stand.
use mathlib.Core.Path.{◌≡◌, refl}
use mathlib.Core.Bool.{Bool}
use mathlib.Core.List.{List, ◌∷◌}
use mathlib.Core.Logic.{◌↔◌}
use Prim.Native.Nat.{ℕ, ◌*◌, ◌<◌, ◌≤◌}
use native.Mathlib.Omega.{arith}
use native.Mathlib.Decide.{dec_lt}
use lib.ListN.{length, get_or, drop, replicate, length-replicate, get_or-replicate, get_or-eq_default}
use Rattle.terms.specs.declared.atom.Atom.{Atom}
use Rattle.terms.specs.Atom.{nonce_kind, atom_kind, Nonce, listed_nonce, foreign_nonce}
use Rattle.terms.specs.Nonces.{most_nonces, NoncesIn}
use Rattle.terms.specs.Term.{variable, atom, range_of}
use Rattle.terms.specs.Instance.{NonceTerm}
use Rattle.terms.specs.Tag.{atom_tag, Tagged, an_atom, a_pair, a_wrapping, a_variable, no_tag, tagged}
use Rattle.terms.specs.Entry.{term_of, Begins, tag_at, value_at, from}
use Rattle.terms.specs.Reading.{First, first_atom, first_pair, first_wrapped, first_variable, first}
use Rattle.terms.specs.Slot.{slot_count, any_slots, slot_of, in_slot}
use Rattle.terms.specs.Decisions.{Says, says_same}
use Rattle.terms.specs.Front.{MayTake}
use Rattle.terms.specs.Graph.{IsSymbol, NonceNode}
use Rattle.terms.specs.TermGraph.{variable_nodes, node_for, node_by, node_tag, node_value, first_child, second_child, node_of}
use Rattle.terms.proofs.AtomLaws.{kind-listed}
use Rattle.terms.proofs.EntryLaws.{term_of-reads}
use Rattle.terms.proofs.SlotLaws.{slot-first, high-slot, low-slot}
use Rattle.terms.proofs.NodeLaws.{node-by, past-free}

-- ---- the flags

-- The first n atoms have their flags, and the others have none.
pub record FlaggedTo (atoms : List Atom) (n : ℕ) (flags : List ℕ) : Type 0 where
  pub long : length flags ≡ most_nonces
  pub below : (k : ℕ) → k < n → (get_or flags k 0 ≡ 1) ↔ (atom_kind atoms k ≡ nonce_kind)
  pub above : (k : ℕ) → n ≤ k → get_or flags k 0 ≡ 0

-- At the start there is none.
pub no-flags : (atoms : List Atom) → FlaggedTo atoms 0 (replicate most_nonces 0)
no-flags atoms = record { long = refl; below = λ k h. absurd (omega arith); above = λ k h. zeros k (dec_lt k most_nonces) }
  where
    zeros : (k : ℕ) → Dec (k < most_nonces) → ◌≡◌ {A = ℕ} (get_or (replicate most_nonces 0) k 0) 0
    zeros k (yes l) = get_or-replicate most_nonces k 0 0 l
    zeros k (no far) = get_or-eq_default (replicate most_nonces 0) 0 {n = k} (omega (arith, length-replicate {A = ℕ} most_nonces 0))

-- All have theirs.
pub all-flagged : {atoms : List Atom} {n : ℕ} {flags : List ℕ} → FlaggedTo atoms n flags → n ≡ length atoms → n ≤ most_nonces → NoncesIn atoms flags
all-flagged {atoms} {n} {flags} w all few = record {
  long = omega (arith, w.long);
  at = λ k h. (λ e. to k h e, λ is. from-nonce k h is);
}
  where
    to : (k : ℕ) → k < length flags → get_or flags k 0 ≡ 1 → Nonce atoms k
    to k h e = elim (dec_lt k n) [
      | yes l ↦ listed_nonce ((w.below k l).0 e)
      | no far ↦ absurd (omega (arith, w.above k (omega arith)))
    ]

    from-nonce : (k : ℕ) → k < length flags → Nonce atoms k → get_or flags k 0 ≡ 1
    from-nonce k h (listed_nonce is) = (w.below k (omega (arith, kind-listed atoms k (omega arith)))).1 is
    from-nonce k h (foreign_nonce far) = absurd (omega (arith, w.long))

-- An atom without a flag is a nonce if it is foreign.
pub unflagged-nonce : {atoms : List Atom} {flags : List ℕ} {n : ℕ} → NoncesIn atoms flags → ¬ (n < length flags) → Nonce atoms n → 1000 ≤ n
unflagged-nonce {atoms} {n = n} w far (listed_nonce is) = absurd (omega (arith, w.long, kind-listed atoms n (omega arith)))
unflagged-nonce w far (foreign_nonce h) = h

-- ---- terms that stand first

module _ (atoms : List Atom) {e : List ℕ} (b : Begins e) where
  -- A variable: its slot tells whether it is a nonce variable.
  module _ {x : ℕ} (slot : x ≡ slot_of (term_of e)) (low : x < slot_count) where
    here : term_of e ≡ variable (in_slot x)
    here = rw slot ((slot-first b).in-slot (rw slot at low))

    pub nonce-variable : any_slots ≤ x → NonceTerm atoms range_of (term_of e)
    unfolding NonceTerm
    nonce-variable far = rw here (high-slot far)

    pub free-variable : x < any_slots → ¬ NonceTerm atoms range_of (term_of e)
    unfolding NonceTerm
    free-variable near is = low-slot near (rw here at is)

  -- An atom.
  pub atom-first : tag_at e ≡ atom_tag → term_of e ≡ atom (value_at e)
  atom-first tag = go (first b.reads)
    where
      go : First (tag_at e) (value_at e) (drop 4 e) (b.term ∷ b.others) → term_of e ≡ atom (value_at e)
      go (first_atom g q k) = term_of-reads (rw q at b.reads)
      go (first_pair g n q k) = absurd (omega arith)
      go (first_wrapped i g q k) = absurd (omega arith)
      go (first_variable {s = s} g v n q k) = absurd (omega (arith, v))

  pub nonce-first : tag_at e ≡ atom_tag → {n : ℕ} → n ≡ value_at e → (r : Bool) → Says r (Nonce atoms n) → Says r (NonceTerm atoms range_of (term_of e))
  unfolding NonceTerm
  nonce-first tag is r says = rw (atom-first tag, ← is) says

  -- Any other symbol.
  pub other-first : {x : ℕ} → x ≡ slot_of (term_of e) → slot_count ≤ x → ¬ (tag_at e ≡ atom_tag) → ¬ NonceTerm atoms range_of (term_of e)
  unfolding NonceTerm
  other-first slot far off = go (first b.reads)
    where
      go : First (tag_at e) (value_at e) (drop 4 e) (b.term ∷ b.others) → ¬ NonceTerm atoms range_of (term_of e)
      go (first_atom g q k) is = off g
      go (first_pair g n q k) is = rw (term_of-reads (rw q at b.reads)) at is
      go (first_wrapped i g q k) is = rw (term_of-reads (rw q at b.reads)) at is
      go (first_variable g v n q k) is = absurd ((slot-first b).off-slot (rw slot at far) _ (term_of-reads (rw q at b.reads)))

-- Any term may be put at a variable for any message; at a nonce variable only a nonce.
module _ (atoms : List Atom) {x : ℕ} (t : List ℕ) (at : ℕ) where
  pub free-takes : x < any_slots → MayTake atoms x t at
  free-takes near is = absurd (low-slot near is)

  pub nonce-takes : any_slots ≤ x → (r : Bool) → Says r (NonceTerm atoms range_of (term_of (from (4 * at) t))) → Says r (MayTake atoms x t at)
  nonce-takes far r says = says_same r (λ h is. h) (λ h. h (high-slot far)) says

-- ---- nodes

-- A variable's node, an atom's, any other symbol's.
module _ (atoms : List Atom) (s t : List ℕ) (a : ℕ) where
  pub variable-node : variable_nodes ≤ a → NonceNode atoms (node_of s t a)
  variable-node far = rw (past-free s t a far) tt

  pub atom-node : node_tag s t a ≡ atom_tag → {n : ℕ} → n ≡ node_value s t a → (r : Bool) → Says r (Nonce atoms n) → Says r (NonceNode atoms (node_of s t a))
  unfolding node_by
  atom-node tag is r says = rw (node-by s t a tag, ← is) says

  pub other-node : IsSymbol (node_of s t a) → ¬ (node_tag s t a ≡ atom_tag) → ¬ NonceNode atoms (node_of s t a)
  unfolding node_of node_by
  other-node is off = go (tagged (node_tag s t a)) is off
    where
      go : {n : ℕ} (w : Tagged n) → IsSymbol (node_for w (node_value s t a) (first_child s t a) (second_child s t a)) → ¬ (n ≡ atom_tag)
          → ¬ NonceNode atoms (node_for w (node_value s t a) (first_child s t a) (second_child s t a))
      go (an_atom e) is off h = off e
      go (a_pair e) is off h = h
      go (a_wrapping w e) is off h = h
      go (a_variable v e) is off h = is
      go (no_tag e) is off h = is
