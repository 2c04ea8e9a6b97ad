-- Laws of slots: a variable has a slot, and is the variable of that slot; the slot of the term that stands first.
use mathlib.Core.Path.{◌≡◌, refl, sym, ap}
use mathlib.Core.List.{List, ◌∷◌}
use Prim.Native.Nat.{ℕ, ◌+◌, ◌*◌, ◌-◌, ◌<◌, ◌≤◌}
use native.Mathlib.Omega.{arith}
use native.Mathlib.Decide.{dec_lt}
use lib.ListN.{drop}
use borrow.Author.Tests.{lt-ltb, le-ltb}
use Rattle.terms.specs.Term.{variable, Marking, Sort, sort, plain, marked, any_message, one_nonce, named, Term, atom, pair, wrapped, Variable, range_of}
use Rattle.terms.specs.Tag.{variables, plain_tag, sort_tag, SymbolTag, VariableTag, wrapping-symbol, sort-tag}
use Rattle.terms.specs.Entry.{term_of, Begins, tag_at, value_at}
use Rattle.terms.specs.Reading.{First, first_atom, first_pair, first_wrapped, first_variable, first}
use Rattle.terms.specs.Slot.{slot_count, any_slots, slot_in, slot_of, in_slot}
use Rattle.terms.proofs.EntryLaws.{term_of-reads}

pub slot_small : (s : Sort) {x : ℕ} → x < variables → slot_in s x < slot_count
unfolding slot_in
slot_small (sort plain any_message) small = omega arith
slot_small (sort marked any_message) small = omega arith
slot_small (sort plain one_nonce) small = omega arith
slot_small (sort marked one_nonce) small = omega arith

pub slot-in : (s : Sort) {x : ℕ} → x < variables → in_slot (slot_in s x) ≡ named s x
unfolding slot_in in_slot
slot-in (sort plain any_message) {x} small = simp (lt-ltb x any_slots (omega arith), lt-ltb x variables small)
slot-in (sort marked any_message) {x} small =
    let back : variables + x - variables ≡ x = omega arith in
    simp (lt-ltb (variables + x) any_slots (omega arith), le-ltb (variables + x) variables (omega arith), back)
slot-in (sort plain one_nonce) {x} small =
    let back : any_slots + x - any_slots ≡ x = omega arith in
    simp (le-ltb (any_slots + x) any_slots (omega arith), lt-ltb (any_slots + x) (any_slots + variables) (omega arith), back)
slot-in (sort marked one_nonce) {x} small =
    let back : any_slots + (variables + x) - (any_slots + variables) ≡ x = omega arith in
    simp (le-ltb (any_slots + (variables + x)) any_slots (omega arith), le-ltb (any_slots + (variables + x)) (any_slots + variables) (omega arith), back)

-- What stands in a slot, by the part of the slots that it lies in.
pub data InPart (i : ℕ) : Type 0 where
  in_low : i < any_slots → (m : Marking) (x : ℕ) → in_slot i ≡ named (sort m any_message) x → slot_in (sort m any_message) x ≡ i → InPart i
  in_high : any_slots ≤ i → (m : Marking) (x : ℕ) → in_slot i ≡ named (sort m one_nonce) x → slot_in (sort m one_nonce) x ≡ i → InPart i

pub in-part : (i : ℕ) → InPart i
unfolding in_slot slot_in
in-part i = elim (dec_lt i any_slots) [
  | yes l ↦ elim (dec_lt i variables) [
    | yes k ↦ in_low l plain i (simp (lt-ltb i any_slots l, lt-ltb i variables k)) refl
    | no k ↦ in_low l marked (i - variables) (simp (lt-ltb i any_slots l, le-ltb i variables (omega arith))) (omega arith)
  ]
  | no l ↦ elim (dec_lt i (any_slots + variables)) [
    | yes k ↦ in_high (omega arith) plain (i - any_slots) (simp (le-ltb i any_slots (omega arith), lt-ltb i (any_slots + variables) k)) (omega arith)
    | no k ↦ in_high (omega arith) marked (i - (any_slots + variables))
        (simp (le-ltb i any_slots (omega arith), le-ltb i (any_slots + variables) (omega arith))) (omega arith)
  ]
]

pub slot-of-slot : (i : ℕ) → slot_of (variable (in_slot i)) ≡ i
unfolding slot_of
slot-of-slot i = go (in-part i)
  where
    go : InPart i → slot_of (variable (in_slot i)) ≡ i
    go (in_low l m x e back) = rw e back
    go (in_high l m x e back) = rw e back

-- The slots of nonce variables are the high ones.
pub nonce-slot : (x : Variable) → range_of x ≡ one_nonce → any_slots ≤ slot_of (variable x)
unfolding range_of slot_of slot_in
nonce-slot (named (sort plain any_message) n) is = let z : ◌≡◌ {A = ℕ} 0 1 = cc in absurd (omega arith)
nonce-slot (named (sort marked any_message) n) is = let z : ◌≡◌ {A = ℕ} 0 1 = cc in absurd (omega arith)
nonce-slot (named (sort plain one_nonce) n) is = omega arith
nonce-slot (named (sort marked one_nonce) n) is = omega arith

pub high-slot : {i : ℕ} → any_slots ≤ i → range_of (in_slot i) ≡ one_nonce
unfolding range_of
high-slot {i} far = go (in-part i)
  where
    go : InPart i → range_of (in_slot i) ≡ one_nonce
    go (in_low l m x e back) = absurd (omega arith)
    go (in_high l m x e back) = rw e

pub low-slot : {i : ℕ} → i < any_slots → ¬ (range_of (in_slot i) ≡ one_nonce)
low-slot {i} near is = let far = nonce-slot (in_slot i) is in let same = slot-of-slot i in omega arith

-- The slot of a variable, by its tag.
pub slot-by-tag : (s : Sort) (x : ℕ) → variables * (sort_tag s - plain_tag) + x ≡ slot_in s x
unfolding slot_in sort_tag
slot-by-tag (sort plain any_message) x = omega arith
slot-by-tag (sort marked any_message) x = omega arith
slot-by-tag (sort plain one_nonce) x = omega arith
slot-by-tag (sort marked one_nonce) x = omega arith

-- The slot of a term that stands first, by its tag and value.
pub record Slotted (tag n : ℕ) (t : Term Variable) : Type 0 where
  pub some-slot : VariableTag tag → variables * (tag - plain_tag) + n ≡ slot_of t
  pub no_slot : SymbolTag tag → slot_count ≡ slot_of t
  pub in-slot : slot_of t < slot_count → t ≡ variable (in_slot (slot_of t))
  pub off-slot : slot_count ≤ slot_of t → (x : Variable) → ¬ (t ≡ variable x)

variable-slotted : (s : Sort) (n : ℕ) → n < variables → Slotted (sort_tag s) n (variable (named s n))
unfolding slot_of
variable-slotted s n small = record {
  some-slot = λ h. slot-by-tag s n;
  no_slot = λ h. absurd (omega (arith, sort-tag s refl));
  in-slot = λ h. ap variable (sym (slot-in s small));
  off-slot = λ h x. absurd (omega (arith, slot_small s small));
}

symbol-slotted : (tag n : ℕ) (t : Term Variable) → SymbolTag tag → slot_of t ≡ slot_count → ((x : Variable) → ¬ (t ≡ variable x)) → Slotted tag n t
symbol-slotted tag n t small is off = record {
  some-slot = λ h. absurd (omega arith);
  no_slot = λ h. sym is;
  in-slot = λ h. absurd (omega arith);
  off-slot = λ h. off;
}

pub slot-first : {e : List ℕ} → Begins e → Slotted (tag_at e) (value_at e) (term_of e)
unfolding slot_of
slot-first {e} b = go (first b.reads)
  where
    go : First (tag_at e) (value_at e) (drop 4 e) (b.term ∷ b.others) → Slotted (tag_at e) (value_at e) (term_of e)
    go (first_atom g q k) = rw (term_of-reads (rw q at b.reads))
        (symbol-slotted (tag_at e) (value_at e) (atom (value_at e)) (omega arith) refl (λ x h. (let z : ◌≡◌ {A = ℕ} 0 1 = cc in omega arith)))
    go (first_pair {t} {u} g n q k) = rw (term_of-reads (rw q at b.reads))
        (symbol-slotted (tag_at e) (value_at e) (pair t u) (omega arith) refl (λ x h. (let z : ◌≡◌ {A = ℕ} 0 1 = cc in omega arith)))
    go (first_wrapped {w = w} {t = t} i g q k) = rw (term_of-reads (rw q at b.reads))
        (symbol-slotted (tag_at e) (value_at e) (wrapped w (value_at e) t) (wrapping-symbol w i) refl (λ x h. (let z : ◌≡◌ {A = ℕ} 0 1 = cc in omega arith)))
    go (first_variable {s = s} g v n q k) = rw (term_of-reads (rw q at b.reads), g) (variable-slotted s (value_at e) n)

-- A symbol stands first: it is no variable.
pub symbol-slot : {e : List ℕ} → Begins e → SymbolTag (tag_at e) → (x : Variable) → ¬ (term_of e ≡ variable x)
symbol-slot {e} b low =
    let none : slot_count ≡ slot_of (term_of e) = (slot-first b).no_slot low in (slot-first b).off-slot (omega arith)
