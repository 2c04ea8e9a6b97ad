-- Slots: a number for each variable that a term may have, eight for each sort, in the order of the tags 4 to 7.
use Rattle.std.specs.Prelude.{List, ℕ, ◌+◌, ◌*◌, ◌-◌, ltb, Option}
use Rattle.terms.specs.Term.{Term, variable, atom, pair, Sort, sort, plain, marked, any_message, one_nonce, Variable, named, wrapped}
use Rattle.terms.specs.Tag.{variables}
use Rattle.terms.specs.Decisions.{pick}

-- How many slots there are, and how many of these for variables that stand for any message.
abbrev pub slot_count : ℕ
slot_count = 4 * variables

abbrev pub any_slots : ℕ
any_slots = 2 * variables

-- Bindings: for each slot what it holds, the entry where its variable's term stands, if it is bound.
abbrev pub Held : Type 0
Held = Option ℕ

abbrev pub Bindings : Type 0
Bindings = List Held

-- The slot of a variable.
unfoldable pub slot_in : Sort → ℕ → ℕ
slot_in (sort plain any_message) x = x
slot_in (sort marked any_message) x = variables + x
slot_in (sort plain one_nonce) x = any_slots + x
slot_in (sort marked one_nonce) x = any_slots + (variables + x)

-- The slot of a variable that is a term; 32 for any other term.
unfoldable pub slot_of : Term Variable → ℕ
unfolding slot_in
slot_of (variable (named s x)) = slot_in s x
slot_of (atom a) = slot_count
slot_of (pair t u) = slot_count
slot_of (wrapped w k t) = slot_count

-- The variable of a slot.
unfoldable pub in_slot : ℕ → Variable
in_slot i =
    pick (ltb i any_slots)
    (pick (ltb i variables) (named (sort plain any_message) i) (named (sort marked any_message) (i - variables)))
    (pick (ltb i (any_slots + variables)) (named (sort plain one_nonce) (i - any_slots))
    (named (sort marked one_nonce) (i - (any_slots + variables))))
