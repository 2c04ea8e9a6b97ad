-- Numbers 6, 7 and 8 on small entries.
use mathlib.Core.Path.{◌≡◌, refl}
use mathlib.Core.Bool.{true, false}
use mathlib.Core.List.{List, [], ◌∷◌, ◌++◌}
use Prim.Native.Nat.{ℕ, ◌/◌, ◌%◌}
use Rattle.std.specs.Prelude.{Some, None}
use Rattle.terms.specs.Atom.{atoms_of, wrong_atom}
use Rattle.terms.specs.TermEntry.{wrong_entry}
use Rattle.terms.specs.Decide.{answer}
use Rattle.terms.specs.Reading.{one_term?}

entry : ℕ → ℕ → ℕ → List ℕ
entry a b n = a ∷ b ∷ n % 256 ∷ n / 256 ∷ []

-- The atoms of document 01's cases: A, I, the keys of A and of I, N and T.
atoms : List ℕ
atoms = entry 1 1 0 ++ (entry 1 1 0 ++ (entry 3 1 3 ++ (entry 4 0 2 ++ (entry 3 1 5 ++ (entry 4 1 4 ++ (entry 2 0 0 ++ entry 2 1 0))))))

atoms-are-right : wrong_atom (atoms_of atoms) ≡ None
unfolding wrong_atom atoms_of atoms entry
atoms-are-right = refl

-- Not named back: a fault of its own entry. A partner's wrong known byte is the partner's fault. A symmetric key names
-- itself.
not_back : wrong_atom (atoms_of (entry 3 1 1 ++ (entry 4 0 2 ++ entry 3 0 1))) ≡ Some 0
unfolding wrong_atom atoms_of entry
not_back = refl

known-2 : wrong_atom (atoms_of (entry 3 1 1 ++ entry 4 2 0)) ≡ Some 1
unfolding wrong_atom atoms_of entry
known-2 = refl

itself : wrong_atom (atoms_of (entry 5 0 0 ++ entry 5 0 0)) ≡ Some 1
unfolding wrong_atom atoms_of entry
itself = refl

-- {(T, x)}2, and what is wrong with it elsewhere: variables in a secret, marks in a rule but not in a bad pattern, numbers.
good : List ℕ
good = entry 3 0 2 ++ (entry 2 0 0 ++ (entry 1 0 7 ++ entry 4 0 0))

good-is-right : wrong_entry (atoms_of atoms) 3 good ≡ None
unfolding wrong_entry atoms_of atoms good entry
good-is-right = refl

in-a-secret : wrong_entry (atoms_of atoms) 2 good ≡ Some 3
unfolding wrong_entry atoms_of atoms good entry
in-a-secret = refl

marked-bad : wrong_entry (atoms_of atoms) 4 (entry 5 0 0) ≡ None
unfolding wrong_entry atoms_of atoms entry
marked-bad = refl

marked-rule : wrong_entry (atoms_of atoms) 5 (entry 5 0 0) ≡ Some 0
unfolding wrong_entry atoms_of atoms entry
marked-rule = refl

atom-8 : wrong_entry (atoms_of atoms) 5 (entry 1 0 7 ++ entry 1 0 8) ≡ Some 1
unfolding wrong_entry atoms_of atoms entry
atom-8 = refl

no_key : wrong_entry (atoms_of atoms) 5 (entry 3 0 6) ≡ Some 0
unfolding wrong_entry atoms_of atoms entry
no_key = refl

-- A hash, of value 0; a signature by a private key, not by a public one (02, No. 7).
a-hash : wrong_entry (atoms_of atoms) 2 (entry 8 0 0 ++ entry 1 0 6) ≡ None
unfolding wrong_entry atoms_of atoms entry
a-hash = refl

hash-1 : wrong_entry (atoms_of atoms) 2 (entry 8 0 1) ≡ Some 0
unfolding wrong_entry atoms_of atoms entry
hash-1 = refl

by-private : wrong_entry (atoms_of atoms) 2 (entry 9 0 3 ++ entry 1 0 6) ≡ None
unfolding wrong_entry atoms_of atoms entry
by-private = refl

by-public : wrong_entry (atoms_of atoms) 2 (entry 9 0 2) ≡ Some 0
unfolding wrong_entry atoms_of atoms entry
by-public = refl

tag-10 : wrong_entry (atoms_of atoms) 2 (entry 10 0 0) ≡ Some 0
unfolding wrong_entry atoms_of atoms entry
tag-10 = refl

one : answer (one_term? good) ≡ true
unfolding one_term? good entry
one = refl

one-signed-hash : answer (one_term? (entry 9 0 3 ++ (entry 8 0 0 ++ entry 1 0 6))) ≡ true
unfolding one_term? entry
one-signed-hash = refl

too_few : answer (one_term? (entry 3 0 2 ++ entry 2 0 0)) ≡ false
unfolding one_term? entry
too_few = refl

too_many : answer (one_term? (good ++ entry 1 0 0)) ≡ false
unfolding one_term? good entry
too_many = refl
