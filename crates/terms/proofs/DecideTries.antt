-- Worked cases of matching and sharing, by computation.
use mathlib.Core.Path.{◌≡◌, refl}
use mathlib.Core.Bool.{Bool, true, false}
use Rattle.terms.specs.Term.{Term, variable, atom, pair, encrypted, hashed, signed, sort, plain, marked, any_message, one_nonce, Variable, named}
use mathlib.Core.List.{List, [], ◌∷◌}
use Rattle.terms.specs.declared.atom.Atom.{Atom}
use Rattle.terms.specs.Atom.{atoms_of}
use Rattle.terms.specs.Decide.{answer, variable?, term?, match?, share?}

-- x, y and x' of the cases.
abbrev x : Term Variable
x = variable (named (sort plain any_message) 0)

abbrev y : Term Variable
y = variable (named (sort plain any_message) 1)

abbrev x' : Term Variable
x' = variable (named (sort marked any_message) 0)

-- Nonce variables, plain and marked, of the numbers 0 and 1.
abbrev n : Term Variable
n = variable (named (sort plain one_nonce) 0)

abbrev m : Term Variable
m = variable (named (sort plain one_nonce) 1)

abbrev n' : Term Variable
n' = variable (named (sort marked one_nonce) 0)

-- Five atoms, one of each kind: 0 a principal, 1 a nonce, 2 to 4 keys.
atoms : List Atom
atoms = atoms_of (1 ∷ 1 ∷ 0 ∷ 0 ∷ 2 ∷ 0 ∷ 0 ∷ 0 ∷ 3 ∷ 1 ∷ 3 ∷ 0 ∷ 4 ∷ 0 ∷ 2 ∷ 0 ∷ 5 ∷ 0 ∷ 4 ∷ 0 ∷ [])

-- Do two terms with variables of a file share an instance? Does a pattern match a term?
shared : Term Variable → Term Variable → Bool
unfolding share? atoms atoms_of
shared s t = answer (share? atoms s t)

matched : Term Variable → Term Variable → Bool
unfolding match? atoms atoms_of
matched p t = answer (match? atoms p t)

-- A message cannot be (T, itself).
cyclic : shared (pair x x) (pair x (pair (atom 7) x)) ≡ false
unfolding shared
cyclic = refl

under-a-key : shared (encrypted 2 x) (encrypted 2 (pair (atom 1) y)) ≡ true
unfolding shared
under-a-key = refl

under-two-keys : shared (encrypted 2 x) (encrypted 4 x) ≡ false
unfolding shared
under-two-keys = refl

-- Through hashes and signatures as through any symbol; a signature's key counts (02, No. 7).
in-a-hash : shared (hashed 0 x) (hashed 0 (pair (atom 1) y)) ≡ true
unfolding shared
in-a-hash = refl

hash-and-signature : shared (hashed 0 x) (signed 3 x) ≡ false
unfolding shared
hash-and-signature = refl

by-two-keys : shared (signed 3 x) (signed 5 x) ≡ false
unfolding shared
by-two-keys = refl

a-hash-in-itself : shared (pair x x) (pair y (hashed 0 y)) ≡ false
unfolding shared
a-hash-in-itself = refl

signed-match : matched (signed 3 x) (signed 3 (hashed 0 y)) ≡ true
unfolding matched
signed-match = refl

nonce-hash : matched n (hashed 0 (atom 1)) ≡ false
unfolding matched
nonce-hash = refl

with_itself : shared (pair x x) (pair x x) ≡ true
unfolding shared
with_itself = refl

both_one : shared (pair x (pair x (atom 1))) (pair (atom 1) (pair y y)) ≡ true
unfolding shared
both_one = refl

one-and-two : shared (pair x (pair x (atom 1))) (pair (atom 2) (pair y y)) ≡ false
unfolding shared
one-and-two = refl

-- A marked variable is not the plain one of its number.
marked-apart : matched (pair x x') (pair (atom 1) (atom 2)) ≡ true
unfolding matched
marked-apart = refl

same-twice : matched (pair x x) (pair (atom 1) (atom 2)) ≡ false
unfolding matched
same-twice = refl

against-variables : matched x (pair y (encrypted 3 x)) ≡ true
unfolding matched
against-variables = refl

against-variables-twice : matched (pair x x) (pair y x) ≡ false
unfolding matched
against-variables-twice = refl

-- Terms are the same, or not.
same-terms : answer (term? variable? (pair x' (encrypted 3 y)) (pair x' (encrypted 3 y))) ≡ true
unfolding term? variable?
same-terms = refl

other-mark : answer (term? variable? (pair x y) (pair x' y)) ≡ false
unfolding term? variable?
other-mark = refl

-- Nonce variables (02, No. 3): a nonce may stand there, listed or foreign, and nothing else.
a-nonce : matched n (atom 1) ≡ true
unfolding matched
a-nonce = refl

a-foreign-nonce : matched n (atom 1000) ≡ true
unfolding matched
a-foreign-nonce = refl

a-principal : matched n (atom 0) ≡ false
unfolding matched
a-principal = refl

a_key : matched n (atom 2) ≡ false
unfolding matched
a_key = refl

a_pair_lem : matched n (pair (atom 1) (atom 1)) ≡ false
unfolding matched
a_pair_lem = refl

an-encryption : matched n (encrypted 2 (atom 1)) ≡ false
unfolding matched
an-encryption = refl

-- A plain variable does not match a nonce variable of a pattern; another nonce variable does; both share with it.
a-plain-variable : matched n x ≡ false
unfolding matched
a-plain-variable = refl

a-nonce-variable : matched (pair n n') (pair m n) ≡ true
unfolding matched
a-nonce-variable = refl

taken-by-a-plain-one : matched x n ≡ true
unfolding matched
taken-by-a-plain-one = refl

shared-with-a-plain-one : shared n x ≡ true
unfolding shared
shared-with-a-plain-one = refl

-- The four sorts of one number are four variables.
four-sorts : matched (pair (pair x x') (pair n n')) (pair (pair (atom 0) (atom 2)) (pair (atom 1) m)) ≡ true
unfolding matched
four-sorts = refl

-- A class that meets a nonce variable first and an encryption later; a key later; a nonce later.
met-an-encryption-later : shared (pair x (pair x x)) (pair n (pair y (encrypted 2 y))) ≡ false
unfolding shared
met-an-encryption-later = refl

met-a-key-later : shared (pair x (pair x x)) (pair n (pair y (atom 4))) ≡ false
unfolding shared
met-a-key-later = refl

met-a-nonce-later : shared (pair x (pair x x)) (pair n (pair y (atom 1))) ≡ true
unfolding shared
met-a-nonce-later = refl

inside-what-is-taken : shared (pair x x) (pair (encrypted 2 n) (encrypted 2 (atom 0))) ≡ false
unfolding shared
inside-what-is-taken = refl
