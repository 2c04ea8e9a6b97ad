-- Document 01's starred certificates to try, and those of document 02's requests: whole files in one table, under one
-- theorem by computation.
use mathlib.Core.Path.{◌≡◌, refl, sym, subst}
use mathlib.Core.Logic.{◌⊎◌, inl, inr}
use mathlib.Core.List.Memᴰ
use mathlib.Core.List.{List, [], ◌∷◌, ◌++◌, Memᴰ}
use Prim.Native.Nat.{ℕ, zero, suc, ◌+◌}
use Prim.Native.String.{String}
use Rattle.blocks.specs.Check.{sealed}
use Rattle.terms.specs.Term.{Term, Variable, variable, atom, pair, encrypted, hashed, signed, sort, plain, marked, any_message, one_nonce, named}
use Rattle.terms.specs.Entry.{term_entries, size}
use Rattle.terms.specs.Instance.{Share}
use Rattle.terms.specs.Decide.{share?}
use Rattle.terms.specs.Atom.{atoms_of}
use Rattle.terms.proofs.AnswerLaws.{no_of}
use Rattle.judge.specs.declared.verdict.Fault.TheVariants.{Loader}
use Rattle.judge.specs.declared.verdict.Verdict.{Verdict}
use Rattle.judge.specs.declared.verdict.Verdict.TheVariants.{Refused}
use Rattle.judge.specs.declared.checking.LoaderCounts.{LoaderCounts}
use Rattle.judge.specs.declared.checking.Tally.{Tally}
use Rattle.judge.specs.declared.checking.Checked.{Checked}
use Rattle.judge.specs.Verdict.{verdict_of, computing}
use Rattle.judge.specs.Checked.{pair_of, tallied_of, checked_of}
use Rattle.judge.specs.Values.{VerdictValues, verdict_values}
use Rattle.judge.specs.Line.{text_of, digits_of, field_of, newline, three_fields, accepted_line, refused_line, line_of}

-- ---- files from terms

zeros : ℕ → List ℕ
zeros zero = []
zeros (suc n) = 0 ∷ zeros n

-- A sealed block with these entries, the rest zero.
block : ℕ → ℕ → ℕ → List ℕ → List ℕ
unfolding zeros sealed
block kind first second entries = sealed (kind ∷ first ∷ second ∷ 0 ∷ (entries ++ zeros 504))

-- A secret, a good or a bad pattern.
term : ℕ → Term Variable → List ℕ
unfolding block term_entries size
term kind t = block kind (size t) 0 (term_entries t)

secret : Term Variable → List ℕ
unfolding term
secret t = term 2 t

good : Term Variable → List ℕ
unfolding term
good t = term 3 t

bad : Term Variable → List ℕ
unfolding term
bad t = term 4 t

-- A rule, with a premise or without.
from : Term Variable → Term Variable → List ℕ
unfolding block term_entries size
from premise conclusion = block 5 (size premise) (size conclusion) (term_entries premise ++ term_entries conclusion)

start : Term Variable → List ℕ
unfolding block term_entries size
start conclusion = block 5 0 (size conclusion) (term_entries conclusion)

-- Blocks, one after the other.
joined : List (List ℕ) → List ℕ
joined [] = []
joined (b ∷ l) = b ++ joined l

-- ---- document 01's names

-- Atoms: 0 A, 1 I, principals, known; 2 public key of A, known, and 3 its private key, unknown; 4 public key of I and 5
-- its private key, both known; 6 nonce N, unknown; 7 nonce T, known.
pub eight : List ℕ
eight =
    1 ∷ 1 ∷ 0 ∷ 0 ∷ 1 ∷ 1 ∷ 0 ∷ 0 ∷ 3 ∷ 1 ∷ 3 ∷ 0 ∷ 4 ∷ 0 ∷ 2 ∷ 0
    ∷ 3 ∷ 1 ∷ 5 ∷ 0 ∷ 4 ∷ 1 ∷ 4 ∷ 0 ∷ 2 ∷ 0 ∷ 0 ∷ 0 ∷ 2 ∷ 1 ∷ 0 ∷ 0 ∷ []

atoms : List ℕ
unfolding block eight
atoms = block 1 8 0 eight

abbrev I : Term Variable
I = atom 1

abbrev K : Term Variable
K = atom 3

abbrev N : Term Variable
N = atom 6

abbrev T : Term Variable
T = atom 7

abbrev x : Term Variable
x = variable (named (sort plain any_message) 0)

abbrev y : Term Variable
y = variable (named (sort plain any_message) 1)

abbrev s : Term Variable
s = variable (named (sort marked any_message) 0)

-- Nonce variables (02, No. 3): two plain ones, and a marked one, of the numbers of x, y and *s.
abbrev n : Term Variable
n = variable (named (sort plain one_nonce) 0)

abbrev m : Term Variable
m = variable (named (sort plain one_nonce) 1)

abbrev r : Term Variable
r = variable (named (sort marked one_nonce) 0)

-- "Secrets N and 3; good {*s}2, unless said."
usual : List (List ℕ) → List ℕ
unfolding joined atoms secret good
usual rest = joined (atoms ∷ secret N ∷ secret K ∷ good (encrypted 2 s) ∷ rest)

-- Besides N and 3 also this secret (02, No. 7), and this good pattern instead.
besides : Term Variable → List (List ℕ) → List ℕ
unfolding joined atoms secret good
besides t rest = joined (atoms ∷ secret N ∷ secret K ∷ secret t ∷ good (encrypted 2 s) ∷ rest)

instead : Term Variable → List (List ℕ) → List ℕ
unfolding joined atoms secret good
instead pattern rest = joined (atoms ∷ secret N ∷ secret K ∷ good pattern ∷ rest)

-- The hash of a term.
abbrev h : Term Variable → Term Variable
h t = hashed 0 t

-- ---- two atom blocks (02, No. 1)

-- So many known nonces.
nonces : ℕ → List ℕ
nonces zero = []
nonces (suc n) = 2 ∷ 1 ∷ 0 ∷ 0 ∷ nonces n

-- A first block: document 01's atoms, so many nonces, and a private key, unknown, with this partner.
first_atoms : ℕ → ℕ → List ℕ
unfolding block eight nonces
first_atoms n partner = block 1 (9 + n) 0 (eight ++ (nonces n ++ (4 ∷ 0 ∷ partner ∷ 0 ∷ [])))

-- A full one: the key is atom 125.
full : List ℕ
unfolding first_atoms
full = first_atoms 117 126

-- A second block: atom 126 is the public key of 125, and so many nonces.
more : ℕ → List ℕ
unfolding block nonces
more n = block 1 (1 + n) 0 (3 ∷ 1 ∷ 125 ∷ 0 ∷ nonces n)

-- The private key is atom 125.
abbrev L : Term Variable
L = atom 125

-- ---- Needham, Schroeder and Lowe (02, No. 3, and source 004, Example 1 and section 6)

-- Atoms: 0 A, 1 I, principals, known; 2 public key of A, known, and 3 its private key, unknown; 4 public key of I and 5 its
-- private key, both known; 6 to 11 nonces of the sessions, unknown: those of the fixed session, of the other sessions of A
-- with A, and of those with I, N1 before N2 each time; 12 the intruder's nonce, known.
parties : List ℕ
unfolding block
parties = block 1 13 0 (
    1 ∷ 1 ∷ 0 ∷ 0 ∷ 1 ∷ 1 ∷ 0 ∷ 0 ∷ 3 ∷ 1 ∷ 3 ∷ 0 ∷ 4 ∷ 0 ∷ 2 ∷ 0 ∷ 3 ∷ 1 ∷ 5 ∷ 0 ∷ 4 ∷ 1 ∷ 4 ∷ 0
    ∷ 2 ∷ 0 ∷ 0 ∷ 0 ∷ 2 ∷ 0 ∷ 0 ∷ 0 ∷ 2 ∷ 0 ∷ 0 ∷ 0 ∷ 2 ∷ 0 ∷ 0 ∷ 0 ∷ 2 ∷ 0 ∷ 0 ∷ 0 ∷ 2 ∷ 0 ∷ 0 ∷ 0 ∷ 2 ∷ 1 ∷ 0 ∷ 0 ∷ [])

-- A session of the initiator a, who has the public key i and the nonce na, with the responder b, who has the key j and the
-- nonce nb: a names itself and sends na; b sends back what it read, with nb; a sends back what it then read. `said` puts b's
-- name before what b sends back, or leaves it out.
session : (Term Variable → Term Variable → Term Variable) → Term Variable → ℕ → Term Variable → Term Variable → ℕ → Term Variable → List (List ℕ)
unfolding start from
session said a i na b j nb =
    start (encrypted j (pair a na))
    ∷ from (encrypted j (pair a n)) (encrypted i (said b (pair n nb)))
    ∷ from (encrypted i (said b (pair na n))) (encrypted j n)
    ∷ []

-- A with I, I with A, the fixed session of A with A, other sessions of A with A; secrets N2 and A's private key.
handshake : (Term Variable → Term Variable → Term Variable) → Term Variable → List ℕ
unfolding joined parties secret good session
handshake said protects =
    joined (parties ∷ secret (atom 7) ∷ secret (atom 3) ∷ good protects ∷ good (encrypted 2 r)
    ∷ (session said (atom 0) 2 (atom 10) (atom 1) 4 (atom 12) ++ (session said (atom 1) 4 (atom 12) (atom 0) 2 (atom 11)
    ++ (session said (atom 0) 2 (atom 6) (atom 0) 2 (atom 7) ++ session said (atom 0) 2 (atom 8) (atom 0) 2 (atom 9)))))

-- ---- the largest sums (02, No. 6)

-- So many bytes 255.
bytes255 : ℕ → List ℕ
bytes255 zero = []
bytes255 (suc n) = 255 ∷ bytes255 n

-- A block of them, with these four bytes for its check.
largest : List ℕ → List ℕ
unfolding bytes255
largest check = bytes255 508 ++ check

-- ---- the table

-- What the documents say of a case.
pub data Case : Type 0 where
  -- The file gets this number, with block and place, or 0 with its counts.
  judged : List ℕ → VerdictValues → Case
  -- This is the line of the verdict.
  printed : Verdict → String → Case
  -- A check that names this loader number, with this tally: what the verdict says, and the tally that is returned.
  counted : ℕ → List ℕ → Tally → VerdictValues → Tally → Case
  -- The two terms share no instance, over document 01's atoms.
  apart : Term Variable → Term Variable → Case

-- What a check says and what it returns.
pub record Outcome : Type 0 where
  pub verdict : VerdictValues
  pub tally : Tally

abbrev pub outcome : Checked → Outcome
outcome c = record { verdict = verdict_values c.verdict; tally = c.tally }

abbrev pub Holds : Case → Type 0
Holds (judged file values) = verdict_values (verdict_of file) ≡ values
Holds (printed v line) = line_of v ≡ text_of line
Holds (counted n file before values after) =
    outcome (checked_of file n before) ≡ record { verdict = values; tally = after }
Holds (apart s t) = Share (atoms_of eight) s t → ⊥

accepted : ℕ → ℕ → ℕ → ℕ → ℕ → VerdictValues
accepted blocks secrets goods bads rules = record { number = 0; values = blocks ∷ secrets ∷ goods ∷ bads ∷ rules ∷ [] }

refused : ℕ → ℕ → ℕ → VerdictValues
refused number block place = record { number = number; values = block ∷ place ∷ [] }

-- A tally with these counts, accepted and refused, of loader 0 and of loader 7, and 9 and 9 of the others.
counts : ℕ → ℕ → LoaderCounts
counts accepted refused = record { accepted = accepted; refused = refused }

tally : ℕ → ℕ → ℕ → ℕ → Tally
unfolding counts
tally a r b s = record {
  loaders = counts a r ∷ counts 9 9 ∷ counts 9 9 ∷ counts 9 9 ∷ counts 9 9 ∷ counts 9 9 ∷ counts 9 9 ∷ counts b s ∷ [];
}

-- a. rule with no premise, conclusion {N}2
a : List ℕ
unfolding usual start
a = usual (start (encrypted 2 N) ∷ [])

-- b. conclusion {N}4
b : List ℕ
unfolding usual start
b = usual (start (encrypted 4 N) ∷ [])

-- k. N to 3, as 02, No. 4 changes it
k : List ℕ
unfolding usual from
k = usual (from N K ∷ [])

pub table : List Case
unfolding a b k tally usual besides instead joined atoms secret good bad from start accepted refused full more first_atoms block zeros handshake largest eight
table =
    judged a (accepted 5 2 1 0 1)
    ∷ printed (verdict_of a) "accepted blocks=5 secrets=2 good=1 bad=0 rules=1\n"
    ∷ judged b (refused 12 4 1)
    ∷ printed (verdict_of b) "refused 12 block=4 place=1\n"
    -- c. {x}2 to {x}4
    ∷ judged (usual (from (encrypted 2 x) (encrypted 4 x) ∷ [])) (refused 12 4 3)
    -- d. {x}4 to x
    ∷ judged (usual (from (encrypted 4 x) x ∷ [])) (accepted 5 2 1 0 1)
    -- e. good {(T, *s)}2 instead, {(I, x)}2 to {x}4
    ∷ judged
    (joined (atoms ∷ secret N ∷ secret K ∷ good (encrypted 2 (pair T s)) ∷ from (encrypted 2 (pair I x)) (encrypted 4 x) ∷ []))
    (accepted 5 2 1 0 1)
    -- f. with bad {(I, x)}2: the rule of e
    ∷ judged (usual (bad (encrypted 2 (pair I x)) ∷ from (encrypted 2 (pair I x)) (encrypted 4 x) ∷ [])) (accepted 6 2 1 1 1)
    -- g. with the same bad, {(T, x)}2 to {x}2
    ∷ judged (usual (bad (encrypted 2 (pair I x)) ∷ from (encrypted 2 (pair T x)) (encrypted 2 x) ∷ [])) (refused 12 5 5)
    -- h. secret N alone, the rule of a
    ∷ judged (joined (atoms ∷ secret N ∷ good (encrypted 2 s) ∷ start (encrypted 2 N) ∷ [])) (refused 11 2 0)
    -- i. secret T first, the rule of a
    ∷ judged (joined (atoms ∷ secret T ∷ secret N ∷ secret K ∷ good (encrypted 2 s) ∷ start (encrypted 2 N) ∷ [])) (refused 9 1 0)
    -- j. secret (N, T) alone, the rule of a
    ∷ judged (joined (atoms ∷ secret (pair N T) ∷ good (encrypted 2 s) ∷ start (encrypted 2 N) ∷ [])) (refused 10 1 0)
    ∷ judged k (refused 15 4 0)
    ∷ printed (verdict_of k) "refused 15 block=4 place=0\n"
    -- l. (x, x) and (y, (T, y))
    ∷ apart (pair x x) (pair y (pair T y))
    -- two atom blocks, secrets N and 125, good {*s}126, conclusion {N}126: a rule that uses a key of the second
    ∷ judged (joined (full ∷ more 0 ∷ secret N ∷ secret L ∷ good (encrypted 126 s) ∷ start (encrypted 126 N) ∷ [])) (accepted 6 2 1 0 1)
    -- a first block of 125 atoms
    ∷ judged (joined (first_atoms 116 126 ∷ more 0 ∷ secret N ∷ [])) (refused 5 1 0)
    -- a wrong entry in block 0, with a wrong check in block 1 and without
    ∷ judged (joined (first_atoms 117 2 ∷ (1 ∷ zeros 511) ∷ [])) (refused 2 1 0)
    ∷ judged (joined (first_atoms 117 2 ∷ more 0 ∷ [])) (refused 6 0 125)
    -- and with a third atom block, which is looked at later
    ∷ judged (joined (first_atoms 117 2 ∷ more 0 ∷ more 0 ∷ [])) (refused 6 0 125)
    -- a symmetric key of the second block that names its place there
    ∷ judged (joined (full ∷ block 1 2 0 (3 ∷ 1 ∷ 125 ∷ 0 ∷ 5 ∷ 0 ∷ 1 ∷ 0 ∷ []) ∷ [])) (refused 6 1 1)
    -- a third atom block
    ∷ judged (joined (full ∷ more 0 ∷ more 0 ∷ [])) (refused 3 2 0)
    -- 252 atoms: a pair of 251 and 252
    ∷ judged (joined (full ∷ more 125 ∷ secret (pair (atom 251) (atom 252)) ∷ [])) (refused 7 2 2)
    -- bad {(I, (x, y))}2, conclusion {(I, (N, T))}2; the same exception with a mark, {(I, (x, *s))}2, and a secret at the mark
    ∷ judged (usual (bad (encrypted 2 (pair I (pair x y))) ∷ start (encrypted 2 (pair I (pair N T))) ∷ [])) (refused 12 5 4)
    ∷ judged (usual (bad (encrypted 2 (pair I (pair x s))) ∷ start (encrypted 2 (pair I (pair N T))) ∷ [])) (accepted 6 2 1 1 1)
    ∷ judged (usual (bad (encrypted 2 (pair I (pair x s))) ∷ start (encrypted 2 (pair I (pair T N))) ∷ [])) (refused 12 5 5)
    -- bad {(I, *s)}2, {(T, x)}2 to {x}2: the mark lies below the place
    ∷ judged (usual (bad (encrypted 2 (pair I s)) ∷ from (encrypted 2 (pair T x)) (encrypted 2 x) ∷ [])) (refused 12 5 5)
    -- the same bad, {(I, (x, y))}2 to {x}4: the open place has the mark above it; with bad {(I, (x, *s))}2 the mark is beside it
    ∷ judged (usual (bad (encrypted 2 (pair I s)) ∷ from (encrypted 2 (pair I (pair x y))) (encrypted 4 x) ∷ [])) (accepted 6 2 1 1 1)
    ∷ judged (usual (bad (encrypted 2 (pair I (pair x s))) ∷ from (encrypted 2 (pair I (pair x y))) (encrypted 4 x) ∷ [])) (refused 12 5 7)
    -- secret (N, T) too, {(I, (N, T))}2 to N: the mark lies below the place of (N, T), which is not open, so it is no 15
    ∷ judged
    (joined (atoms ∷ secret N ∷ secret K ∷ secret (pair N T) ∷ good (encrypted 2 s) ∷ bad (encrypted 2 (pair I (pair x s)))
    ∷ from (encrypted 2 (pair I (pair N T))) N ∷ []))
    (refused 12 6 6)
    -- two exceptions, {(I, (x, y))}2 to {x}4: the premise is an instance of one, the other has its mark above x
    ∷ judged
    (usual (bad (encrypted 2 (pair I (pair x s))) ∷ bad (encrypted 2 (pair T s)) ∷ from (encrypted 2 (pair I (pair x y))) (encrypted 4 x) ∷ []))
    (refused 12 6 7)
    -- two exceptions, conclusion {(I, (T, N))}2: one shares an instance, the other has its mark above N; then one does both
    ∷ judged
    (usual (bad (encrypted 2 (pair I (pair s y))) ∷ bad (encrypted 2 (pair T s)) ∷ start (encrypted 2 (pair I (pair T N))) ∷ []))
    (accepted 7 2 1 2 1)
    ∷ judged
    (usual (bad (encrypted 2 (pair I (pair x s))) ∷ bad (encrypted 2 (pair T s)) ∷ start (encrypted 2 (pair I (pair T N))) ∷ []))
    (refused 12 6 5)
    -- a nonce variable in a secret, a marked one in a rule, and one of number 8
    ∷ judged (joined (atoms ∷ secret n ∷ [])) (refused 7 1 0)
    ∷ judged (usual (start r ∷ [])) (refused 7 4 0)
    ∷ judged (usual (start (variable (named (sort plain one_nonce) 8)) ∷ [])) (refused 7 4 0)
    -- good {*r}2 of a nonce instead: {N}2; {3}2, a key; {n}2 to {n}2, and {x}2 to {x}2, where x is not known to be a nonce
    ∷ judged (joined (atoms ∷ secret N ∷ secret K ∷ good (encrypted 2 r) ∷ start (encrypted 2 N) ∷ [])) (accepted 5 2 1 0 1)
    ∷ judged (joined (atoms ∷ secret N ∷ secret K ∷ good (encrypted 2 r) ∷ start (encrypted 2 K) ∷ [])) (refused 12 4 1)
    ∷ judged (joined (atoms ∷ secret N ∷ secret K ∷ good (encrypted 2 r) ∷ from (encrypted 2 n) (encrypted 2 n) ∷ [])) (accepted 5 2 1 0 1)
    ∷ judged (joined (atoms ∷ secret N ∷ secret K ∷ good (encrypted 2 r) ∷ from (encrypted 2 x) (encrypted 2 x) ∷ [])) (refused 12 4 3)
    -- good {(n, *s)}2 instead: {(I, x)}2 shares no instance with it, {(T, x)}2 does, and {(y, x)}2 and {(m, x)}2 do
    ∷ judged
    (joined (atoms ∷ secret N ∷ secret K ∷ good (encrypted 2 (pair n s)) ∷ from (encrypted 2 (pair I x)) (encrypted 4 x) ∷ []))
    (accepted 5 2 1 0 1)
    ∷ judged (joined (atoms ∷ secret N ∷ secret K ∷ good (encrypted 2 (pair n s)) ∷ from (encrypted 2 (pair T x)) (encrypted 4 x) ∷ [])) (refused 12 4 5)
    ∷ judged (joined (atoms ∷ secret N ∷ secret K ∷ good (encrypted 2 (pair n s)) ∷ from (encrypted 2 (pair y x)) (encrypted 4 x) ∷ [])) (refused 12 4 5)
    ∷ judged (joined (atoms ∷ secret N ∷ secret K ∷ good (encrypted 2 (pair n s)) ∷ from (encrypted 2 (pair m x)) (encrypted 4 x) ∷ [])) (refused 12 4 5)
    -- good {(x, (x, (x, *s)))}2 instead: in {(n, (y, ({T}4, x)))}2 the class of n meets an encryption later, with T it does not
    ∷ judged
    (joined (atoms ∷ secret N ∷ secret K ∷ good (encrypted 2 (pair x (pair x (pair x s))))
    ∷ from (encrypted 2 (pair n (pair y (pair (encrypted 4 T) x)))) (encrypted 4 x) ∷ []))
    (accepted 5 2 1 0 1)
    ∷ judged
    (joined (atoms ∷ secret N ∷ secret K ∷ good (encrypted 2 (pair x (pair x (pair x s)))) ∷ from (encrypted 2 (pair n (pair y (pair T x)))) (encrypted 4 x) ∷ []))
    (refused 12 4 9)
    -- {x}4 to n: a nonce variable is risky, and is not the plain variable of its number
    ∷ judged (usual (from (encrypted 4 x) n ∷ [])) (refused 12 4 2)
    -- and where no secret is a nonce
    ∷ judged (joined (atoms ∷ secret K ∷ good (encrypted 2 s) ∷ start n ∷ [])) (refused 12 3 0)
    -- bad {(I, *r)}2: it counts for a nonce at the mark, and has no key there
    ∷ judged (usual (bad (encrypted 2 (pair I r)) ∷ start (encrypted 2 (pair I N)) ∷ [])) (refused 12 5 3)
    ∷ judged (usual (bad (encrypted 2 (pair I r)) ∷ start (encrypted 2 (pair I K)) ∷ [])) (accepted 6 2 1 1 1)
    -- Lowe's protocol, with goods {(A, (x, *s))}2 and {*r}2; the uncorrected one, with {(x, *s)}2 in place of the first
    ∷ judged (handshake pair (encrypted 2 (pair (atom 0) (pair x s)))) (accepted 17 2 2 0 12)
    ∷ judged (handshake (λ b t. t) (encrypted 2 (pair x s))) (refused 12 7 5)
    -- N to {N}2: every place of the conclusion is covered, and the premise has a secret all the same
    ∷ judged (usual (from N (encrypted 2 N) ∷ [])) (refused 15 4 0)
    -- {N}2 to {N}2: the secret's place is not open; {N}4 to {N}2: it is
    ∷ judged (usual (from (encrypted 2 N) (encrypted 2 N) ∷ [])) (accepted 5 2 1 0 1)
    ∷ judged (usual (from (encrypted 4 N) (encrypted 2 N) ∷ [])) (refused 15 4 1)
    -- (T, (N, 3)) to T: the first such entry; with secret (N, T) too, (N, T) to T: the pair stands before its half
    ∷ judged (usual (from (pair T (pair N K)) T ∷ [])) (refused 15 4 3)
    ∷ judged (joined (atoms ∷ secret N ∷ secret K ∷ secret (pair N T) ∷ good (encrypted 2 s) ∷ from (pair N T) T ∷ [])) (refused 15 5 0)
    -- x to x and n to n: what shares an instance with a secret is none
    ∷ judged (usual (from x x ∷ [])) (accepted 5 2 1 0 1)
    ∷ judged (usual (from n n ∷ [])) (accepted 5 2 1 0 1)
    -- T to N: the secret stands in the conclusion
    ∷ judged (usual (from T N ∷ [])) (refused 12 4 1)
    -- conclusion {N}4, then N to 3: 15 of the later rule; secret N alone, N to T: 11 comes first; of 3 to T
    -- and N to T the earlier rule
    ∷ judged (usual (start (encrypted 4 N) ∷ from N K ∷ [])) (refused 15 5 0)
    ∷ judged (joined (atoms ∷ secret N ∷ good (encrypted 2 s) ∷ from N T ∷ [])) (refused 11 2 0)
    ∷ judged (usual (from T T ∷ from K T ∷ from N T ∷ [])) (refused 15 5 0)
    -- bad {(I, x)}2, {(I, N)}2 to T: it opens the place; bad {(I, (x, *s))}2, a secret at its mark, and one beside it
    ∷ judged (usual (bad (encrypted 2 (pair I x)) ∷ from (encrypted 2 (pair I N)) T ∷ [])) (refused 15 5 3)
    ∷ judged (usual (bad (encrypted 2 (pair I (pair x s))) ∷ from (encrypted 2 (pair I (pair y N))) T ∷ [])) (refused 15 5 5)
    ∷ judged (usual (bad (encrypted 2 (pair I (pair x s))) ∷ from (encrypted 2 (pair I (pair N y))) T ∷ [])) (accepted 6 2 1 1 1)
    -- the file of a for loader 0, and for loader 7; the file of b, and an empty one, for loader 7
    ∷ counted 0 a (tally 0 0 3 4) (accepted 5 2 1 0 1) (tally 1 0 3 4)
    ∷ counted 7 a (tally 1 0 3 4) (accepted 5 2 1 0 1) (tally 1 0 4 4)
    ∷ counted 7 b (tally 1 0 4 4) (refused 12 4 1) (tally 1 0 4 5)
    ∷ counted 7 [] (tally 1 0 4 5) (refused 1 0 0) (tally 1 0 4 6)
    -- a full count stays, and the other is still raised
    ∷ counted 7 a (tally 1 0 4_294_967_295 6) (accepted 5 2 1 0 1) (tally 1 0 4_294_967_295 6)
    ∷ counted 7 b (tally 1 0 4_294_967_295 6) (refused 12 4 1) (tally 1 0 4_294_967_295 7)
    ∷ counted 0 b (tally 1 4_294_967_295 3 4) (refused 12 4 1) (tally 1 4_294_967_295 3 4)
    -- numbers above 7: 16 before all else, and every count unaltered
    ∷ counted 8 a (tally 1 0 4 6) (refused 16 0 0) (tally 1 0 4 6)
    ∷ counted 15 b (tally 1 0 4 6) (refused 16 0 0) (tally 1 0 4 6)
    ∷ counted 256 [] (tally 1 0 4 6) (refused 16 0 0) (tally 1 0 4 6)
    ∷ printed (Refused Loader) "refused 16 block=0 place=0\n"
    -- 508 bytes 255, A 64,019 and B 10,867: the check is right, and the kind is not; B by weights from 507, and from 509
    ∷ judged (largest (19 ∷ 250 ∷ 115 ∷ 42 ∷ [])) (refused 3 0 0)
    ∷ judged (largest (19 ∷ 250 ∷ 81 ∷ 48 ∷ [])) (refused 2 0 0)
    ∷ judged (largest (19 ∷ 250 ∷ 149 ∷ 36 ∷ [])) (refused 2 0 0)
    -- conclusion h(N), (h(N), N): what stands below a hash is at no place, and a place has the number of its entry
    ∷ judged (usual (start (h N) ∷ [])) (accepted 5 2 1 0 1)
    ∷ judged (usual (start (pair (h N) N) ∷ [])) (refused 12 4 3)
    -- conclusion sig(N)5, sig(T)3: a signature shows its message, and its key is at no place
    ∷ judged (usual (start (signed 5 N) ∷ [])) (refused 12 4 1)
    ∷ judged (usual (start (signed 3 T) ∷ [])) (accepted 5 2 1 0 1)
    -- conclusion {sig(N)3}2, sig({N}2)3: a hat above a signature, and below one
    ∷ judged (usual (start (encrypted 2 (signed 3 N)) ∷ [])) (accepted 5 2 1 0 1)
    ∷ judged (usual (start (signed 3 (encrypted 2 N)) ∷ [])) (accepted 5 2 1 0 1)
    -- conclusion h(x), sig(x)3
    ∷ judged (usual (start (h x) ∷ [])) (accepted 5 2 1 0 1)
    ∷ judged (usual (start (signed 3 x) ∷ [])) (refused 12 4 1)
    -- {h(x)}4 to x: nothing is got out of a hash; {sig(x)3}4 to x: the message is read under any signature
    ∷ judged (usual (from (encrypted 4 (h x)) x ∷ [])) (refused 12 4 3)
    ∷ judged (usual (from (encrypted 4 (signed 3 x)) x ∷ [])) (accepted 5 2 1 0 1)
    -- {sig(x)3}2 to {x}4, sig({x}2)3 to {x}4: encryptions alone close
    ∷ judged (usual (from (encrypted 2 (signed 3 x)) (encrypted 4 x) ∷ [])) (refused 12 4 4)
    ∷ judged (usual (from (signed 3 (encrypted 2 x)) (encrypted 4 x) ∷ [])) (refused 12 4 4)
    -- h(N) to T, sig(N)3 to T, (h(N), N) to T: 15 at places only
    ∷ judged (usual (from (h N) T ∷ [])) (accepted 5 2 1 0 1)
    ∷ judged (usual (from (signed 3 N) T ∷ [])) (refused 15 4 1)
    ∷ judged (usual (from (pair (h N) N) T ∷ [])) (refused 15 4 3)
    -- secret h(N), h(T): a hash needs its message
    ∷ judged (besides (h N) (start (encrypted 2 N) ∷ [])) (accepted 6 3 1 0 1)
    ∷ judged (besides (h T) (start (encrypted 2 N) ∷ [])) (refused 10 3 0)
    -- secret sig(T)3, sig(N)5, sig(T)5: a signature needs its message or its key, the signing key
    ∷ judged (besides (signed 3 T) (start (encrypted 2 N) ∷ [])) (accepted 6 3 1 0 1)
    ∷ judged (besides (signed 5 N) (start (encrypted 2 N) ∷ [])) (accepted 6 3 1 0 1)
    ∷ judged (besides (signed 5 T) (start (encrypted 2 N) ∷ [])) (refused 10 3 0)
    -- secret h(N): conclusion h(N), {h(N)}2, h(x), and h(x) to h(x)
    ∷ judged (besides (h N) (start (h N) ∷ [])) (refused 12 5 0)
    ∷ judged (besides (h N) (start (encrypted 2 (h N)) ∷ [])) (accepted 6 3 1 0 1)
    ∷ judged (besides (h N) (start (h x) ∷ [])) (refused 12 5 0)
    ∷ judged (besides (h N) (from (h x) (h x) ∷ [])) (accepted 6 3 1 0 1)
    -- a hash with a value of 1; a signature by a public key, by a nonce, by a symmetric key
    ∷ judged (usual (start (hashed 1 T) ∷ [])) (refused 7 4 0)
    ∷ judged (usual (start (signed 2 T) ∷ [])) (refused 7 4 0)
    ∷ judged (usual (start (signed 6 T) ∷ [])) (refused 7 4 0)
    ∷ judged (joined (block 1 9 0 (eight ++ (5 ∷ 0 ∷ 8 ∷ 0 ∷ [])) ∷ secret (signed 8 T) ∷ [])) (refused 7 1 0)
    -- a pattern that is a hash, or a signature
    ∷ judged (usual (good (h s) ∷ [])) (refused 8 4 0)
    ∷ judged (usual (good (signed 3 s) ∷ [])) (refused 8 4 0)
    -- secret h(N), good {h(*s)}2: the mark is above no place of {h(N)}2
    ∷ judged (joined (atoms ∷ secret N ∷ secret K ∷ secret (h N) ∷ good (encrypted 2 (h s)) ∷ start (encrypted 2 (h N)) ∷ [])) (refused 12 5 1)
    -- bad {h(*s)}2, {x}2 to {x}2: the mark is below the place; bad {(x, h(*s))}2, conclusion {(N, h(T))}2: it is beside it
    ∷ judged (usual (bad (encrypted 2 (h s)) ∷ from (encrypted 2 x) (encrypted 2 x) ∷ [])) (refused 12 5 3)
    ∷ judged (usual (bad (encrypted 2 (pair x (h s))) ∷ start (encrypted 2 (pair N (h T))) ∷ [])) (accepted 6 2 1 1 1)
    -- good {sig(*s)3}2 instead: {sig(N)3}2, {sig(N)5}2; {sig(x)5}2 to {x}4, which shares no instance with it
    ∷ judged (instead (encrypted 2 (signed 3 s)) (start (encrypted 2 (signed 3 N)) ∷ [])) (accepted 5 2 1 0 1)
    ∷ judged (instead (encrypted 2 (signed 3 s)) (start (encrypted 2 (signed 5 N)) ∷ [])) (refused 12 4 2)
    ∷ judged (instead (encrypted 2 (signed 3 s)) (from (encrypted 2 (signed 5 x)) (encrypted 4 x) ∷ [])) (accepted 5 2 1 0 1)
    -- good {*r}2 of a nonce instead, {sig(x)3}2 to {x}4: a signature is no nonce
    ∷ judged (instead (encrypted 2 r) (from (encrypted 2 (signed 3 x)) (encrypted 4 x) ∷ [])) (accepted 5 2 1 0 1)
    ∷ []

-- ---- the theorem

-- Every case of a list holds.
infixr 35 ◌also◌
data Hold : List Case → Type 0 where
  none : Hold []
  ◌also◌ : {c : Case} {l : List Case} → Holds c → Hold l → Hold (c ∷ l)

each : {l : List Case} → Hold l → (c : Case) → Memᴰ c l → Holds c
each none c m = absurd (Memᴰ.not-nil m)
each (◌also◌ {c = d} {l = l} p h) c m = go (Memᴰ.cases_cons m) (each h c)
  where
    go : (c ≡ d) ⊎ Memᴰ c l → (Memᴰ c l → Holds c) → Holds c
    go (inl e) rest = subst Holds (sym e) p
    go (inr n) rest = rest n

-- All rows, computed.
rows : Hold table
unfolding table computing checked_of tallied_of pair_of line_of accepted_line refused_line three_fields field_of newline digits_of share? atoms_of eight
rows =
    refl also refl also refl also refl also refl also refl also refl also refl also refl also refl also refl also refl also refl
    also refl
    also no_of (share? (atoms_of eight) (pair x x) (pair y (pair T y))) refl
    also refl also refl also refl also refl also refl also refl also refl also refl
    also refl also refl also refl also refl also refl also refl also refl also refl also refl also refl
    also refl also refl also refl also refl also refl also refl also refl also refl also refl also refl
    also refl also refl also refl also refl also refl also refl also refl also refl also refl
    also refl also refl also refl also refl also refl also refl also refl also refl also refl also refl
    also refl also refl also refl also refl
    also refl also refl also refl also refl also refl also refl also refl also refl also refl also refl also refl
    also refl also refl also refl
    also refl also refl also refl also refl also refl also refl also refl also refl also refl also refl
    also refl also refl also refl also refl also refl also refl also refl also refl also refl also refl
    also refl also refl also refl also refl also refl also refl also refl also refl also refl also refl
    also refl also refl also refl also refl also refl also refl also refl
    also none

-- "The starred ones, gathered in one table under one theorem", with those of the requests: every row of the table holds.
pub cases : (c : Case) → Memᴰ c table → Holds c
cases = each rows
