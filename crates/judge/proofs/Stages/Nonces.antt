-- Laws of the flags that tell a file's nonces, in the table of what is noted of it. Assumes nothing.
use mathlib.Core.Path.{◌≡◌, sym, ap, ◌∙◌}
use mathlib.Core.List.{List}
use Prim.Native.Nat.{ℕ, ◌+◌, ◌/◌, ◌<◌, ◌≤◌}
use mathlib.Core.Logic.{∥∥₁_elim}
use mathlib.Core.HLevel.{⊥_prop}
use native.Mathlib.Bridge.{le_prop}
use native.Mathlib.Nat.{ℕ_set}
use native.Mathlib.Omega.{arith}
use lib.ListN.{length, get_or}
use borrow.Rule.Slice.PartMut.{put_mid, take_put}
use Rattle.std.proofs.lemmas.Slice.{between-put_mid}
use Rattle.std.proofs.lemmas.List.{places, get_or-take}
use Rattle.terms.specs.Sizes.{KeptBelow}
use borrow.Author.Rules.{rules}
use Rattle.blocks.specs.Block.{block_at, first_entries}
use Rattle.terms.specs.declared.atom.Atom.{Atom}
use Rattle.terms.specs.Atom.{Nonce, nonce?, joined_atoms}
use Rattle.terms.specs.Nonces.{most_nonces, NoncesIn}
use Rattle.terms.specs.Entry.{from}
use Rattle.terms.proofs.AtomLaws.{joined_length}
use Rattle.judge.specs.File.{more_entries, file_atoms, certificate_of}
use Rattle.judge.specs.Laid.{Laid}
use Rattle.judge.specs.Listed.{atoms_in, nonce_slots, listed_sizes, SizesIn}
use Rattle.judge.proofs.Files.AtomBlocks.{few-atoms}

-- A list whose last n numbers are written anew.
put-last : (low n : ℕ) (old new : List ℕ) → length old ≡ low + n → length new ≡ n → (from low (put_mid low n old new) ≡ new) × KeptBelow low old (put_mid low n old new)
put-last low n old new long size =
    let all : length (put_mid low n old new) ≡ length old = search (rules, places) in (
      between-put_mid low n old new (length (put_mid low n old new)) (omega arith) (omega arith),
      record { long = all; same = λ k h. sym (get_or-take low (put_mid low n old new) k 0 h) ∙ ap (λ (l : List ℕ). get_or l k 0) (take_put low n old new (omega arith)) ∙ get_or-take low old k 0 h },
    )

-- The flags of the nonces, put in their place.
pub nonces-put : {atoms : List Atom} {flags : List ℕ} (old new : List ℕ) → NoncesIn atoms flags → length flags ≡ most_nonces → length old ≡ listed_sizes → new ≡ flags
    → NoncesIn atoms (from nonce_slots (put_mid nonce_slots most_nonces old new)) × KeptBelow nonce_slots old (put_mid nonce_slots most_nonces old new)
nonces-put old new told many long is =
    let put = put-last nonce_slots most_nonces old new long (rw is many) in (rw (put.0, is) told, put.1)

-- The atoms of a file, and how many there are.
pub atoms-told : (file : List ℕ) {first more flags : List ℕ} → first ≡ first_entries (block_at file 0) → more ≡ more_entries file → NoncesIn (joined_atoms first more) flags
    → NoncesIn (atoms_in file) flags
unfolding certificate_of file_atoms
atoms-told file is is' told = rw (is, is') at told

pub atoms-few : {file first more : List ℕ} → Laid file → first ≡ first_entries (block_at file 0) → more ≡ more_entries file
    → length first / 4 + length more / 4 ≤ most_nonces
unfolding file_atoms
atoms-few {file} laid is is' =
    let few = few-atoms file laid.atoms in
    rw (is, is') (omega (arith, joined_length (first_entries (block_at file 0)) (more_entries file), few))

-- As the code reads them.
pub nonces-read : {file sizes flags : List ℕ} → ∥ SizesIn file sizes ∥₁ → flags ≡ from nonce_slots sizes → NoncesIn (atoms_in file) flags
nonces-read {file} {sizes} all is = rw is (record {
  long = ∥∥₁_elim all le_prop (λ a. a.nonces.long);
  at = λ n low. (λ on. go n low on (nonce? (atoms_in file) n), λ nonce. ∥∥₁_elim all (ℕ_set _ _) (λ a. (a.nonces.at n low).1 nonce));
})
  where
    go : (n : ℕ) → n < length (from nonce_slots sizes) → get_or (from nonce_slots sizes) n 0 ≡ 1 → Dec (Nonce (atoms_in file) n) → Nonce (atoms_in file) n
    go n low on (yes nonce) = nonce
    go n low on (no off) = absurd (∥∥₁_elim all ⊥_prop (λ a. off ((a.nonces.at n low).0 on)))
