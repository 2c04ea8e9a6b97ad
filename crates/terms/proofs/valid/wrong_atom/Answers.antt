-- `terms::valid::wrong_atom` meets its contract. Assumes nothing.
use Prim.Native.Nat.{ℕ}
use borrow.Author.Rules.{rules}
use Rattle.std.proofs.lemmas.Iterator.{first_from_Range}
use Rattle.terms.specs.Atom.{AtomRight, joined_atoms, atom_right?, wrong_atom}
use Rattle.terms.proofs.FirstLaws.{first-found, first-only}
use Rattle.terms.proofs.valid.wrong_atom.Goals as goal

pub returns : goal.returns
unfolding wrong_atom
returns c =
    let all = joined_atoms c.args.atoms.now c.args.more.now in
    let found = first_from_Range _ _ _ c.find.result (λ (i : ℕ). ¬ AtomRight all i) (AtomRight all) c.find.ensures.ran (search rules) (search rules) in
    rw c.count.ensures at (first-only (atom_right? all) (first-found _ found))
