-- `terms::valid::wrong_entry` meets its contract. Assumes nothing.
use mathlib.Core.Path.{ap, ◌∙◌}
use Prim.Native.Nat.{ℕ, ◌*◌}
use borrow.Author.Rules.{rules}
use Rattle.std.proofs.lemmas.Iterator.{first_from_Range}
use Rattle.terms.specs.Atom.{joined_atoms}
use Rattle.terms.specs.Entry.{from}
use Rattle.terms.specs.EntryTables.{ByLimits, limits_of}
use Rattle.terms.specs.TermEntry.{right_at?, wrong_entry}
use Rattle.terms.proofs.EntryTableLaws.{limits-right}
use Rattle.terms.proofs.FirstLaws.{first-along, first-found, first-only}
use Rattle.terms.proofs.valid.wrong_entry.Goals as goal

pub returns : goal.returns
unfolding wrong_entry
returns c =
    let a = c.args in let all = joined_atoms a.atoms.now a.more.now in
    let right = λ (i : ℕ). ByLimits all c.limits-limits.result (from (4 * i) a.e.now) in
    let found = first_from_Range _ _ _ c.find.result (λ (i : ℕ). ¬ right i) right c.find.ensures.ran (search rules) (search rules) in
    first-only (right_at? all a.kind a.e.now)
    (first-along (λ k l. limits-right all a.kind (c.limits-limits.ensures ∙ ap (limits_of a.kind) c.count.ensures) a.e.now k) (first-found _ found))
