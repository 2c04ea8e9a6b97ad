-- `term_tests::is_term` meets its contract: entries of which none is wrong have symbols. Assumes nothing.
use Rattle.std.proofs.Common.{rules}
use Rattle.term_tests.proofs.AskedLaws.{found_symbols}
use Rattle.term_tests.proofs.is_term.Goals as goal
use Rattle.term_tests.proofs.is_term.Goals.{then-e-eq0, else-e-eq0, then-e-le-MOST_TERM_BYTES, else-e-le-MOST_TERM_BYTES}

pub is_one_term-requires : goal.is_one_term-requires
is_one_term-requires c =
    elim c.if-e-eq0.branch [
      | then-e-eq0 w ↦ elim c.if-e-le-MOST_TERM_BYTES.branch [
        | then-e-le-MOST_TERM_BYTES v ↦ (found_symbols c.args.atoms.now c.args.e.now (search rules) (rw w.from.ensures at w.wrong_entry.ensures) (search rules), search rules)
        | else-e-le-MOST_TERM_BYTES v ↦ search rules
      ]
      | else-e-eq0 w ↦ search rules
    ]
