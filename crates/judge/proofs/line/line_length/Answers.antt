-- `judge::line::line_length` meets its contract. Assumes nothing.
use mathlib.Core.Path.{sym, ap, ◌∙◌}
use lib.ListN.{length}
use Rattle.judge.proofs.Answering.Printing.{line-accepted, line_refused}
use Rattle.judge.proofs.line.line_length.Goals as goal

pub returns-in-Accepted : goal.returns-in-Accepted
returns-in-Accepted c = c.accepted_length.ensures ∙ ap length (sym (line-accepted c.in-Accepted.is))

pub returns-in-Refused : goal.returns-in-Refused
returns-in-Refused c =
    c.refused_length.ensures ∙ ap length (sym (line_refused c.in-Refused.is c.number.ensures.0 c.block_of.ensures
    c.place_of.ensures))
