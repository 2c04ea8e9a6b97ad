-- `c_call::zepayong_check` meets its contract. Assumes nothing.
use mathlib.Core.Path.{ap, ◌∙◌}
use Rattle.judge.specs.Answer.{packed_of}
use Rattle.c_call.proofs.zepayong_check.Goals as goal

pub returns : goal.returns
returns c = c.packed.ensures ∙ ap packed_of c.judge.ensures.verdict
