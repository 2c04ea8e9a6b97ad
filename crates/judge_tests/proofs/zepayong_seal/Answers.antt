-- `judge_tests::zepayong_seal` meets its contract. Assumes nothing.
use mathlib.Core.Path.{ap, ◌∙◌}
use Rattle.judge_tests.specs.Asked.{packed_writing}
use Rattle.judge_tests.proofs.zepayong_seal.Goals as goal

pub returns : goal.returns
returns c =
    record { answer = c.writing.ensures ∙ ap packed_writing c.seal.ensures.answer; bytes = c.seal.ensures.bytes }
