-- `judge_tests::zepayong_tally` meets its contract. Assumes nothing.
use Rattle.judge_tests.proofs.TallyLaws.{not-sixteen, sixteen}
use Rattle.judge_tests.proofs.zepayong_tally.Goals as goal

pub returns-then-counts-ne-NUMBERS : goal.returns-then-counts-ne-NUMBERS
returns-then-counts-ne-NUMBERS c =
    record { answer = (not-sixteen _ _ _ c.if-counts-ne-NUMBERS.true).0; counts = (not-sixteen _ _ _ c.if-counts-ne-NUMBERS.true).1 }

pub returns : goal.returns
returns c =
    record {
      answer = (sixteen _ _ _ c.if-counts-ne-NUMBERS.false c.tally_from.ensures c.check-c.ensures.checked
          c.put_tally.ensures c.packed.ensures).0;
      counts = (sixteen _ _ _ c.if-counts-ne-NUMBERS.false c.tally_from.ensures c.check-c.ensures.checked
          c.put_tally.ensures c.packed.ensures).1;
    }
