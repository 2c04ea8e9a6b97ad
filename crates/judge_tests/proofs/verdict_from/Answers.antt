-- `judge_tests::verdict_from` meets its contract. Assumes nothing.
use Rattle.judge_tests.proofs.AskedLaws.{from-none, from-length, from-missing, from-loader, from-other}
use Rattle.judge_tests.proofs.verdict_from.Goals as goal

pub returns-then-number-eq0 : goal.returns-then-number-eq0
returns-then-number-eq0 c = from-none _ _ _ c.if-number-eq0.true

pub returns-then-number-eq1 : goal.returns-then-number-eq1
returns-then-number-eq1 c = from-length _ _ _ c.if-number-eq0.false c.if-number-eq1.true

pub returns-then-number-eq4 : goal.returns-then-number-eq4
returns-then-number-eq4 c = from-missing _ _ _ c.if-number-eq0.false c.if-number-eq1.false c.if-number-eq4.true

pub returns-then-number-eq16 : goal.returns-then-number-eq16
returns-then-number-eq16 c =
    from-loader _ _ _ c.if-number-eq0.false c.if-number-eq1.false c.if-number-eq4.false
    c.if-number-eq16.true

pub returns : goal.returns
returns c =
    from-other _ _ _ c.if-number-eq0.false c.if-number-eq1.false c.if-number-eq4.false
    c.if-number-eq16.false
