-- `judge::judging::found_in` meets its contract. Assumes nothing.
use mathlib.Core.Path.{ap, sym}
use Rattle.blocks.specs.Block.{first_entries, second_entries}
use Rattle.judge.proofs.Covering.Repeats.{known-here, known_next, remembered-of, rule-here}
use Rattle.judge.proofs.judging.found_in.Goals as goal

pub rule_found-requires : goal.rule_found-requires
rule_found-requires c =
    let pre = c.requires in let same = c.block.ensures.part in (
      pre.0.heads.laid,
      rule-here pre.0.laid pre.1 pre.2 same,
      remembered-of (ap first_entries same) (known-here _ _ c.repeats_premise.result c.repeats_premise.ensures pre.3 c.renew.ensures),
      remembered-of (ap second_entries same) (known-here _ _ c.repeats_conclusion.result c.repeats_conclusion.ensures pre.4 c.renew-2.ensures),
    )

pub returns-clause-premise : goal.returns-clause-premise
returns-clause-premise c = known_next _ _ (remembered-of (ap first_entries (sym c.block.ensures.part)) c.rule_found.ensures.premise)

pub returns-clause-conclusion : goal.returns-clause-conclusion
returns-clause-conclusion c = known_next _ _ (remembered-of (ap second_entries (sym c.block.ensures.part)) c.rule_found.ensures.conclusion)
