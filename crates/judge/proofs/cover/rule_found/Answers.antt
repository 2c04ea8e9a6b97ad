-- `judge::cover::rule_found` meets its contract. Assumes nothing.
use Rattle.judge.specs.File.{rule_of}
use Rattle.judge.proofs.Covering.Opens.{opened-within}
use Rattle.judge.proofs.Covering.Covers.{premise-is, conclusion-is, conclusion-concluded, concluded-entries, entries-flagged, flags-asked, secret-rule, uncovered-rule}
use Rattle.judge.proofs.Stages.JudgingLaws.{found-premise, found-unasked, found-asked}
use borrow.Author.Rules.{rules}
use Rattle.judge.proofs.cover.rule_found.Goals as goal

pub returns-in-Some-clause-answer : goal.returns-in-Some-clause-answer
returns-in-Some-clause-answer c =
    let pre = c.requires in let first = c.first_entries-premise.ensures in
    found-premise _ _ _ (secret-rule pre.0 (rule_of c.args.block.now) (premise-is pre.1 first.part first.size) c.open_places-opened.ensures.flags
    c.wanted_places-wanted.ensures c.in-Some.ensures)

pub returns-then-not-asked-clause-answer : goal.returns-then-not-asked-clause-answer
returns-then-not-asked-clause-answer c =
    let pre = c.requires in let first = c.first_entries-premise.ensures in
    found-unasked _ _ _ (secret-rule pre.0 (rule_of c.args.block.now) (premise-is pre.1 first.part first.size) c.open_places-opened.ensures.flags
    c.wanted_places-wanted.ensures c.in_default.ensures) c.if-not-asked.true

pub bare_places-bare-requires : goal.bare_places-bare-requires
bare_places-bare-requires c =
    let pre = c.requires in let first = c.first_entries-premise.ensures in let second = c.second_entries-conclusion.ensures in (
      opened-within (entries-flagged (premise-is pre.1 first.part first.size).entries c.wanted_places-wanted.ensures) c.open_places-opened.ensures.flags,
      entries-flagged (concluded-entries (conclusion-concluded pre.0 pre.1 second.part second.size)) c.asked_places-risky.ensures,
    )

pub returns-clause-answer : goal.returns-clause-answer
returns-clause-answer c =
    let pre = c.requires in let rule = rule_of c.args.block.now in let on = c.if-not-asked.false in
    let first = c.first_entries-premise.ensures in let premise = premise-is pre.1 first.part first.size in
    let second = c.second_entries-conclusion.ensures in let concluded = conclusion-concluded pre.0 pre.1 second.part second.size in let whole = concluded.whole in
    let wanted = c.wanted_places-wanted.ensures in let opened = c.open_places-opened.ensures.flags in
    found-asked _ _ _ (secret-rule pre.0 rule premise opened wanted c.in_default.ensures) on
    (uncovered-rule pre.0 rule premise wanted opened concluded (conclusion-is pre.1 second.part) (flags-asked on c.asked_places-risky.ensures)
    c.bare_places-bare.ensures c.take_hats.ensures.flags (search rules) c.first_on.ensures) c.map.ensures.cases
