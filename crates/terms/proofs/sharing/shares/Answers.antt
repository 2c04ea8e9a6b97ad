-- `terms::sharing::shares` meets its contract. Assumes nothing.
use mathlib.Core.Path.{sym, ◌∙◌}
use Rattle.terms.specs.Decide.{share?}
use Rattle.terms.proofs.AnswerLaws.{answer-yes}
use Rattle.terms.proofs.MeetingLaws.{roots-apart, walking_start, free-match}
use Rattle.terms.proofs.ShareLaws.{apart-answer}
use Rattle.terms.proofs.sharing.shares.Goals as goal

pub returns-then-roots_differ : goal.returns-then-roots_differ
returns-then-roots_differ c =
    λ atoms told. apart-answer atoms _ _ (roots-apart c.requires.0 (c.roots_differ.ensures c.if-roots_differ.true))

pub meet-requires : goal.meet-requires
meet-requires c = walking_start c.requires.0

pub returns-in_default : goal.returns-in_default
returns-in_default c = λ atoms told. apart-answer atoms _ _ c.in_default.ensures

pub returns-then-is_free_match : goal.returns-then-is_free_match
returns-then-is_free_match c =
    λ atoms told. c.if-is_free_match.true ∙ sym (answer-yes (share? atoms _ _) (free-match _ _ _ (c.is_free_match.ensures c.if-is_free_match.true) atoms c.in-Some.ensures))
