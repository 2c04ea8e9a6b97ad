-- `terms::classes::unite`, `unite_halves` and `unite_names` meet their contracts; the measure is three times the number of
-- classes, one more for `unite` and two more for `unite_halves`. Assumes nothing.
use mathlib.Core.Path.{sym, ◌∙◌}
use mathlib.Core.Logic.{⊎_elim}
use native.Mathlib.Omega.{arith}
use Rattle.terms.proofs.GraphLaws.{moved, both-answer}
use Rattle.terms.proofs.ClassAnswers.{two-names, met-as, differ-answer, names-linked, names-fewer, free-answer, atoms-answer, contents-answer}
use Rattle.terms.proofs.ClassAnswers.{halves-answer, one-class-answer, ordered-names, ordered-answer}
use borrow.Author.Tests.{eq-eqb}
use borrow.Author.Rules.{rules}
use Rattle.terms.proofs.classes.+unite_unite_halves_unite_names.Goals as goal

pub unite-returns-then-a-b : goal.unite-returns-then-a-b
unite-returns-then-a-b t c =
    let same = c.if-a-b.true in
    (c.requires.0, search rules, rw (eq-eqb c.find-a.result c.find-b.result same) (one-class-answer c.requires.0 c.find-a.ensures.0 c.find-b.ensures.0 same))

pub unite-unite_names-requires : goal.unite-unite_names-requires
unite-unite_names-requires t c =
    let w = ordered-names c.requires.0 c.find-a.ensures.0 c.find-b.ensures.0 c.requires.1 c.requires.2 c.if-a-b.false in
    let o = rw (← c.max.ensures, ← c.min.ensures) at w in
    (omega (arith, c.decreases), (c.requires.0, o.first, o.second, o.first-named, o.second-named, o.above))

pub unite-returns-else-a-b : goal.unite-returns-else-a-b
unite-returns-else-a-b t c =
    let done = c.unite_names.ensures in
    (done.0, done.1, ordered-answer c.requires.0 c.find-a.ensures.0 c.find-b.ensures.0 (rw (c.max.ensures, c.min.ensures) at done.2))

pub unite_halves-returns-then-unite : goal.unite_halves-returns-then-unite
unite_halves-returns-then-unite t c =
    let first = c.unite.ensures in let then = c.unite-then-unite.ensures in let step = (moved c.first_child.ensures.0 c.first_child-2.ensures.0 first.2).stepped c.if-unite.true in (
      then.0,
      omega (arith, then.1, first.1),
      both-answer step (moved c.second_child.ensures.0 c.second_child-then-unite.ensures.0 then.2),
    )

pub unite_names-unite-requires : goal.unite_names-unite-requires
unite_names-unite-requires t c =
    let w = two-names c.requires.0 c.requires.1 c.requires.2 c.requires.3 c.requires.4 c.requires.5 in
    (omega (arith, c.decreases, names-fewer w), (names-linked w, c.first_child.ensures.1, c.first_child-in-Wrappers.ensures.1))

pub unite_names-unite_halves-requires : goal.unite_names-unite_halves-requires
unite_names-unite_halves-requires t c =
    let w = two-names c.requires.0 c.requires.1 c.requires.2 c.requires.3 c.requires.4 c.requires.5 in
    (omega (arith, c.decreases, names-fewer w), (names-linked w, c.in-Pairs.ensures.2, sym c.in-Pairs.ensures.1 ∙ c.in-Pairs.ensures.2))

pub unite_names-returns-in-Differ : goal.unite_names-returns-in-Differ
unite_names-returns-in-Differ t c =
    let w = two-names c.requires.0 c.requires.1 c.requires.2 c.requires.3 c.requires.4 c.requires.5 in
    (c.requires.0, search rules, differ-answer w c.in-Differ.ensures)

pub unite_names-returns-in-Free : goal.unite_names-returns-in-Free
unite_names-returns-in-Free t c =
    let w = two-names c.requires.0 c.requires.1 c.requires.2 c.requires.3 c.requires.4 c.requires.5 in (
      names-linked w,
      omega (arith, names-fewer w),
      ⊎_elim (λ e. free-answer w (met-as _ _ _ _ c.meeting.ensures e)) (λ e. atoms-answer w (met-as _ _ _ _ c.meeting.ensures e)) c.in-Free.is,
    )

pub unite_names-returns-in-Wrappers : goal.unite_names-returns-in-Wrappers
unite_names-returns-in-Wrappers t c =
    let w = two-names c.requires.0 c.requires.1 c.requires.2 c.requires.3 c.requires.4 c.requires.5 in let below = c.unite.ensures in (
      below.0,
      omega (arith, below.1, names-fewer w),
      contents-answer w c.in-Wrappers.ensures (moved c.first_child.ensures.0 c.first_child-in-Wrappers.ensures.0 below.2),
    )

pub unite_names-returns-in-Pairs : goal.unite_names-returns-in-Pairs
unite_names-returns-in-Pairs t c =
    let w = two-names c.requires.0 c.requires.1 c.requires.2 c.requires.3 c.requires.4 c.requires.5 in
    let below = c.unite_halves.ensures in (below.0, omega (arith, below.1, names-fewer w), halves-answer w c.in-Pairs.ensures below.2)
