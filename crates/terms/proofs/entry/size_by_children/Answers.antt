-- `terms::entry::size_by_children` meets its contract. Assumes nothing.
use mathlib.Core.Path.{sym, ◌∙◌}
use native.Mathlib.Omega.{arith}
use Rattle.terms.proofs.TagLaws.{one_tag, one-child}
use Rattle.terms.proofs.SizeLaws.{tag-there, leaf-size, PairSizes, pair-read, ContentSize, pair-sizes, content-size}
use Rattle.terms.proofs.entry.size_by_children.Goals as goal
use Rattle.terms.proofs.entry.size_by_children.Goals.{Then-children-eq1, Then-tag-eq-PAIR}

-- The entry is a pair, and the table has the sizes of its halves.
halves : (c : Then-tag-eq-PAIR) → PairSizes c.args.e.now c.args.z.now c.args.base c.args.k
halves c = pair-sizes c.args.k c.requires.0 c.requires.1 c.requires.4 c.if-tag-eq-PAIR.true

-- The entry is something around a term.
content : (c : Then-children-eq1) → ContentSize c.args.e.now c.args.z.now c.args.base c.args.k
content c =
    content-size c.args.k c.requires.0 c.requires.1 c.requires.4 (one_tag _ (sym c.children.ensures.0 ∙ c.if-children-eq1.true))

pub bounds-z-base : goal.bounds-z-base
bounds-z-base c = (halves (goal.at.bounds-z-base c).Then-tag-eq-PAIR).left-inside

pub bounds-z-base-then-tag-eq-PAIR : goal.bounds-z-base-then-tag-eq-PAIR
bounds-z-base-then-tag-eq-PAIR c =
    let p = halves (goal.at.bounds-z-base-then-tag-eq-PAIR c).Then-tag-eq-PAIR in omega (arith, p.right-inside, p.left-size)

pub overflow_cast-result : goal.overflow_cast-result
overflow_cast-result c =
    let p = halves (goal.at.overflow_cast-result c).Then-tag-eq-PAIR in omega (arith, p.small, pair-read p c.wide-left.ensures.0 c.wide.ensures.0)

pub children-requires : goal.children-requires
children-requires c = tag-there c.args.k c.requires.0 c.requires.3

pub bounds-z-base-then-children-eq1 : goal.bounds-z-base-then-children-eq1
bounds-z-base-then-children-eq1 c = (content (goal.at.bounds-z-base-then-children-eq1 c).Then-children-eq1).inside

pub overflow_cast-result-then-children-eq1 : goal.overflow_cast-result-then-children-eq1
overflow_cast-result-then-children-eq1 c =
    let p = content (goal.at.overflow_cast-result-then-children-eq1 c).Then-children-eq1 in omega (arith, p.small, p.whole, p.content-size)

pub returns-then-tag-eq-PAIR : goal.returns-then-tag-eq-PAIR
returns-then-tag-eq-PAIR c =
    pair-read (halves (goal.at.returns-then-tag-eq-PAIR c).Then-tag-eq-PAIR) c.wide-left.ensures.0 c.wide.ensures.0

pub returns-then-children-eq1 : goal.returns-then-children-eq1
returns-then-children-eq1 c =
    let p = content (goal.at.returns-then-children-eq1 c).Then-children-eq1 in omega (arith, p.whole, p.content-size)

pub returns-else-children-eq1 : goal.returns-else-children-eq1
returns-else-children-eq1 c =
    sym (leaf-size c.args.k c.requires.0 c.requires.3 c.if-tag-eq-PAIR.false (λ w. c.if-children-eq1.false (c.children.ensures.0 ∙ sym (one-child w))))
