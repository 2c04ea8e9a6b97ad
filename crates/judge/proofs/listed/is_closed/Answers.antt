-- `judge::listed::is_closed` meets its contract. Assumes nothing.
use mathlib.Core.Path.{sym, ◌∙◌}
use Rattle.terms.proofs.EntryLaws.{begins-tag, begins, pair-first, wrapped-first, right-begins}
use Rattle.terms.proofs.TagLaws.{one_tag, one-child}
use Rattle.judge.specs.File.{certificate_of}
use Rattle.judge.proofs.Stages.Listing.{search-part}
use Rattle.judge.proofs.Stages.Numbers.{closed-left, closed-right, closed-content, closed-hash, closed-key, closed-atom}
use borrow.Author.Rules.{rules}
use Rattle.judge.proofs.listed.is_closed.Goals as goal

pub is_listed_secret-requires : goal.is_listed_secret-requires
is_listed_secret-requires c = let pre = c.requires in search-part 4 pre (begins (pair-first pre.term c.in-2.is).below)

pub term_size-requires : goal.term_size-requires
term_size-requires c = let pre = c.requires in begins (pair-first pre.term c.in-2.is).below

pub is_listed_secret-requires-else-is_listed_secret : goal.is_listed_secret-requires-else-is_listed_secret
is_listed_secret-requires-else-is_listed_secret c =
    let pre = c.requires in search-part _ pre (begins (right-begins (pair-first pre.term c.in-2.is) c.term_size.ensures.0))

pub children-requires : goal.children-requires
children-requires c = begins-tag c.requires.term

pub is_listed_secret-requires-in_default : goal.is_listed_secret-requires-in_default
is_listed_secret-requires-in_default c =
    let pre = c.requires in let one = one_tag _ (sym c.children.ensures.0 ∙ c.if-children-eq1.true) in
    search-part 4 pre (begins (wrapped-first pre.term one.wrapping one.is).below)

pub returns-then-is_listed_secret : goal.returns-then-is_listed_secret
returns-then-is_listed_secret c = λ m message.
    let yes = c.if-is_listed_secret.true in
    rw yes (closed-left (certificate_of c.args.file.now) c.requires.term m message c.in-2.is c.is_listed_secret.ensures yes)

pub returns-else-is_listed_secret : goal.returns-else-is_listed_secret
returns-else-is_listed_secret c = λ m message.
    closed-right (certificate_of c.args.file.now) c.requires.term m message c.in-2.is c.is_listed_secret.ensures c.if-is_listed_secret.false
    c.term_size.ensures.0 c.is_listed_secret-else-is_listed_secret.result c.is_listed_secret-else-is_listed_secret.ensures

pub returns-then-is_listed_secret-2 : goal.returns-then-is_listed_secret-2
returns-then-is_listed_secret-2 c = λ m message.
    let one = one_tag _ (sym c.children.ensures.0 ∙ c.if-children-eq1.true) in let yes = c.if-is_listed_secret-2.true in
    rw yes (closed-content (certificate_of c.args.file.now) c.requires.term m message one c.is_listed_secret-in_default.ensures yes)

pub returns-then-tag-ne-HASH : goal.returns-then-tag-ne-HASH
returns-then-tag-ne-HASH c = λ m message.
    let one = one_tag _ (sym c.children.ensures.0 ∙ c.if-children-eq1.true) in
    closed-key (certificate_of c.args.file.now) c.requires.term m message one c.is_listed_secret-in_default.ensures
    c.if-is_listed_secret-2.false c.if-tag-ne-HASH.true c.value.ensures.0 c.is_listed_atom.result c.is_listed_atom.ensures

pub returns-else-tag-ne-HASH : goal.returns-else-tag-ne-HASH
returns-else-tag-ne-HASH c = λ m message.
    let one = one_tag _ (sym c.children.ensures.0 ∙ c.if-children-eq1.true) in
    rw c.if-tag-ne-HASH.false (closed-hash (certificate_of c.args.file.now) c.requires.term m message one c.is_listed_secret-in_default.ensures
    c.if-is_listed_secret-2.false c.if-tag-ne-HASH.false)

pub returns-in_default-2 : goal.returns-in_default-2
returns-in_default-2 c = λ m message.
    closed-atom (certificate_of c.args.file.now) c.requires.term m message (search rules) (λ w. c.if-children-eq1.false (c.children.ensures.0 ∙ sym (one-child w)))
