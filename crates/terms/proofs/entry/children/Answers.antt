-- `terms::entry::children` meets its contract. Assumes nothing.
use mathlib.Core.Path.{◌≡◌, ap, ◌∙◌}
use Prim.Native.Nat.{ℕ}
use native.Mathlib.Omega.{arith}
use lib.ListN.{get_or}
use Rattle.terms.specs.Tag.{children_of}
use Rattle.terms.proofs.TagLaws.{children_table, table-children, few-children}
use Rattle.terms.proofs.entry.children.Goals as goal

pub returns : goal.returns
returns c =
    let tag = c.args.tag in let is : c.wide-2.result ≡ children_of tag =
    c.wide-2.ensures.0 ∙ ap (λ (n : ℕ). get_or children_table n 0) c.wide.ensures.0 ∙ table-children tag c.requires in
    (is, omega (arith, is, few-children tag))
