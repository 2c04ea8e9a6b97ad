-- Two terms that begin with different symbols have no message in common.
use mathlib.Core.Path.{◌≡◌, sym, ap, ◌∙◌}
use mathlib.Core.List.{List, ◌∷◌}
use Prim.Native.Nat.{ℕ}
use native.Mathlib.Omega.{arith}
use lib.ListN.{drop}
use Rattle.terms.specs.Term.{Term, atom, pair, Message, Variable, replace, wrapped}
use Rattle.terms.specs.Apart.{Common}
use Rattle.terms.specs.Tag.{SymbolTag, sort-tag}
use Rattle.terms.specs.Entry.{term_of, Begins, tag_at, value_at}
use Rattle.terms.specs.Solve.{form}
use Rattle.terms.specs.Reading.{First, first_atom, first_pair, first_wrapped, first_variable, first}
use Rattle.terms.proofs.EntryLaws.{term_of-reads}
use Rattle.terms.proofs.ClassLaws.{number}

-- Replacing variables leaves a symbol at the root as it is.
record Root (tag value : ℕ) (t : Term Variable) : Type 0 where
  tagged : SymbolTag tag → (by : Variable → Message) → form (replace by t) ≡ tag
  valued : SymbolTag tag → (by : Variable → Message) → number (replace by t) ≡ value

root : {e : List ℕ} → Begins e → Root (tag_at e) (value_at e) (term_of e)
unfolding replace form number
root {e} b = go (first b.reads) (term_of-reads b.reads)
  where
    go : {tag n : ℕ} {t : Term Variable} → First tag n (drop 4 e) (b.term ∷ b.others) → t ≡ b.term → Root tag n t
    go {n = n} {t = t} (first_atom {m} g q k) is =
        let here : t ≡ atom n = cc in record { tagged = λ h by. rw here (sym g); valued = λ h by. rw here }
    go {t = t} (first_pair {t = l} {u = r} g zero q k) is =
        let here : t ≡ pair l r = cc in record { tagged = λ h by. rw here (sym g); valued = λ h by. rw here (sym zero) }
    go {n = n} {t = t} (first_wrapped {w = w} {t = c} i g q k) is =
        let here : t ≡ wrapped w n c = cc in record { tagged = λ h by. rw here (sym i); valued = λ h by. rw here }
    go (first_variable {s = s} g v n q k) is =
        record { tagged = λ h by. absurd (omega (arith, sort-tag s g)); valued = λ h by. absurd (omega (arith, sort-tag s g)) }

module _ {s t : List ℕ} (left : Begins s) (right : Begins t) (symbol : SymbolTag (tag_at s)) (other : SymbolTag (tag_at t)) where
  pub tags-apart : (tag_at s ≡ tag_at t → ⊥) → Common (term_of s) (term_of t) → ⊥
  tags-apart off h = off
      (sym ((root left).tagged symbol h.left.by) ∙ ap form (h.left.same ∙ sym h.right.same) ∙ (root right).tagged other h.right.by)

  pub values-apart : (value_at s ≡ value_at t → ⊥) → Common (term_of s) (term_of t) → ⊥
  values-apart off h = off
      (sym ((root left).valued symbol h.left.by) ∙ ap number (h.left.same ∙ sym h.right.same) ∙ (root right).valued other h.right.by)
