-- What a yes says of the bytes, and what is answered in each case. Assumes nothing.
use Rattle.std.specs.Prelude.{◌≡◌, Bool, true, false, ◌&&◌, List, ℕ, ◌%◌, ◌≤◌, ◌<◌, length, Option, None, Some, is_none}
use Rattle.std.proofs.Common.{refl, sym, ap, ◌∙◌}
use Rattle.std.proofs.lemmas.Bool.{and_parts}
use borrow.Author.Tests.{leb-true, lt-leb, le-leb, eq-eqb, ne_eqb}
use Rattle.blocks.specs.Kinds.{good_kind}
use Rattle.blocks.specs.Limits.{most_term_bytes}
use Rattle.terms.specs.TermEntry.{wrong_entry}
use Rattle.terms.specs.OneTerm.{HasSymbol}
use Rattle.terms.specs.Reading.{one_term?}
use Rattle.terms.specs.Each.{Each}
use Rattle.terms.proofs.OneTermLaws.{right-each, right-symbols, one-begins}
use Rattle.terms.specs.Decide.{answer}
use Rattle.terms.proofs.AnswerLaws.{yes_of}
use Rattle.term_tests.specs.Asked.{atoms_by, most_bytes, is_term, number_by, Term}

none-is : {f : Option ℕ} → is_none f ≡ true → f ≡ None
none-is {f = None} e = refl
none-is {f = Some n} e = cc

module _ (atoms e : List ℕ) where
  pub term_is : is_term atoms e ≡ true → Term atoms e
  unfolding is_term
  term_is q =
      let all = and_parts _ _ q in let three = and_parts _ _ (and_parts _ _ (and_parts _ _ all.0).0).0 in record {
        few = leb-true (length atoms) most_bytes three.0;
        begins = one-begins (yes_of (one_term? e) all.1);
        short = leb-true (length e) most_term_bytes three.1;
      }

  -- Entries of which none is wrong have symbols.
  pub found_symbols : {f : Option ℕ} → length e % 4 ≡ 0 → f ≡ wrong_entry (atoms_by atoms) good_kind e → is_none f ≡ true → Each HasSymbol e
  found_symbols whole is none = right-symbols (right-each (atoms_by atoms) 3 e whole (sym is ∙ none-is none))

  -- The answers, branch by branch.
  pub too_many : most_bytes < length atoms → false ≡ is_term atoms e
  unfolding is_term
  too_many h = sym (rw (lt-leb (length atoms) most_bytes h))

  module _ (few : length atoms ≤ most_bytes) where
    pub too_long : most_term_bytes < length e → false ≡ is_term atoms e
    unfolding is_term
    too_long h = sym (rw (le-leb (length atoms) most_bytes few, lt-leb (length e) most_term_bytes h))

    module _ (short : length e ≤ most_term_bytes) where
      pub not_whole : (length e % 4 ≡ 0 → ⊥) → false ≡ is_term atoms e
      unfolding is_term
      not_whole off = sym (rw (le-leb (length atoms) most_bytes few, le-leb (length e) most_term_bytes short, ne_eqb (length e % 4) 0 off))

      pub by_entries : {f : Option ℕ} (b : Bool) → length e % 4 ≡ 0 → f ≡ wrong_entry (atoms_by atoms) good_kind e
          → b ≡ (is_none f && answer (one_term? e)) → b ≡ is_term atoms e
      unfolding is_term
      by_entries b whole is q =
          q ∙ ap (λ (g : Option ℕ). is_none g && answer (one_term? e)) is
          ∙ sym (rw (le-leb (length atoms) most_bytes few, le-leb (length e) most_term_bytes short, eq-eqb (length e % 4) 0 whole))

module _ (atoms s t : List ℕ) where
  pub asked : {r n : ℕ} → is_term atoms s ≡ true → is_term atoms t ≡ true → r ≡ n → r ≡ number_by (is_term atoms s && is_term atoms t) n
  asked p q e = e ∙ sym (rw (p, q))

  pub first_none : (n : ℕ) → is_term atoms s ≡ false → 2 ≡ number_by (is_term atoms s && is_term atoms t) n
  first_none n p = sym (rw p)

  pub second_none : (n : ℕ) → is_term atoms s ≡ true → is_term atoms t ≡ false → 2 ≡ number_by (is_term atoms s && is_term atoms t) n
  second_none n p q = sym (rw (p, q))
