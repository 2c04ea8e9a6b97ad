-- Laws of specs/Judgement.antt and of numbers 12, 15 and the verdict of specs/Verdict.antt, for the proofs of the code. Assumes nothing.
use Rattle.std.specs.Option.{is_some, MatchOption, IsSomeAnd}
use Rattle.std.specs.Prelude.{Option as Maybe, Some, None, Result, Ok, Err}
use mathlib.Core.Path.{◌≡◌, refl, sym, ap, ◌∙◌}
use mathlib.Core.Bool.{Bool, true, false, false≢true, not, cond}
use mathlib.Core.List.{List}
use mathlib.Core.Option.{Option, none, some, none-ne-some}
use Prim.Native.Nat.{ℕ, suc, ◌+◌, ◌-◌, ◌*◌, ◌≤◌, ◌<◌}
use native.Mathlib.Numerals.{add-one}
use native.Mathlib.Omega.{arith}
use native.Mathlib.Decide.{ℕ_discrete}
use lib.ListN.{length}
use borrow.Author.Tests.{eq-eqb, ne_eqb}
use Rattle.blocks.specs.Kinds.{rule_kind}
use Rattle.blocks.specs.Block.{block_at, kind_of, first_count, first_entries}
use Rattle.blocks.proofs.Parts.{first-length, second-length}
use Rattle.terms.specs.Term.{Term, Variable}
use Rattle.terms.specs.Entry.{Begins, term_of, size}
use Rattle.terms.proofs.EntryLaws.{fits, term_of-reads}
use Rattle.terms.specs.First.{Found}
use Rattle.terms.proofs.FirstLaws.{first-is}
use Rattle.judge.specs.declared.verdict.Fault.{Fault}
use Rattle.judge.specs.declared.verdict.Fault.TheVariants.{Length, Uncovered, OpenSecret}
use Rattle.judge.specs.Certificate.{Certificate, Rule}
use Rattle.judge.specs.File.{block_count, rule_of, certificate_of}
use Rattle.judge.specs.Laid.{Laid, RuleBlock}
use Rattle.judge.specs.declared.cover.RuleFault.{RuleFault}
use Rattle.judge.specs.declared.cover.RuleFault.TheVariants.{PremiseAt, ConclusionAt}
use Rattle.judge.specs.Judgement.{judged_of, either_found, rule_found, Held, held_or, next_of, Heads}
use Rattle.judge.specs.Verdict.{length_right, length_fault, first_fault, or_fault, on_kind, kind_fault}
use Rattle.judge.specs.Verdict.{no_secret?, open_secret, open_secret_rule, open_secret_fault, fine?, uncovered, uncovered_rule, uncovered_fault}
use Rattle.judge.specs.Verdict.{fault_of}
use Rattle.judge.proofs.Stages.FormLaws.{found_below}

-- ---- numbers 15 and 12 of a rule

-- What is found of a rule, by what is found of its premise and its conclusion.
module _ (asked : Bool) (c : Certificate) (rule : Rule) where
  pub found-premise : {n : ℕ} → Some n ≡ open_secret c rule → Some (PremiseAt n) ≡ rule_found asked c rule
  unfolding rule_found either_found
  found-premise said = rw (← said) refl

  module _ (fine : None ≡ open_secret c rule) where
    pub found-unasked : asked ≡ false → None ≡ rule_found asked c rule
    unfolding rule_found either_found
    found-unasked off = rw (← fine, off) refl

    pub found-asked : asked ≡ true → {o : Found} → o ≡ uncovered c rule → {r : Maybe RuleFault}
        → MatchOption o (r ≡ None) (λ k. IsSomeAnd r (λ f. f ≡ ConclusionAt k)) → r ≡ rule_found asked c rule
    unfolding rule_found either_found
    found-asked on {o} told {r} is = rw (← fine, on, ← told) (go o r is)
      where
        go : (o : Found) (r : Maybe RuleFault) → MatchOption o (r ≡ None) (λ k. IsSomeAnd r (λ f. f ≡ ConclusionAt k)) → r ≡ either_found None o
        go None r is = is
        go (Some k) None is = absurd is
        go (Some k) (Some f) is = ap Some is

-- And back.
module _ (asked : Bool) (c : Certificate) (rule : Rule) where
  at-premise : {n : ℕ} → Some (PremiseAt n) ≡ rule_found asked c rule → open_secret c rule ≡ Some n
  unfolding rule_found either_found
  at-premise {n} said = go (open_secret c rule) (cond asked (uncovered c rule) None) said
    where
      go : (s u : Found) → Some (PremiseAt n) ≡ either_found s u → s ≡ Some n
      go (Some k) u e = cc
      go None (Some k) e = let z : ◌≡◌ {A = ℕ} 0 1 = cc in absurd (omega arith)
      go None None e = let z : ◌≡◌ {A = ℕ} 0 1 = cc in absurd (omega arith)

  at-conclusion : {n : ℕ} → Some (ConclusionAt n) ≡ rule_found asked c rule → uncovered c rule ≡ Some n
  unfolding rule_found either_found
  at-conclusion {n} said = go asked (open_secret c rule) (uncovered c rule) said
    where
      go : (b : Bool) (s u : Found) → Some (ConclusionAt n) ≡ either_found s (cond b u None) → u ≡ Some n
      go b (Some k) u e = let z : ◌≡◌ {A = ℕ} 0 1 = cc in absurd (omega arith)
      go true None (Some k) e = cc
      go true None None e = let z : ◌≡◌ {A = ℕ} 0 1 = cc in absurd (omega arith)
      go false None u e = let z : ◌≡◌ {A = ℕ} 0 1 = cc in absurd (omega arith)

-- What the code makes of it at block i, n being the block's first count and held the first 12 so far.
abbrev pub told_next : ℕ → ℕ → Held → Maybe RuleFault → Result Held Fault
told_next i n held (Some (PremiseAt k)) = Err (OpenSecret i k)
told_next i n held (Some (ConclusionAt k)) = Ok (Some (Uncovered i (n + k)))
told_next i n held None = Ok held

next-rule : (i n : ℕ) (s u : Found) (held : Held) (asked : Bool) → is_some held ≡ not asked
    → told_next i n held (either_found s (cond asked u None))
    ≡ next_of held (elim s [ Some k ↦ some (OpenSecret i k) | None ↦ none ]) (elim u [ Some k ↦ some (Uncovered i (n + k)) | None ↦ none ])
unfolding either_found next_of held_or
next-rule i n (Some k) u held asked is = refl
next-rule i n None (Some k) None true is = refl
next-rule i n None (Some k) None false is = absurd (false≢true is)
next-rule i n None (Some k) (Some f) true is = absurd (false≢true (sym is))
next-rule i n None (Some k) (Some f) false is = refl
next-rule i n None None None true is = refl
next-rule i n None None None false is = refl
next-rule i n None None (Some f) true is = refl
next-rule i n None None (Some f) false is = refl

-- And what that tells.
module _ (held : Held) where
  pub refused : (secret twelve : Option Fault) {f : Fault} → Err f ≡ next_of held secret twelve → Err f ≡ judged_of secret
  unfolding next_of judged_of
  refused (some g) twelve h = cc
  refused none twelve h = let z : ◌≡◌ {A = ℕ} 0 1 = cc in absurd (omega arith)

  pub hold-both : (secret twelve : Option Fault) {j : Held} → Ok j ≡ next_of held secret twelve → (Ok tt ≡ judged_of secret) × (j ≡ held_or held twelve)
  unfolding next_of judged_of
  hold-both (some g) twelve h = let z : ◌≡◌ {A = ℕ} 0 1 = cc in absurd (omega arith)
  hold-both none twelve h = (refl, cc)

-- What is held and what is left say the same as before.
held_more : (held : Held) (twelve left : Option Fault) → held_or (held_or held twelve) left ≡ held_or held (or_fault twelve left)
unfolding held_or
held_more None none left = refl
held_more None (some f) left = refl
held_more (Some f) twelve left = refl

held_none : (held : Held) → held_or held none ≡ held
unfolding held_or
held_none None = refl
held_none (Some f) = refl

module _ (judged : ℕ → Option Fault) (count i : ℕ) where
  pub held_next : i < count → (held : Held) {next whole : Held} → next ≡ held_or held (judged i) → held_or held (first_fault judged i (count - i)) ≡ whole
      → held_or next (first_fault judged (i + 1) (count - (i + 1))) ≡ whole
  unfolding first_fault
  held_next l held is before =
      let left : count - i ≡ suc (count - suc i) = omega arith in
      rw (is, add-one) (held_more held (judged i) (first_fault judged (suc i) (count - suc i)) ∙ (rw (left, first_fault) at before))

  pub held-end : count ≤ i → (held : Held) {whole : Held} → held_or held (first_fault judged i (count - i)) ≡ whole → held ≡ whole
  unfolding first_fault
  held-end l held before = let left : count - i ≡ 0 = omega arith in sym (held_none held) ∙ (rw (left, first_fault) at before)

-- What is held behind all rules.
pub held-told : (whole : Option Fault) {f : Fault} → Some f ≡ held_or None whole → Err f ≡ judged_of whole
unfolding held_or judged_of
held-told none h = let z : ◌≡◌ {A = ℕ} 0 1 = cc in absurd (omega arith)
held-told (some g) h = cc

pub held-nothing : (whole : Option Fault) → None ≡ held_or None whole → Ok tt ≡ judged_of whole
unfolding held_or judged_of
held-nothing none h = refl
held-nothing (some g) h = let z : ◌≡◌ {A = ℕ} 0 1 = cc in absurd (omega arith)

-- The place that is found is an entry of the conclusion, or of the premise.
place_inside : (c : Certificate) (rule : Rule) {n : ℕ} → uncovered c rule ≡ Some n → n < size rule.conclusion
unfolding uncovered
place_inside c rule h = found_below (first-is (fine? c rule) (size rule.conclusion)) h

secret-inside : (c : Certificate) (rule : Rule) (t : Term Variable) → rule.premise ≡ some t → {n : ℕ} → open_secret c rule ≡ Some n → n < size t
unfolding open_secret
secret-inside c rule t given h = found_below (first-is (no_secret? c t) (size t)) (rw given at h)

no-premise : (c : Certificate) (rule : Rule) → rule.premise ≡ none → {n : ℕ} → ¬ (open_secret c rule ≡ Some n)
unfolding open_secret
no-premise c rule given h = let f = rw given at h in let z : ◌≡◌ {A = ℕ} 0 1 = cc in omega arith

begins-size : {e : List ℕ} → Begins e → 4 * size (term_of e) ≤ length e
begins-size w = rw (term_of-reads w.reads) (fits w.term w.reads)

pub place-small : (asked : Bool) (c : Certificate) {b : List ℕ} → RuleBlock b → {n : ℕ} → Some (ConclusionAt n) ≡ rule_found asked c (rule_of b) → first_count b + n < 256
unfolding rule_of
place-small asked c {b} w said =
    let inside = place_inside c (rule_of b) (at-conclusion asked c (rule_of b) said) in
    let short = w.conclusion_short in
    let first = w.premise_short in
    omega (arith, begins-size w.conclusion, second-length b w.fitting)

pub secret-small : (asked : Bool) (c : Certificate) {b : List ℕ} → RuleBlock b → {n : ℕ} → Some (PremiseAt n) ≡ rule_found asked c (rule_of b) → n < 256
unfolding rule_of
secret-small asked c {b} w {n} said = go (ℕ_discrete (first_count b) 0)
  where
    h : open_secret c (rule_of b) ≡ Some n
    h = at-premise asked c (rule_of b) said

    go : Dec (first_count b ≡ 0) → n < 256
    go (yes z) = absurd (no-premise c (rule_of b) (rw (eq-eqb (first_count b) 0 z) refl) h)
    go (no off) =
        let inside = secret-inside c (rule_of b) (term_of (first_entries b)) (rw (ne_eqb (first_count b) 0 off) refl) h in
        let short = w.premise_short in
        omega (arith, begins-size (w.premise off), first-length b w.fitting)

pub rule-at : {file : List ℕ} {i : ℕ} → Laid file → i < block_count file → {b : List ℕ} → b ≡ block_at file i → {k : ℕ} → k ≡ kind_of b
    → k ≡ rule_kind → RuleBlock (block_at file i)
rule-at {i = i} laid inside same kind rule = laid.rules i inside (ap kind_of (sym same) ∙ sym kind ∙ rule)

-- Block i is a rule, and this is found of it for the file's head.
pub next-found : {head file : List ℕ} → Heads head file → (i : ℕ) {b : List ℕ} → b ≡ block_at file i → {k : ℕ} → k ≡ kind_of b → k ≡ rule_kind
    → (held : Held) (asked : Bool) → is_some held ≡ not asked → {r : Maybe RuleFault} → r ≡ rule_found asked (certificate_of head) (rule_of (block_at file i))
    → told_next i (first_count b) held r
    ≡ next_of held (on_kind rule_kind (open_secret_rule (certificate_of file)) file i) (on_kind rule_kind (uncovered_rule (certificate_of file)) file i)
unfolding on_kind open_secret_rule uncovered_rule rule_found
next-found {file = file} h i same kind rule held asked is said =
    let c = certificate_of file in let b = block_at file i in
    rw (same, said, h.open_secrets (rule_of b), h.places (rule_of b), eq-eqb (kind_of b) rule_kind (sym (kind ∙ ap kind_of same) ∙ rule), on_kind, open_secret_rule, uncovered_rule)
    (next-rule i (first_count b) (open_secret c (rule_of b)) (uncovered c (rule_of b)) held asked is)

-- ---- numbers 9 to 12, and 15

-- The loops over the blocks start with all of them.
kind-start : (kind : ℕ) (judged : ℕ → List ℕ → Option Fault) (file : List ℕ)
    → first_fault (on_kind kind judged file) 0 (block_count file - 0) ≡ kind_fault kind judged file
unfolding kind_fault
kind-start kind judged file = let all : block_count file - 0 ≡ block_count file = omega arith in rw all

pub uncovered-start : (c : Certificate) (file : List ℕ)
    → held_or None (first_fault (on_kind rule_kind (uncovered_rule c) file) 0 (block_count file - 0)) ≡ held_or None (uncovered_fault c file)
unfolding uncovered_fault
uncovered-start c file = ap (held_or None) (kind-start rule_kind (uncovered_rule c) file)

pub secret-start : (c : Certificate) (file : List ℕ) → first_fault (on_kind rule_kind (open_secret_rule c) file) 0 (block_count file - 0) ≡ open_secret_fault c file
unfolding open_secret_fault
secret-start c file = kind-start rule_kind (open_secret_rule c) file

-- ---- the verdict

-- No fault: the length is right.
pub fault_none : (file : List ℕ) → fault_of file ≡ none → length_right file ≡ true
unfolding fault_of length_fault
fault_none file h = go (length_right file) refl
  where
    go : (t : Bool) → length_right file ≡ t → t ≡ true
    go true e = refl
    go false e = absurd (none-ne-some Length (sym h ∙ rw (e, fault_of, length_fault) refl))
