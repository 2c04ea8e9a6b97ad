-- Laws of what is remembered from one rule to the next, and serves again where its part is the same. Assumes nothing.
use mathlib.Core.Path.{◌≡◌, refl, sym, ap, subst, ◌∙◌}
use mathlib.Core.Bool.{Bool, true, false}
use mathlib.Core.List.{List}
use Prim.Native.Nat.{ℕ, ◌+◌, ◌-◌, ◌<◌}
use native.Mathlib.Omega.{arith}
use native.Mathlib.Decide.{ℕ_discrete, dec_lt}
use lib.ListN.{length, get_or, set, length-set, replicate, get_or-replicate, get_or-eq_default}
use lib.Seq.{get_or-set_same, get_or-set_other}
use Rattle.blocks.specs.Kinds.{rule_kind}
use Rattle.blocks.specs.Block.{block_at, kind_of}
use Rattle.terms.specs.Term.{Term, Variable}
use Rattle.std.specs.Prelude.{Option, Some, None, MatchOption}
use Rattle.terms.proofs.AnswerLaws.{says-yes, says-no}
use Rattle.terms.specs.Decisions.{Says}
use Rattle.judge.specs.File.{block_count}
use Rattle.judge.specs.Laid.{Laid, RuleBlock}
use Rattle.judge.specs.CoverEntries.{sub_at, Remembered, Forgotten, Renewed, Repeats, Carried}

pub rule-here : {file : List ℕ} {i : ℕ} {b : List ℕ} → Laid file → i < block_count file → kind_of (block_at file i) ≡ rule_kind → b ≡ block_at file i → RuleBlock b
rule-here {i = i} laid inside rule same = rw same (laid.rules i inside rule)

pub other-kind : {b d : List ℕ} {k : ℕ} → b ≡ d → k ≡ kind_of b → ¬ (k ≡ rule_kind) → ¬ (kind_of d ≡ rule_kind)
other-kind same kind off five = off (kind ∙ ap kind_of same ∙ five)

-- Of the same entries.
pub remembered-of : {P : Term Variable → Type 0} {e f : List ℕ} {memo : List (Option Bool)} → e ≡ f → Remembered P f memo → Remembered P e memo
remembered-of {P} {memo = memo} is w = subst (λ (d : List ℕ). Remembered P d memo) (sym is) w

-- An answer that is recalled is so: it was remembered, or what was asked says so.
pub recalled-says : {P : Term Variable → Type 0} {e : List ℕ} {memo : List (Option Bool)} (h : ℕ) (r : Bool) {Asked : Type 0} → Remembered P e memo
    → MatchOption (get_or memo h None) Asked (λ known. r ≡ known) → (Asked → Says r (P (sub_at e h))) → Says r (P (sub_at e h))
recalled-says {P} {e} {memo} h r {Asked} w found ask = go (get_or memo h None) refl found
  where
    known : (b : Bool) → get_or memo h None ≡ Some b → Says b (P (sub_at e h))
    known true is = w.holds h is
    known false is = w.fails h is

    go : (o : Option Bool) → get_or memo h None ≡ o → MatchOption o Asked (λ known. r ≡ known) → Says r (P (sub_at e h))
    go None is asked = ask asked
    go (Some b) is same = rw same (known b is)

-- One answer more.
pub remembered-more : {P : Term Variable → Type 0} {e : List ℕ} {memo : List (Option Bool)} (h : ℕ) → Remembered P e memo → h < 64 → (b : Bool)
    → Says b (P (sub_at e h)) → Remembered P e (set memo h (Some b))
remembered-more {P} {e} {memo} h w small b says = record {
  long = length-set memo h (Some b) ∙ w.long;
  holds = λ k q. holds k q (ℕ_discrete k h);
  fails = λ k q. fails k q (ℕ_discrete k h);
}
  where
    here : get_or (set memo h (Some b)) h None ≡ Some b
    here = get_or-set_same memo h (Some b) None (let long = w.long in omega arith)

    holds : (k : ℕ) → get_or (set memo h (Some b)) k None ≡ Some true → Dec (k ≡ h) → P (sub_at e k)
    holds k q (yes s) = let one : Some b ≡ Some true = sym here ∙ rw s at q in rw s (says-yes b says (cc))
    holds k q (no n) = w.holds k (sym (get_or-set_other memo h k (Some b) None n) ∙ q)

    fails : (k : ℕ) → get_or (set memo h (Some b)) k None ≡ Some false → Dec (k ≡ h) → ¬ P (sub_at e k)
    fails k q (yes s) = let none : Some b ≡ Some false = sym here ∙ rw s at q in rw s (says-no b says (cc))
    fails k q (no n) = w.fails k (sym (get_or-set_other memo h k (Some b) None n) ∙ q)

-- Nothing is known any more.
pub all-forgotten : Forgotten (replicate 64 None)
all-forgotten = record { long = refl; none = λ k. go k (dec_lt k 64) }
  where
    go : (k : ℕ) → Dec (k < 64) → get_or {A = Option Bool} (replicate 64 None) k None ≡ None
    go k (yes l) = get_or-replicate 64 k None None l
    go k (no n) = get_or-eq_default {A = Option Bool} (replicate 64 None) None {n = k} (omega arith)

pub renewed-gone : {keep : Bool} (old : List (Option Bool)) {new : List (Option Bool)} → keep ≡ false → Forgotten new → Renewed keep old new
renewed-gone old {new} is f = subst (λ (b : Bool). Renewed b old new) (sym is) f

nothing_known : {P : Term Variable → Type 0} {e : List ℕ} {memo : List (Option Bool)} → Forgotten memo → Remembered P e memo
nothing_known f = record { long = f.long; holds = λ k q. (let none = f.none k in cc); fails = λ k q. (let none = f.none k in cc) }

here : (i : ℕ) → i + 1 - 1 ≡ i
here i = omega arith

module _ {part : List ℕ → List ℕ} {P : Term Variable → Type 0} where
  -- Before the first block nothing is known.
  pub nothing-before : {file : List ℕ} {memo : List (Option Bool)} → length memo ≡ 64 → Carried part P file 0 memo
  nothing-before long = record { long = long; known = λ after. absurd (omega (arith, after.behind)) }

  module _ (file : List ℕ) (i : ℕ) where
    -- What is known of block i's part: what was known of the one before, if it is the same, or nothing.
    pub known-here : {old new : List (Option Bool)} (t : Bool) → Says t (Repeats part file i) → Carried part P file i old → Renewed t old new
        → Remembered P (part (block_at file i)) new
    known-here true w before same = subst (Remembered P (part (block_at file i))) (sym same) (rw w.same at (before.known w.after))
    known-here false w before gone = nothing_known gone

    -- What is then known before the next block.
    pub known_next : {memo : List (Option Bool)} → Remembered P (part (block_at file i)) memo → Carried part P file (i + 1) memo
    known_next {memo} w = record { long = w.long; known = λ after. subst (λ (n : ℕ). Remembered P (part (block_at file n)) memo) (sym (here i)) w }

    pub other-next : {memo : List (Option Bool)} → Carried part P file i memo → ¬ (kind_of (block_at file i) ≡ rule_kind) → Carried part P file (i + 1) memo
    other-next w off = record { long = w.long; known = λ after. absurd (off (subst (λ (n : ℕ). kind_of (block_at file n) ≡ rule_kind) (here i) after.rule)) }
