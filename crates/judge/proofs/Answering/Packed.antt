-- What the loader gets for a file, "number × 65,536 + block × 256 + place, 0 if accepted": each can be read back from it.
use mathlib.Core.Path.{◌≡◌, refl}
use mathlib.Core.Logic.{◌↔◌}
use mathlib.Core.List.{List}
use mathlib.Core.Option.{some, none-ne-some}
use Prim.Native.Nat.{ℕ, ◌+◌, ◌/◌, ◌%◌, ◌<◌, ◌≤◌}
use native.Mathlib.Omega.{arith}
use native.Mathlib.Decide.{ℕ_discrete}
use borrow.Author.Tests.{eq-eqb, ne_eqb}
use Rattle.blocks.specs.Kinds.{rule_kind}
use Rattle.blocks.specs.Limits.{most_blocks, most_entries}
use Rattle.blocks.specs.Block.{block_at, kind_of, first_count, first_entries}
use Rattle.blocks.proofs.Layouts.{counts-room}
use Rattle.blocks.proofs.Parts.{first-length, second-length}
use Rattle.terms.specs.Term.{Term, Variable}
use Rattle.terms.specs.Entry.{term_of, size}
use Rattle.terms.proofs.PlacedLaws.{placed, placed-within}
use Rattle.judge.specs.declared.verdict.Counts.{Counts}
use Rattle.judge.specs.declared.verdict.Fault.{Fault}
use Rattle.judge.specs.declared.verdict.Verdict.{Verdict}
use Rattle.judge.specs.declared.verdict.Verdict.TheVariants.{Accepted, Refused}
use Rattle.judge.specs.Answer.{number_of, block_of, place_of, packed_of}
use Rattle.judge.specs.File.{block_count, rule_of}
use Rattle.judge.specs.Laid.{RuleBlock}
use Rattle.judge.specs.Verdict.{verdict_of}
use Rattle.judge.specs.Meaning.{LengthRight, BlockFaulty, check_fails, kind_fails, layout_fails, atom_fails}
use Rattle.judge.specs.Meaning.{entry_fails, pattern_fails, premise_fails, conclusion_fails, Formed, RefusedWith, length_fails}
use Rattle.judge.specs.Meaning.{block_fails, missing, secret_known, secret_not_closed, key_not_kept, secret_open, place_uncovered}
use Rattle.judge.proofs.Answering.Answers.{numbers}
use Rattle.judge.proofs.Files.AtomBlocks.{below}
use Rattle.judge.proofs.Files.LaidLaws.{laid}
use Rattle.judge.proofs.Files.Verdicts.{refused-iff}

-- ---- number, block and place are small

-- A file is refused with a number up to 15, in one of "at most 64 blocks" of 126 entries each.
pub record Small (f : Fault) : Type 0 where
  pub number : number_of f ≤ 15
  pub block : block_of f ≤ most_blocks
  pub place : place_of f ≤ most_entries

few-blocks : {file : List ℕ} → LengthRight file → block_count file ≤ most_blocks
few-blocks l = let m = l.most in omega arith

block-small : {file : List ℕ} {i : ℕ} {f : Fault} → i ≤ most_blocks → BlockFaulty file i f → Small f
block-small h (check_fails e n) = rw e (record { number = omega arith; block = h; place = omega arith })
block-small h (kind_fails e c n) = rw e (record { number = omega arith; block = h; place = omega arith })
block-small h (layout_fails e c k n) = rw e (record { number = omega arith; block = h; place = omega arith })
block-small {file} {i} h (atom_fails {j} {n} e s l low inside off all before) =
    rw e (record { number = omega arith; block = omega (arith, h, low); place = omega (arith, (below file i s l j n low inside).0) })
block-small h (entry_fails e s k l n b) =
    rw e (record { number = omega arith; block = h; place = omega (arith, counts-room s.laid.layout.counts) })
block-small h (pattern_fails e s k r n) = rw e (record { number = omega arith; block = h; place = omega arith })
block-small h (premise_fails e s k r n) = rw e (record { number = omega arith; block = h; place = omega arith })
block-small h (conclusion_fails e s k r p n) =
    rw e (record { number = omega arith; block = h; place = omega (arith, counts-room s.laid.layout.counts) })

-- An entry of the conclusion, counted in its block.
rule-place : {file : List ℕ} {i k : ℕ} → Formed file → i < block_count file → kind_of (block_at file i) ≡ rule_kind
    → k < size (rule_of (block_at file i)).conclusion → first_count (block_at file i) + k ≤ most_entries
unfolding rule_of
rule-place {file} {i} w inside is h =
    let r = (laid file w.long w.blocks).rules i inside is in
    omega (arith, r.conclusion_whole, r.premise_short, r.conclusion_short, second-length (block_at file i) r.fitting)

-- An entry of the premise.
premise-place : {file : List ℕ} {i k : ℕ} {t : Term Variable} → Formed file → i < block_count file → kind_of (block_at file i) ≡ rule_kind
    → (rule_of (block_at file i)).premise ≡ some t → k < size t → k ≤ most_entries
unfolding rule_of
premise-place {file} {i} {k} {t} w inside is given h = go (ℕ_discrete (first_count (block_at file i)) 0)
  where
    r : RuleBlock (block_at file i)
    r = (laid file w.long w.blocks).rules i inside is

    go : Dec (first_count (block_at file i) ≡ 0) → k ≤ most_entries
    go (yes z) = let e = rw (eq-eqb (first_count (block_at file i)) 0 z) at given in absurd (none-ne-some t e)
    go (no off) =
        let e = rw (ne_eqb (first_count (block_at file i)) 0 off) at given in
        let same : t ≡ term_of (first_entries (block_at file i)) = cc in
        let short : k < size (term_of (first_entries (block_at file i))) = rw same at h in
        omega (arith, r.premise_whole off, r.premise_short, first-length (block_at file i) r.fitting)

pub fault-small : (file : List ℕ) (f : Fault) → verdict_of file ≡ Refused f → Small f
fault-small file f e = go ((refused-iff file f).0 e)
  where
    go : RefusedWith file f → Small f
    go (length_fails e n) = rw e (record { number = omega arith; block = omega arith; place = omega arith })
    go (block_fails l h b w) = block-small (omega (arith, h, few-blocks l)) w
    go (missing e l b n) = rw e (record { number = omega arith; block = few-blocks l; place = omega arith })
    go (secret_known e w i k) =
        rw e (record { number = omega arith; block = omega (arith, i.inside, few-blocks w.long); place = omega arith })
    go (secret_not_closed e w u i) =
        rw e (record { number = omega arith; block = omega (arith, i.inside, few-blocks w.long); place = omega arith })
    go (key_not_kept e w u c i) =
        rw e (record { number = omega arith; block = omega (arith, i.inside, few-blocks w.long); place = omega arith })
    go (secret_open e w u c k i s) = rw e (record {
      number = omega arith;
      block = omega (arith, i.inside, few-blocks w.long);
      place = premise-place w i.inside i.is s.given (omega (arith, s.entry, placed-within (placed s.place s.premise s.open_secret.stands)));
    })
    go (place_uncovered e w u c k n i p) = rw e (record {
      number = omega arith;
      block = omega (arith, i.inside, few-blocks w.long);
      place = rule-place w i.inside i.is (placed-within p.stands);
    })

-- ---- the answer is read back

-- The answer tells a refusal with this number, block and place.
pub record Tells (packed : ℕ) (f : Fault) : Type 0 where
  pub refused : 0 < packed
  pub number : packed / 65536 ≡ number_of f
  pub block : packed / 256 % 256 ≡ block_of f
  pub place : packed % 256 ≡ place_of f

pub packed-tells : (file : List ℕ) (f : Fault) → verdict_of file ≡ Refused f → Tells (packed_of (verdict_of file)) f
packed-tells file f e =
    let w = fault-small file f e in let n = numbers f in let b = w.block in let p = w.place in
    rw e (record { refused = omega arith; number = omega arith; block = omega arith; place = omega arith })

-- "0 if accepted", and only then.
pub zero-accepted : (file : List ℕ) → (packed_of (verdict_of file) ≡ 0) ↔ ((counts : Counts) × (verdict_of file ≡ Accepted counts))
zero-accepted file = (λ z. go (verdict_of file) refl z, λ w. rw w.1 refl)
  where
    go : (v : Verdict) → verdict_of file ≡ v → packed_of v ≡ 0 → (counts : Counts) × (verdict_of file ≡ Accepted counts)
    go (Accepted counts) e z = (counts, e)
    go (Refused f) e z = let n = numbers f in absurd (omega arith)
