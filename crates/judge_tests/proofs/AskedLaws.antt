-- Laws of specs/Asked.antt, shaped like the code's branches. Assumes nothing.
use mathlib.Core.Path.{◌≡◌, sym, ap, ◌∙◌}
use mathlib.Core.List.{List}
use Prim.Native.Nat.{ℕ, ◌+◌, ◌%◌, ◌≤◌, ◌<◌}
use native.Mathlib.Omega.{arith}
use lib.ListN.{length}
use borrow.Author.Tests.{eq-eqb, ne_eqb, le-leb, lt-leb}
use Rattle.std.specs.Prelude.{Result}
use Rattle.blocks.specs.declared.Unwritten.{Unwritten}
use Rattle.judge.specs.declared.verdict.Fault.TheVariants.{Length, Missing, Uncovered, Loader}
use Rattle.judge.specs.declared.verdict.Verdict.{Verdict}
use Rattle.judge.specs.declared.verdict.Verdict.TheVariants.{Accepted, Refused}
use Rattle.judge.specs.Answer.{part_of}
use Rattle.judge.specs.Verdict.{verdict_of}
use Rattle.judge.specs.Line.{Room, Put, printing, after_printing}
use Rattle.judge_tests.specs.Asked.{packed_writing, no_counts, verdict_from, copying, after_copying}

pub printed : (file buffer : List ℕ) {v : Verdict} {w : Result ℕ Unwritten} {after : List ℕ} {n : ℕ} → v ≡ verdict_of file → w ≡ printing v buffer
    → after ≡ after_printing v buffer → n ≡ packed_writing w
    → (n ≡ packed_writing (printing (verdict_of file) buffer)) × (after ≡ after_printing (verdict_of file) buffer)
printed file buffer v w b n =
    (n ∙ ap packed_writing (w ∙ ap (λ (x : Verdict). printing x buffer) v), b ∙ ap (λ (x : Verdict). after_printing x buffer) v)

module _ (n b p : ℕ) where
  pub from-none : n ≡ 0 → Accepted no_counts ≡ verdict_from n b p
  unfolding verdict_from
  from-none e = sym (rw (eq-eqb n 0 e))

  pub from-length : (n ≡ 0 → ⊥) → n ≡ 1 → Refused Length ≡ verdict_from n b p
  unfolding verdict_from
  from-length x e = sym (rw (ne_eqb n 0 x, eq-eqb n 1 e))

  pub from-missing : (n ≡ 0 → ⊥) → (n ≡ 1 → ⊥) → n ≡ 4 → Refused (Missing b) ≡ verdict_from n b p
  unfolding verdict_from
  from-missing x y e = sym (rw (ne_eqb n 0 x, ne_eqb n 1 y, eq-eqb n 4 e))

  pub from-loader : (n ≡ 0 → ⊥) → (n ≡ 1 → ⊥) → (n ≡ 4 → ⊥) → n ≡ 16 → Refused Loader ≡ verdict_from n b p
  unfolding verdict_from
  from-loader x y z e = sym (rw (ne_eqb n 0 x, ne_eqb n 1 y, ne_eqb n 4 z, eq-eqb n 16 e))

  pub from-other : (n ≡ 0 → ⊥) → (n ≡ 1 → ⊥) → (n ≡ 4 → ⊥) → (n ≡ 16 → ⊥) → Refused (Uncovered b p) ≡ verdict_from n b p
  unfolding verdict_from
  from-other x y z w = sym (rw (ne_eqb n 0 x, ne_eqb n 1 y, ne_eqb n 4 z, ne_eqb n 16 w))

module _ (file buffer : List ℕ) {v u : Verdict} {part : List ℕ} (made : v ≡ u) (is : part ≡ part_of file v) where
  pub too_short : length buffer < length part → (65536 ≡ copying file u buffer) × (buffer ≡ after_copying file u buffer)
  unfolding copying after_copying
  too_short h =
      let same : part ≡ part_of file u = is ∙ ap (part_of file) made in
      let l = lt-leb (length part) (length buffer) h in
      (sym (rw (← same, l)), sym (rw (← same, l)))

  pub copied : {after : List ℕ} {n : ℕ} → length part ≤ length buffer → Put buffer 0 part after n
      → (n % 65536 ≡ copying file u buffer) × (after ≡ after_copying file u buffer)
  unfolding copying after_copying
  copied h d =
      let same : part ≡ part_of file u = is ∙ ap (part_of file) made in
      let l = le-leb (length part) (length buffer) h in
      let whole : 0 + length part ≡ length part = omega arith in
      (ap (λ (m : ℕ). m % 65536) (d.end ∙ whole) ∙ sym (rw (← same, l)), d.bytes ∙ sym (rw (← same, l)))

pub room : (buffer part : List ℕ) → length part ≤ length buffer → Room buffer 0 part
room buffer part h = record { fits = omega arith }
