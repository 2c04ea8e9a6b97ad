-- Laws of specs/Listed.antt: a search over the blocks of a file finds what the certificate lists. Assumes nothing.
use mathlib.Core.Path.{◌≡◌, refl, sym, ap, subst, ◌∙◌}
use mathlib.Core.Bool.{Bool, true, false}
use mathlib.Core.Logic.{◌⊎◌, inl, inr, ◌↔◌}
use mathlib.Core.List.Memᴰ
use mathlib.Core.List.{List, map, Memᴰ}
use Prim.Native.Nat.{ℕ, ◌+◌, ◌<◌}
use borrow.Author.Tests.{ne_eqb}
use native.Mathlib.Omega.{arith}
use native.Mathlib.Decide.{ℕ_discrete}
use Rattle.blocks.specs.Kinds.{secret_kind, good_kind, bad_kind, ListsTerm}
use Rattle.blocks.specs.Block.{block_at, kind_of}
use Rattle.blocks.proofs.KindLaws.{which-lists}
use Rattle.terms.specs.Term.{Term, Variable, atom, replace, as_term}
use Rattle.terms.proofs.InstanceLaws.{replace-as_term}
use Rattle.terms.specs.Entry.{Begins, term_of, from}
use Rattle.terms.proofs.EntryLaws.{from-length}
use Rattle.terms.specs.Decisions.{Says, says_same}
use Rattle.terms.proofs.AnswerLaws.{says-yes, answer-says, says-answer}
use Rattle.terms.specs.Decide.{answer}
use Rattle.judge.specs.File.{block_count, blocks_of, of_kind, pattern_of, secret_of, certificate_of}
use Rattle.judge.specs.Laid.{Laid, TermBlock, SecretBlock}
use Rattle.judge.proofs.Files.Members.{BlockOf, block_listed, listed-block}
use Rattle.judge.specs.Listed.{listed_of, AnyListed, Everywhere, HoldsAt, HeldAmong, HasAt, Searching, SomeMet, TermPart}

-- A secret block's term is its secret.
pub secret-term : {b : List ℕ} → SecretBlock b → pattern_of b ≡ as_term (secret_of b)
unfolding secret_of
secret-term {b} s = s.same ∙ ap as_term (sym (ap (replace (λ x. atom 0)) s.same ∙ replace-as_term (λ x. atom 0) s.message))

-- A block that lists a term has one term's entries.
pub term-block : {file : List ℕ} {kind i : ℕ} → Laid file → ListsTerm kind → i < block_count file
    → kind_of (block_at file i) ≡ kind → TermBlock (block_at file i)
term-block {i = i} laid lists inside k = laid.terms i inside (rw k lists)

-- A part of the entries that begins with a term can be searched for as well.
pub search-part : {file : List ℕ} {kind : ℕ} {e : List ℕ} (n : ℕ) → Searching file kind e → Begins (from n e) → Searching file kind (from n e)
search-part {e = e} n s b = let short = s.short in
    record { laid = s.laid; lists = s.lists; term = b; short = omega (arith, from-length n e) }

-- The block that the code found to be of this kind.
pub block-there : {file : List ℕ} {kind i : ℕ} → Laid file → ListsTerm kind → i < block_count file
    → (b : Bool) → Says b (kind_of (block_at file i) ≡ kind) → b ≡ true → (i < block_count file) × TermBlock (block_at file i)
block-there laid lists inside b says t = (inside, term-block laid lists inside (says-yes b says t))

-- What one block answers: by its term's entries; and where its pattern counts for every place.
pub block-answer : {file : List ℕ} {i : ℕ} (P : Term Variable → Type 0) → {e : List ℕ} → TermPart file i e
    → (b : Bool) (d : Dec (P (term_of e))) → b ≡ answer d → Says b (P (pattern_of (block_at file i)))
unfolding pattern_of
block-answer P part b d is = rw (ap term_of part.part) at (answer-says b d is)

pub counted-answer : (file : List ℕ) (i : ℕ) (P : Term Variable → Type 0) → Everywhere (kind_of (block_at file i)) (pattern_of (block_at file i))
    → (b : Bool) → Says b (P (pattern_of (block_at file i))) → Says b (HasAt file i (λ kind p. Everywhere kind p × P p))
counted-answer file i P counts b says = says_same b (λ h. (counts, h)) (λ w. w.1) says

module _ {file : List ℕ} (laid : Laid file) where
  -- The term of a block of a kind that lists one is listed, and nothing else is.
  listed_at : (kind : ℕ) {i : ℕ} → ListsTerm kind → i < block_count file → kind_of (block_at file i) ≡ kind
      → Memᴰ (pattern_of (block_at file i)) (listed_of (certificate_of file) kind)
  unfolding listed_of certificate_of
  listed_at kind {i} lists inside k = go (which-lists lists)
    where
      go : (kind ≡ secret_kind) ⊎ ((kind ≡ good_kind) ⊎ (kind ≡ bad_kind)) → Memᴰ (pattern_of (block_at file i)) (listed_of (certificate_of file) kind)
      go (inl e) = rw e
          (Memᴰ.cast (secret-term (laid.secrets i inside (k ∙ e))) (Memᴰ.map as_term (Memᴰ.map secret_of (block_listed file inside (k ∙ e)))))
      go (inr (inl e)) = rw e (Memᴰ.map pattern_of (block_listed file inside (k ∙ e)))
      go (inr (inr e)) = rw e (Memᴰ.map pattern_of (block_listed file inside (k ∙ e)))

  pattern-at : (kind : ℕ) {t : Term Variable} {b : List ℕ} → BlockOf file kind b → pattern_of b ≡ t
      → (i : ℕ) × (i < block_count file) × (kind_of (block_at file i) ≡ kind) × (pattern_of (block_at file i) ≡ t)
  pattern-at kind w e = (w.number, w.inside, w.has_kind, ap pattern_of (sym w.same) ∙ e)

  abbrev From : ℕ → Term Variable → Type 0
  From kind t = Memᴰ t (listed_of (certificate_of file) kind)
      → (i : ℕ) × (i < block_count file) × (kind_of (block_at file i) ≡ kind) × (pattern_of (block_at file i) ≡ t)

  from-secrets : {t : Term Variable} → From secret_kind t
  unfolding listed_of certificate_of
  from-secrets m =
      let o = Memᴰ.of_map as_term (map secret_of (of_kind secret_kind (blocks_of file))) m in
      let p = Memᴰ.of_map secret_of (of_kind secret_kind (blocks_of file)) o.1 in
      let w = listed-block file p.1 in
      let block : SecretBlock p.0 = subst SecretBlock (sym w.same) (laid.secrets w.number w.inside w.has_kind) in
      pattern-at secret_kind w (secret-term block ∙ ap as_term p.2 ∙ o.2)

  from-goods : {t : Term Variable} → From good_kind t
  unfolding listed_of certificate_of
  from-goods m = let o = Memᴰ.of_map pattern_of (of_kind good_kind (blocks_of file)) m in pattern-at good_kind (listed-block file o.1) o.2

  from-bads : {t : Term Variable} → From bad_kind t
  unfolding listed_of certificate_of
  from-bads m = let o = Memᴰ.of_map pattern_of (of_kind bad_kind (blocks_of file)) m in pattern-at bad_kind (listed-block file o.1) o.2

  listed-from : (kind : ℕ) {t : Term Variable} → From kind t
  unfolding listed_of
  listed-from kind {t} = elim (ℕ_discrete kind secret_kind) [
    | yes e ↦ rw e from-secrets
    | no not-secret ↦ elim (ℕ_discrete kind good_kind) [
      | yes e ↦ rw e from-goods
      | no not-Good ↦ elim (ℕ_discrete kind bad_kind) [
        | yes e ↦ rw e from-bads
        | no not-bad ↦ λ m. absurd (Memᴰ.not-nil
            (rw (ne_eqb kind secret_kind not-secret, ne_eqb kind good_kind not-Good, ne_eqb kind bad_kind not-bad, listed_of) at m))
      ]
    ]
  ]

  module _ (kind : ℕ) (P : Term Variable → Type 0) where
    -- One is found at a block: one is listed, and the other way round. None is found at any block: none is.
    pub one_found : {i : ℕ} → ListsTerm kind → i < block_count file → HoldsAt file kind P i → AnyListed (certificate_of file) kind P
    one_found lists inside h = record { term = _; listed = listed_at kind lists inside h.has_kind; holds = h.holds }

    pub held_at : AnyListed (certificate_of file) kind P → (i : ℕ) × (i < block_count file) × HoldsAt file kind P i
    held_at s =
        let w = listed-from kind s.listed in (w.0, w.1, record { has_kind = w.2; holds = subst P (sym w.3) s.holds })

    pub none_found : ((i : ℕ) → i < block_count file → ¬ HoldsAt file kind P i) → ¬ AnyListed (certificate_of file) kind P
    none_found none s = let w = held_at s in none w.0 w.1 w.2

-- What a search finds, by a test that tells of each block whether its pattern, of its kind, has P.
pub some-met : {file : List ℕ} {kind low high : ℕ} {post : ℕ → Bool → Type 0} {b : Bool} (P : ℕ → Term Variable → Type 0)
    → ((i : ℕ) (r : Bool) → post i r → Says r (HasAt file i P)) → SomeMet file kind low high post b → Says b (HeldAmong file kind (P kind) low high)
some-met {file} {kind} {b = true} P told met =
    let w = met.some refl in
    record { number = w.0; above = w.1; below = w.2; holds = record { has_kind = w.3; holds = rw w.3 at (told w.0 true w.4) } }
some-met {file} {kind} {b = false} P told met =
    λ w. let is = w.holds.has_kind in told w.number false (met.none refl w.number w.above w.below is) (rw is w.holds.holds)

-- Among one block, and among all.
pub one-among : {file : List ℕ} {kind i : ℕ} (P : Term Variable → Type 0) → HeldAmong file kind P i (i + 1) ↔ HoldsAt file kind P i
one-among {file} {kind} {i} P = (
  λ w. (let same : w.number ≡ i = (let l = w.above in let g = w.below in omega arith) in subst (HoldsAt file kind P) same w.holds),
  λ h. record { number = i; above = omega arith; below = omega arith; holds = h },
)

pub all_among : {file : List ℕ} {kind n : ℕ} {e : List ℕ} → Searching file kind e → (P : Term Variable → Type 0) → n ≡ block_count file
    → (b : Bool) → Says b (HeldAmong file kind P 0 n) → (d : Dec (AnyListed (certificate_of file) kind P)) → b ≡ answer d
all_among {file} {kind} {n} s P all b says d = says-answer b (says_same b to back says) d
  where
    to : HeldAmong file kind P 0 n → AnyListed (certificate_of file) kind P
    to w = one_found s.laid kind P s.lists (let l = w.below in omega arith) w.holds

    back : AnyListed (certificate_of file) kind P → HeldAmong file kind P 0 n
    back a = let w = held_at s.laid kind P a in record { number = w.0; above = omega arith; below = omega (arith, w.1); holds = w.2 }

-- The answer of a search of all blocks.
pub met-answer : {file : List ℕ} {kind n : ℕ} {e : List ℕ} {post : ℕ → Bool → Type 0} {b : Bool} → Searching file kind e → (P : ℕ → Term Variable → Type 0) → n ≡ block_count file
    → ((i : ℕ) (r : Bool) → post i r → Says r (HasAt file i P)) → SomeMet file kind 0 n post b → (d : Dec (AnyListed (certificate_of file) kind (P kind))) → b ≡ answer d
met-answer {kind = kind} {b = b} s P all told met d = all_among s (P kind) all b (some-met P told met) d
