-- Checks for eight loaders (02, No. 5): what their verdicts and counts depend on. Assumes nothing.
use mathlib.Core.Path.{◌≡◌, refl, sym, ap, subst, ◌∙◌}
use mathlib.Core.Logic.{◌⊎◌, inl, inr, ◌↔◌}
use mathlib.Core.List.Memᴰ
use mathlib.Core.List.{List, [], ◌∷◌, ◌++◌, map, map-append, Memᴰ}
use Prim.Native.Nat.{ℕ, ◌+◌, ◌<◌, ◌≤◌}
use native.Mathlib.Omega.{arith}
use native.Mathlib.Decide.{ℕ_discrete, dec_lt}
use lib.ListN.{length-set}
use lib.Seq.{get_or-set_same, get_or-set_other}
use borrow.Author.Tests.{eq-eqb, ne_eqb, lt-ltb, le-ltb}
use Rattle.terms.specs.Term.{Message}
use Rattle.judge.specs.declared.verdict.Counts.{Counts}
use Rattle.judge.specs.declared.verdict.Fault.{Fault}
use Rattle.judge.specs.declared.verdict.Fault.TheVariants.{Loader}
use Rattle.judge.specs.declared.verdict.Verdict.{Verdict}
use Rattle.judge.specs.declared.verdict.Verdict.TheVariants.{Accepted, Refused}
use Rattle.judge.specs.declared.checking.LoaderCounts.{LoaderCounts}
use Rattle.judge.specs.declared.checking.Tally.{Tally}
use Rattle.judge.specs.declared.checking.Checked.{Checked}
use Rattle.judge.specs.File.{certificate_of, counts_of}
use Rattle.judge.specs.Certificate.{Secret}
use Rattle.judge.specs.Run.{Step, Derives, after}
use Rattle.judge.specs.Meaning.{Accepts}
use Rattle.judge.specs.Verdict.{verdict_of}
use Rattle.judge.specs.Answer.{number_of, part_of, partless}
use Rattle.judge.specs.Checked.{loader_count, IsLoader, full, raised_of, counted_of, EightPairs, zero_pair, pair_of, tallied_of, checked_of}
use Rattle.judge.specs.Checked.{RefusedFor, no_loader, file_refused}
use Rattle.judge.specs.Calls.{Call, answer_to, Turn, asks, restores, held, tally_after, restoring, Answered, answered, own_calls}
use Rattle.judge.specs.Calls.{ThirtyTwoBits, raised_by, raised_pair, if_accepted, if_refused, accepted_among, refused_among}
use Rattle.judge.proofs.Files.Verdicts.{accepted-iff, refused-iff}
use Rattle.judge.proofs.Files.Bytes.{secrecy-of-accepted}
use Rattle.judge.proofs.Answering.Packed.{fault-small}

-- ---- one check

module _ (file : List ℕ) (n : ℕ) (t : Tally) where
  for-loader : IsLoader n → checked_of file n t ≡ record { verdict = verdict_of file; tally = tallied_of t n (verdict_of file) }
  unfolding checked_of
  for-loader h = rw (lt-ltb n loader_count h) refl

  -- A loader number above 7: 16, and every count unaltered.
  pub for-none : ¬ IsLoader n → checked_of file n t ≡ record { verdict = Refused Loader; tally = t }
  unfolding checked_of
  for-none h = let above : loader_count ≤ n = omega arith in rw (le-ltb n loader_count above) refl

  -- Under a loader's number the verdict is that of the file.
  for-file : IsLoader n → (checked_of file n t).verdict ≡ verdict_of file
  for-file h = ap (λ (c : Checked). c.verdict) (for-loader h)

  -- Accepted if and only if a loader has the number and the file meets every condition; the counts are the file's own.
  pub accepted-for-iff : (counts : Counts)
      → ((checked_of file n t).verdict ≡ Accepted counts) ↔ (IsLoader n × (Accepts file × (counts ≡ counts_of file)))
  accepted-for-iff counts = (λ e. go e (dec_lt n loader_count), λ w. for-file w.0 ∙ (accepted-iff file counts).1 w.1)
    where
      go : (checked_of file n t).verdict ≡ Accepted counts → Dec (IsLoader n)
          → IsLoader n × (Accepts file × (counts ≡ counts_of file))
      go e (yes h) = (h, (accepted-iff file counts).0 (sym (for-file h) ∙ e))
      go e (no h) =
          let r : (checked_of file n t).verdict ≡ Refused Loader = ap (λ (c : Checked). c.verdict) (for-none h) in
          let z : ◌≡◌ {A = ℕ} 0 1 = cc in
          absurd (omega arith)

  -- Refused with this fault if and only if it is the first in the documents' order, 16 "before all else".
  pub refused-for-iff : (fault : Fault) → ((checked_of file n t).verdict ≡ Refused fault) ↔ RefusedFor n file fault
  refused-for-iff fault = (λ e. go e (dec_lt n loader_count), back)
    where
      go : (checked_of file n t).verdict ≡ Refused fault → Dec (IsLoader n) → RefusedFor n file fault
      go e (yes h) = file_refused h ((refused-iff file fault).0 (sym (for-file h) ∙ e))
      go e (no h) =
          let r : (checked_of file n t).verdict ≡ Refused Loader = ap (λ (c : Checked). c.verdict) (for-none h) in
          let q : fault ≡ Loader = cc in
          no_loader q h

      back : RefusedFor n file fault → (checked_of file n t).verdict ≡ Refused fault
      back (no_loader e h) = ap (λ (c : Checked). c.verdict) (for-none h) ∙ ap Refused (sym e)
      back (file_refused h w) = for-file h ∙ (refused-iff file fault).1 w

-- No file has this fault: "the C call, the programs and all other tools" never say 16.
pub never-sixteen : (file : List ℕ) (fault : Fault) → verdict_of file ≡ Refused fault → number_of fault < 16
never-sixteen file fault e = let w = fault-small file fault e in let n = w.number in omega arith

-- "An empty part", whatever the file.
pub no_part : (file : List ℕ) → part_of file (Refused Loader) ≡ []
unfolding part_of partless
no_part file = refl

-- ---- one call and the pairs

-- The pair of the loader that is counted for, and of any other.
pair-own : (n : ℕ) (t : Tally) (v : Verdict) → IsLoader n → EightPairs t
    → pair_of n (tallied_of t n v) ≡ counted_of (pair_of n t) v
unfolding tallied_of pair_of
pair-own n t v l e = get_or-set_same t.loaders n (counted_of (pair_of n t) v) zero_pair (let long = e.eight in omega arith)

pair-other : (m n : ℕ) (t : Tally) (v : Verdict) → ¬ (m ≡ n) → pair_of n (tallied_of t m v) ≡ pair_of n t
unfolding tallied_of pair_of
pair-other m n t v h = get_or-set_other t.loaders m n (counted_of (pair_of m t) v) zero_pair (λ e. h (sym e))

eight-kept : (n : ℕ) (t : Tally) (v : Verdict) → EightPairs t → EightPairs (tallied_of t n v)
unfolding tallied_of pair_of
eight-kept n t v e = record { eight = length-set t.loaders n (counted_of (pair_of n t) v) ∙ e.eight }

module _ (t : Tally) (c : Call) where
  after-loader : IsLoader c.loader → (answer_to t c).tally ≡ tallied_of t c.loader (verdict_of c.file)
  after-loader h = ap (λ (r : Checked). r.tally) (for-loader c.file c.loader t h)

  after_none : ¬ IsLoader c.loader → (answer_to t c).tally ≡ t
  after_none h = ap (λ (r : Checked). r.tally) (for-none c.file c.loader t h)

  answer-eight : EightPairs t → EightPairs (answer_to t c).tally
  answer-eight e = go (dec_lt c.loader loader_count)
    where
      go : Dec (IsLoader c.loader) → EightPairs (answer_to t c).tally
      go (yes h) = subst EightPairs (sym (after-loader h)) (eight-kept c.loader t (verdict_of c.file) e)
      go (no h) = subst EightPairs (sym (after_none h)) e

  -- A call of another loader leaves this one's pair.
  answer-other : (n : ℕ) → ¬ (c.loader ≡ n) → pair_of n (answer_to t c).tally ≡ pair_of n t
  answer-other n off = go (dec_lt c.loader loader_count)
    where
      go : Dec (IsLoader c.loader) → pair_of n (answer_to t c).tally ≡ pair_of n t
      go (yes h) = ap (pair_of n) (after-loader h) ∙ pair-other c.loader n t (verdict_of c.file) off
      go (no h) = ap (pair_of n) (after_none h)

  -- Its own call counts the verdict of its file.
  answer-own : (n : ℕ) → c.loader ≡ n → IsLoader c.loader → EightPairs t
      → pair_of n (answer_to t c).tally ≡ counted_of (pair_of n t) (verdict_of c.file)
  answer-own n is h e = ap (pair_of n) (after-loader h) ∙ rw is (pair-own n t (verdict_of c.file) (rw is at h) e)

-- Where two tallies agree on the pair of the loader that calls, they agree on it afterwards.
answer-same : (t u : Tally) (c : Call) (n : ℕ) → c.loader ≡ n → EightPairs t → EightPairs u → pair_of n t ≡ pair_of n u
    → pair_of n (answer_to t c).tally ≡ pair_of n (answer_to u c).tally
answer-same t u c n is e f same = go (dec_lt c.loader loader_count)
  where
    go : Dec (IsLoader c.loader) → pair_of n (answer_to t c).tally ≡ pair_of n (answer_to u c).tally
    go (yes h) =
        answer-own t c n is h e
        ∙ ap (λ (p : LoaderCounts). counted_of p (verdict_of c.file)) same ∙ sym (answer-own u c n is h f)
    go (no h) = ap (pair_of n) (after_none t c h) ∙ same ∙ sym (ap (pair_of n) (after_none u c h))

-- ---- many calls: counts

-- "A loader's counts depend on its first counts and its own calls only, whatever files the others hand in between": after
-- any calls they are those after its own calls alone, from any tally with the same first counts of this loader.
pub own-calls : (n : ℕ) (calls : List Call) (t u : Tally) → EightPairs t → EightPairs u → pair_of n t ≡ pair_of n u
    → pair_of n (tally_after t calls) ≡ pair_of n (tally_after u (own_calls n calls))
unfolding held own_calls
own-calls n [] t u e f same = same
own-calls n (c ∷ l) t u e f same = go (ℕ_discrete c.loader n) (own-calls n l)
  where
    go : Dec (c.loader ≡ n)
        → ((t u : Tally) → EightPairs t → EightPairs u → pair_of n t ≡ pair_of n u
        → pair_of n (tally_after t l) ≡ pair_of n (tally_after u (own_calls n l)))
        → pair_of n (tally_after t (c ∷ l)) ≡ pair_of n (tally_after u (own_calls n (c ∷ l)))
    go (yes is) rest =
        rw (eq-eqb c.loader n is)
        (rest (answer_to t c).tally (answer_to u c).tally (answer-eight t c e) (answer-eight u c f)
        (answer-same t u c n is e f same))
    go (no off) rest =
        rw (ne_eqb c.loader n off)
        (rest (answer_to t c).tally u (answer-eight t c e) f (answer-other t c n off ∙ same))

raised_by_lem : (n k : ℕ) → n ≤ full → raised_by k (raised_of n) ≡ raised_by (1 + k) n
raised_by_lem n k h = go (ℕ_discrete n full)
  where
    go : Dec (n ≡ full) → raised_by k (raised_of n) ≡ raised_by (1 + k) n
    go (yes e) = rw (eq-eqb n full e) (omega arith)
    go (no e) = rw (ne_eqb n full e) (omega arith)

raised-fits : (n : ℕ) → n ≤ full → raised_of n ≤ full
raised-fits n h = go (ℕ_discrete n full)
  where
    go : Dec (n ≡ full) → raised_of n ≤ full
    go (yes e) = rw (eq-eqb n full e) h
    go (no e) = rw (ne_eqb n full e) (omega arith)

-- The pair with the verdict counted fits again, and is raised as often as the verdict says.
counted-fits : (p : LoaderCounts) (v : Verdict) → ThirtyTwoBits p → ThirtyTwoBits (counted_of p v)
counted-fits p (Accepted k) f =
    record { accepted_fits = raised-fits p.accepted f.accepted_fits; refused_fits = f.refused_fits }
counted-fits p (Refused g) f =
    record { accepted_fits = f.accepted_fits; refused_fits = raised-fits p.refused f.refused_fits }

counted-by : (p : LoaderCounts) (v : Verdict) (k m : ℕ) → ThirtyTwoBits p
    → raised_pair (counted_of p v) k m ≡ raised_pair p (if_accepted v + k) (if_refused v + m)
counted-by p (Accepted x) k m f =
    let none : 0 + m ≡ m = omega arith in rw (raised_by_lem p.accepted k f.accepted_fits, none)
counted-by p (Refused g) k m f =
    let none : 0 + k ≡ k = omega arith in rw (raised_by_lem p.refused m f.refused_fits, none)

none-raised : (p : LoaderCounts) → ThirtyTwoBits p → p ≡ raised_pair p 0 0
none-raised p f =
    let a : raised_by 0 p.accepted ≡ p.accepted = (let h = f.accepted_fits in omega arith) in
    let r : raised_by 0 p.refused ≡ p.refused = (let h = f.refused_fits in omega arith) in
    sym (rw (a, r))

-- "Each wants its own counts": the first counts, raised as often as one of the loader's own files was accepted, or refused.
pub own-counts : (n : ℕ) → IsLoader n → (calls : List Call) (t : Tally) → EightPairs t → ThirtyTwoBits (pair_of n t)
    → pair_of n (tally_after t calls)
    ≡ raised_pair (pair_of n t) (accepted_among (own_calls n calls)) (refused_among (own_calls n calls))
unfolding held own_calls accepted_among refused_among
own-counts n l [] t e f = none-raised (pair_of n t) f
own-counts n l (c ∷ rest) t e f = go (ℕ_discrete c.loader n) (own-counts n l rest)
  where
    next : Tally
    next = (answer_to t c).tally

    Right : List Call → Tally → Type 0
    Right calls t =
        pair_of n (tally_after t calls)
        ≡ raised_pair (pair_of n t) (accepted_among (own_calls n calls)) (refused_among (own_calls n calls))

    go : Dec (c.loader ≡ n) → ((t : Tally) → EightPairs t → ThirtyTwoBits (pair_of n t) → Right rest t) → Right (c ∷ rest) t
    go (yes is) more =
        let own = answer-own t c n is (rw is l) e in
        let fits : ThirtyTwoBits (pair_of n next) = subst ThirtyTwoBits (sym own) (counted-fits (pair_of n t) (verdict_of c.file) f) in
        rw (eq-eqb c.loader n is) (more next (answer-eight t c e) fits
        ∙ ap (λ (p : LoaderCounts). raised_pair p (accepted_among (own_calls n rest)) (refused_among (own_calls n rest))) own
        ∙ counted-by (pair_of n t) (verdict_of c.file) (accepted_among (own_calls n rest))
        (refused_among (own_calls n rest)) f)
    go (no off) more =
        let kept = answer-other t c n off in
        rw (ne_eqb c.loader n off) (more next (answer-eight t c e) (subst ThirtyTwoBits (sym kept) f)
        ∙ ap (λ (p : LoaderCounts). raised_pair p (accepted_among (own_calls n rest)) (refused_among (own_calls n rest))) kept)

-- ---- many calls: verdicts

-- Each answer is that of its call, with some tally.
each-answer : (turns : List Turn) (t : Tally) (a : Answered) → Memᴰ a (answered t turns)
    → (u : Tally) × (a.answer ≡ answer_to u a.call)
unfolding answered
each-answer [] t a m = absurd (Memᴰ.not-nil m)
each-answer (asks c ∷ l) t a m = go (Memᴰ.cases_cons m) (each-answer l (answer_to t c).tally a)
  where
    first : Answered
    first = record { call = c; answer = answer_to t c }

    go : (a ≡ first) ⊎ Memᴰ a (answered (answer_to t c).tally l)
        → (Memᴰ a (answered (answer_to t c).tally l) → (u : Tally) × (a.answer ≡ answer_to u a.call))
        → (u : Tally) × (a.answer ≡ answer_to u a.call)
    go (inl e) rest = (t, subst (λ (b : Answered). b.answer ≡ answer_to t b.call) (sym e) refl)
    go (inr n) rest = rest n
each-answer (restores u ∷ l) t a m = each-answer l u a m

module _ (turns : List Turn) (t : Tally) (a : Answered) (m : Memᴰ a (answered t turns)) where
  -- "Under a loader number 0 to 7 a verdict depends on its file only": it is that of the file, in any list of calls, also
  -- where older tallies are restored between them.
  pub verdict-of-file : IsLoader a.call.loader → a.answer.verdict ≡ verdict_of a.call.file
  verdict-of-file h =
      let w = each-answer turns t a m in
      ap (λ (r : Checked). r.verdict) w.1 ∙ for-file a.call.file a.call.loader w.0 h

  -- Above 7 it is 16, whatever the file.
  pub verdict-of-none : ¬ IsLoader a.call.loader → a.answer.verdict ≡ Refused Loader
  verdict-of-none h =
      let w = each-answer turns t a m in
      ap (λ (r : Checked). r.verdict) (w.1 ∙ for-none a.call.file a.call.loader w.0 h)

  -- Demand 3 of every file that is accepted in such a list.
  pub secrecy-of-answered : (counts : Counts) → a.answer.verdict ≡ Accepted counts
      → (steps : List (Step (certificate_of a.call.file))) (s : Message) → Secret (certificate_of a.call.file) s
      → Derives (certificate_of a.call.file) (after (certificate_of a.call.file) steps) s → ⊥
  secrecy-of-answered counts e = secrecy-of-accepted a.call.file counts (sym (verdict-of-file loader) ∙ e)
    where
      loader : IsLoader a.call.loader
      loader =
          let w = each-answer turns t a m in
          ((accepted-for-iff a.call.file a.call.loader w.0 counts).0
          (sym (ap (λ (r : Checked). r.verdict) w.1) ∙ e)).0

-- ---- a restored tally

held-append : (before later : List Turn) (t : Tally) → held t (before ++ later) ≡ held (held t before) later
unfolding held
held-append [] later t = refl
held-append (asks c ∷ l) later t = held-append l later (answer_to t c).tally
held-append (restores u ∷ l) later t = held-append l later u

answered-append : (before later : List Turn) (t : Tally)
    → answered t (before ++ later) ≡ answered t before ++ answered (held t before) later
unfolding held answered
answered-append [] later t = refl
answered-append (asks c ∷ l) later t =
    ap (λ (r : List Answered). record { call = c; answer = answer_to t c } ∷ r) (answered-append l later (answer_to t c).tally)
answered-append (restores u ∷ l) later t = answered-append l later u

-- What follows depends on the tally that is restored, and on nothing before: the answers, and the tally at the end.
module _ (before later : List Turn) (t u : Tally) where
  pub restored : held t (before ++ (restores u ∷ later)) ≡ held u later
  unfolding held
  restored = held-append before (restores u ∷ later) t

  pub restored-answers : answered t (before ++ (restores u ∷ later)) ≡ answered t before ++ answered u later
  unfolding answered
  restored-answers = answered-append before (restores u ∷ later) t

-- "A restored older tally restores all eight": once the tally after the earlier calls is restored, the tally at the end is
-- as if there had been no calls between, and so is every later answer.
pub restored-all-eight : (earlier between later : List Call) (t : Tally)
    → (held t (restoring t earlier between later) ≡ tally_after t (earlier ++ later))
    × (answered t (restoring t earlier between later)
    ≡ answered t (map asks (earlier ++ between)) ++ answered (tally_after t earlier) (map asks later))
restored-all-eight earlier between later t = (
  restored (map asks (earlier ++ between)) (map asks later) t (tally_after t earlier)
      ∙ sym (ap (held t) (map-append asks earlier later) ∙ held-append (map asks earlier) (map asks later) t),
  restored-answers (map asks (earlier ++ between)) (map asks later) t (tally_after t earlier),
)
