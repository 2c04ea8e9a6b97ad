-- Laws of the run of equal symbols with which two terms begin, and of what follows where they then differ.
use mathlib.Core.Path.{◌≡◌, refl, sym, ap, ◌∙◌}
use mathlib.Core.Bool.{Bool, false}
use mathlib.Core.List.{List}
use mathlib.Core.Logic.{◌↔◌}
use Prim.Native.Nat.{ℕ, ◌+◌, ◌*◌, ◌-◌, ◌≤◌}
use native.Mathlib.Omega.{arith}
use lib.ListN.{length, get_or, replicate}
use Rattle.blocks.specs.Limits.{most_term_bytes}
use Rattle.terms.specs.Term.{Term, variable, Variable, replace, as_term}
use Rattle.terms.specs.declared.atom.Atom.{Atom}
use Rattle.terms.specs.Instance.{Matches}
use Rattle.terms.specs.Apart.{Common}
use Rattle.terms.specs.Tag.{SymbolTag, signature_tag, children_of}
use Rattle.terms.specs.Entry.{term_of, Begins, tag_at, from}
use Rattle.terms.specs.Decisions.{Says, says_same}
use Rattle.terms.specs.Occurs.{replace-twice}
use Rattle.terms.specs.Decide.{answer, variable?, term?, match?}
use Rattle.terms.specs.Slot.{slot_count}
use Rattle.terms.specs.Front.{Front, Takes, SameFirst, Alike, Ran, Goes, Ready, NoncesBound, Made}
use Rattle.terms.proofs.AnswerLaws.{says-answer}
use Rattle.terms.proofs.EntryLaws.{begins-tag, from-from, from-length}
use Rattle.terms.proofs.SlotLaws.{symbol-slot}
use Rattle.terms.proofs.FrontLaws.{next, front-begins, opened, KeepsFirst, next-symbol, alike-symbol, alike-other, front-few}
use Rattle.terms.proofs.TermGraphLaws.{tag-from}
use Rattle.terms.proofs.SameLaws.{one-term, alike-one, same-clash, same_answer}
use Rattle.terms.proofs.MatchLaws.{none-bound}
use Rattle.std.specs.Prelude.{None}

-- There is room for an entry where a term is left.
front-room : (e : List ℕ) (k : ℕ) {left : ℕ} → Front left (from (4 * k) e) → ¬ (left ≡ 0) → 4 * (k + 1) ≤ length e
front-room e k f some_left = omega (arith, (front-begins f some_left).room, from-length (4 * k) e)

-- And its tag is one of those there are.
pub front-tag : (e : List ℕ) (k : ℕ) {left : ℕ} → Front left (from (4 * k) e) → ¬ (left ≡ 0) → get_or e (4 * k) 0 ≤ signature_tag
front-tag e k f some_left = rw (tag-from e k) (begins-tag (front-begins f some_left))

-- One symbol more.
module _ {need : ℕ} {e f : List ℕ} {k left : ℕ} (r : Ran need e f k left) where
  further : (d : List ℕ) → from 4 (from (4 * k) d) ≡ from (4 * (k + 1)) d
  further d = let there : 4 * k + 4 ≡ 4 * (k + 1) = omega arith in rw (from-from, there) refl

  keeps : SymbolTag (tag_at (from (4 * k) e)) → ¬ (left ≡ 0) → (by : Variable → Term Variable) → KeepsFirst by (from (4 * k) e)
  keeps low some_left by x is = absurd (symbol-slot (front-begins r.front some_left) low x is)

  keeps-other : SymbolTag (tag_at (from (4 * k) f)) → ¬ (left ≡ 0) → (by : Variable → Term Variable) → KeepsFirst by (from (4 * k) f)
  keeps-other low some_left by x is = absurd (symbol-slot (front-begins r.other_front some_left) low x is)

  ran-room : ¬ (left ≡ 0) → (4 * (k + 1) ≤ length e) × (4 * (k + 1) ≤ length f)
  ran-room some_left = (front-room e k r.front some_left, front-room f k r.other_front some_left)

  pub ran-more : Goes e f k left → {c : ℕ} → c ≡ children_of (tag_at (from (4 * k) e)) → Ran need e f (k + 1) (left - 1 + c)
  ran-more g is =
      let a = (opened left r.front g.some_left).below in
      let b = (opened left r.other_front g.some_left).below in
      let tags = g.same.tag in
      let room = ran-room g.some_left in
      rw is (record {
        inside = room.0;
        other_inside = room.1;
        front = rw (further e) at a;
        other_front = rw (further f, ← tags) at b;
        takes = λ by. (
          λ h. rw (further e, further f) at ((step by).0 ((r.takes by).0 h)),
          λ h. (r.takes by).1 ((step by).1 (rw (further e, further f) h)),
        );
        alike = λ by by'. (
          λ h. rw (further e, further f) at ((both by by').0 ((r.alike by by').0 h)),
          λ h. (r.alike by by').1 ((both by by').1 (rw (further e, further f) h)),
        );
      })
    where
      step : (by : Variable → Term Variable) → Takes by left (from (4 * k) e) (from (4 * k) f)
          ↔ Takes by (next left (from (4 * k) e)) (from 4 (from (4 * k) e)) (from 4 (from (4 * k) f))
      step by = next-symbol left r.front r.other_front g.some_left by (keeps g.symbol g.some_left by) g.same

      both : (by by' : Variable → Term Variable) → Alike by by' left (from (4 * k) e) (from (4 * k) f)
          ↔ Alike by by' (next left (from (4 * k) e)) (from 4 (from (4 * k) e)) (from 4 (from (4 * k) f))
      both by by' =
          let low = g.symbol in
          let tags = g.same.tag in
          alike-symbol left r.front r.other_front g.some_left by by' (keeps low g.some_left by) (keeps-other (rw tags at low) g.some_left by') g.same

  -- Then other symbols stand on both sides: nothing makes the terms the same.
  module _ (some_left : ¬ (left ≡ 0)) (low : SymbolTag (tag_at (from (4 * k) e))) (low' : SymbolTag (tag_at (from (4 * k) f))) (stops : ¬ Goes e f k left) where
    off : ¬ SameFirst (from (4 * k) e) (from (4 * k) f)
    off same = stops (record { some_left = some_left; symbol = low; same = same })

    pub differ-alike : (by by' : Variable → Term Variable) → ¬ Alike by by' need e f
    differ-alike by by' h = alike-other left r.front r.other_front some_left by by' (keeps low some_left by) (keeps-other low' some_left by') off
        ((r.alike by by').0 h)

-- A message in common gives replacements that make the terms the same.
pub common-alike : {t u : Term Variable} (h : Common t u)
    → replace {Y = Variable} (λ x. as_term (h.left.by x)) t ≡ replace (λ x. as_term (h.right.by x)) u
unfolding as_term
common-alike {t} {u} h =
    let left : replace (λ x. as_term (h.left.by x)) t ≡ as_term h.message =
    sym (replace-twice (λ x. absurd x) h.left.by t) ∙ ap as_term h.left.same in
    let right : replace (λ x. as_term (h.right.by x)) u ≡ as_term h.message =
    sym (replace-twice (λ x. absurd x) h.right.by u) ∙ ap as_term h.right.same in
    left ∙ sym right

-- Terms that no replacements make the same have no message in common.
pub apart-common : {e f : List ℕ} → Begins e → Begins f → ((by by' : Variable → Term Variable) → ¬ Alike by by' 1 e f) → ¬ Common (term_of e) (term_of f)
apart-common b d off h = off _ _ ((alike-one b d _ _).1 (common-alike h))

-- Matching goes on behind the run, with nothing bound.
pub run-ready : {e f : List ℕ} {k left : ℕ} → Ran 1 e f k left → length f ≤ most_term_bytes → Ready (from (4 * k) e) f k left (replicate slot_count None)
run-ready {e} {f} {k} {left} r small = record {
  pattern = r.front;
  subject = r.other_front;
  held = λ i k h. absurd (none-bound i k h);
  inside = let room = r.other_front.room in let inside = r.other_inside in omega (arith, from-length (4 * k) f);
  small = small;
}

pub none-nonces : (atoms : List Atom) (t : List ℕ) → NoncesBound atoms t (replicate slot_count None)
none-nonces atoms t = record { each = λ i k h. absurd (none-bound i k h) }

pub run-answer : (atoms : List Atom) {e f : List ℕ} {k left : ℕ} → Begins e → Begins f → Ran 1 e f k left → (b : Bool)
    → Says b (Made atoms (from (4 * k) e) f k left (replicate slot_count None))
    → b ≡ answer (match? atoms (term_of e) (term_of f))
run-answer atoms {e} {f} {k} {left} b d r t says = says-answer t (says_same t to back says) (match? atoms _ _)
  where
    to : Made atoms (from (4 * k) e) f k left (replicate slot_count None) → Matches atoms (term_of e) (term_of f)
    to m = record { by = m.by; nonces = m.nonces; same = (one-term b d m.by).0 ((r.takes m.by).1 m.takes) }

    back : Matches atoms (term_of e) (term_of f) → Made atoms (from (4 * k) e) f k left (replicate slot_count None)
    back m = record {
      by = m.by;
      nonces = m.nonces;
      agrees = record { held = λ i k h. absurd (none-bound i k h) };
      takes = (r.takes m.by).0 ((one-term b d m.by).1 m.same);
    }

-- Terms that begin with different entries are not the same; where they do not, equality goes on behind the run.
pub first-differs : {e f : List ℕ} → Begins e → Begins f → ¬ SameFirst e f → false ≡ answer (term? variable? (term_of e) (term_of f))
first-differs b d off = same_answer b d false (same-clash (front-few b (omega arith), front-few d (omega arith)) (omega arith) off)

pub run-same : {e f : List ℕ} {k left : ℕ} → Begins e → Begins f → Ran 1 e f k left → (b : Bool)
    → Says b (Takes variable left (from (4 * k) e) (from (4 * k) f))
    → b ≡ answer (term? variable? (term_of e) (term_of f))
run-same b d r t says = same_answer b d t (says_same t (r.takes variable).1 (r.takes variable).0 says)
