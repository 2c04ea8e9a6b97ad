-- The verdict of a file is what the documents' conditions say, accepted or refused.
use mathlib.Core.Path.{◌≡◌, refl, sym, ap, subst, ◌∙◌}
use mathlib.Core.Logic.{◌⊎◌, inl, inr, ◌↔◌}
use mathlib.Core.Bool.{◌&&◌}
use mathlib.Core.List.{List}
use mathlib.Core.Option.{Option, none, some, none-ne-some}
use Prim.Native.Nat.{ℕ, ◌+◌, ◌<◌, ◌≤◌}
use native.Mathlib.Omega.{arith}
use native.Mathlib.Decide.{dec_lt}
use lib.Dec.{eqb, leb}
use Rattle.blocks.specs.Kinds.{secret_kind, good_kind, rule_kind}
use Rattle.blocks.specs.Block.{block_at, kind_of, first_count}
use Rattle.terms.specs.First.{Found, first_not}
use Rattle.std.specs.Prelude.{Some, None}
use Rattle.terms.specs.Term.{Term, Message, Variable}
use Rattle.terms.specs.Place.{Place}
use Rattle.terms.specs.Search.{is_place?}
use Rattle.terms.specs.Entry.{size, entry_at}
use Rattle.terms.proofs.PlacedLaws.{placed, placed-within, one_place}
use Rattle.terms.specs.Decide.{answer}
use Rattle.terms.proofs.AnswerLaws.{says_eq}
use Rattle.terms.specs.Decisions.{Says, says_same}
use Rattle.judge.specs.declared.verdict.Counts.{Counts}
use Rattle.judge.specs.declared.verdict.Fault.{Fault}
use Rattle.judge.specs.declared.verdict.Fault.TheVariants.{Length, Missing, Uncovered, OpenSecret}
use Rattle.judge.specs.declared.listed.Condition.{Condition}
use Rattle.judge.specs.declared.listed.Condition.TheVariants.{NotKnown, Closed, Kept}
use Rattle.judge.specs.declared.verdict.Verdict.TheVariants.{Accepted, Refused}
use Rattle.judge.specs.Certificate.{Certificate, Rule}
use Rattle.judge.specs.File.{block_count, rule_of, certificate_of, kind_count, counts_of}
use Rattle.judge.specs.Cover.{SecretOpenAt, HasOpenSecret, Passes}
use Rattle.judge.specs.Conditions.{KnownAtom}
use Rattle.judge.specs.Decisions.{known_atom?, secret_open?, risky?}
use Rattle.judge.specs.Verdict.{missing_fault, on_kind, kind_fault, kind_asked, Meets, meets?, fault_on, condition_at, condition_fault, spot_at}
use Rattle.judge.proofs.Files.Spots.{spot-stands, fine-spot, all-places, each-entry}
use Rattle.judge.specs.Verdict.{NoSecretSpot, no_secret?, open_secret, open_secret_rule, open_secret_fault, FineSpot, fine?, uncovered, uncovered_rule, uncovered_fault}
use Rattle.judge.specs.Verdict.{rule_fault, certificate_fault}
use Rattle.judge.specs.Verdict.{length_fault, form_from, form_fault, fault_of, verdict_of, block_fault}
use Rattle.judge.specs.Meaning.{LengthRight, BlockRight, BlockFaulty, HasKind, Formed, Every, SecretNotKnown, SecretClosed, RootKeyKept, NoOpenSecret, Passing}
use Rattle.judge.specs.Meaning.{FirstOpenSecret, FirstUncovered, Accepts, FirstAt, RefusedWith, length_fails, block_fails, missing, secret_known}
use Rattle.judge.specs.Meaning.{secret_not_closed, key_not_kept, secret_open, place_uncovered}
use Rattle.judge.proofs.Files.Exact.{Exact, found_none, reworded, tested, either, then, FirstPlace, at, first-place}
use Rattle.judge.proofs.Files.Exact.{FirstBlock, at_block, first_block, says-decided, says-le, says_both}
use Rattle.judge.proofs.Files.Judged.{length-judged, block-judged}
use Rattle.judge.proofs.Files.Members.{count-has, has-count}

-- ---- number 4

missing-judged : (file : List ℕ) → Exact (HasKind secret_kind file × HasKind rule_kind file)
    (λ g. (g ≡ Missing (block_count file)) × (¬ (HasKind secret_kind file × HasKind rule_kind file))) (missing_fault file)
unfolding missing_fault
missing-judged file = tested (leb 1 (kind_count secret_kind file) && leb 1 (kind_count rule_kind file)) (Missing (block_count file))
    (says_both (HasKind secret_kind file) (HasKind rule_kind file) (leb 1 (kind_count secret_kind file)) (leb 1 (kind_count rule_kind file)) (has secret_kind) (has rule_kind))
  where
    has : (kind : ℕ) → Says (leb 1 (kind_count kind file)) (HasKind kind file)
    has kind = says_same (leb 1 (kind_count kind file)) (count-has kind file) (has-count kind file) (says-le 1 (kind_count kind file))

-- ---- the first block of a kind

-- It fails there, and this is the fault.
data KindWrong (kind : ℕ) (file : List ℕ) (P : List ℕ → Type 0) (W : ℕ → Fault → Type 0) (g : Fault) : Type 0 where
  kind-wrong : {i : ℕ} → FirstAt i kind file P → W i g → KindWrong kind file P W g

kind-judged : {P : List ℕ → Type 0} {W : ℕ → Fault → Type 0} (kind : ℕ) (judged : ℕ → List ℕ → Option Fault) (file : List ℕ)
    → ((i : ℕ) → Exact (P (block_at file i)) (W i) (judged i (block_at file i)))
    → Exact (Every kind file P) (KindWrong kind file P W) (kind_fault kind judged file)
unfolding kind_fault on_kind
kind-judged {P} {W} kind judged file each = reworded (λ all i h. all i h) (λ all i h. all i h) to back
    (first_block (on_kind kind judged file) on (block_count file))
  where
    R : ℕ → Type 0
    R i = kind_of (block_at file i) ≡ kind → P (block_at file i)

    U : ℕ → Fault → Type 0
    U i g = (kind_of (block_at file i) ≡ kind) × W i g

    on : (i : ℕ) → Exact (R i) (U i) (on_kind kind judged file i)
    on i = reworded (λ w. w.0) (λ r. (r, λ n. tt)) onto (λ g w. inl w)
        (either (eqb (kind_of (block_at file i)) kind) (says_eq (kind_of (block_at file i)) kind) (λ e. each i)
        (λ n. found_none {Right = Unit {0}} {Wrong = λ g. ⊥} tt (λ g w. w)))
      where
        onto : (g : Fault) → ((kind_of (block_at file i) ≡ kind) × W i g) ⊎ ((¬ (kind_of (block_at file i) ≡ kind)) × ⊥) → U i g
        onto g (inl w) = w
        onto g (inr w) = absurd w.1

    to : (g : Fault) → FirstBlock R U 0 (block_count file) g → KindWrong kind file P W g
    to g (at_block {i} l h all w) = kind-wrong {i = i} (record {
      inside = omega arith;
      is = w.0;
      fails = λ p. none-ne-some g (sym ((each i).right-none p) ∙ (each i).wrong-some g w.1);
      before = λ j b. all j (omega arith) b;
    }) w.1

    back : (g : Fault) → KindWrong kind file P W g → FirstBlock R U 0 (block_count file) g
    back g (kind-wrong {i} f w) = at_block {i = i} (omega arith) (let h = f.inside in omega arith) (λ j l h. f.before j h) (f.is, w)

-- ---- number 15 of a rule

module _ (certificate : Certificate) (rule : Rule) (F : ℕ → Fault) where
  abbrev SecretFound : Fault → Type 0
  SecretFound g = (k : ℕ) × (g ≡ F k) × FirstOpenSecret certificate rule k

  -- With the premise t.
  module _ (t : Term Variable) (given : rule.premise ≡ some t) where
    -- A secret at an open place stands at the place of its entry's number.
    spot : {p : Place} → SecretOpenAt certificate t p → (entry_at p t < size t) × SecretOpenAt certificate t (spot_at t (entry_at p t)).0
    spot {p} o =
        let here = placed p t o.stands in
        let inside = placed-within here in
        (inside, subst (SecretOpenAt certificate t) (one_place here (spot-stands t (entry_at p t) inside)) o)

    no-secrets : ((k : ℕ) → k < size t → NoSecretSpot certificate t k) → ¬ HasOpenSecret certificate rule
    no-secrets all h =
        let e = h.given in
        let same : h.premise ≡ t = cc (given) in
        let o = spot (subst (λ (u : Term Variable). SecretOpenAt certificate u h.place) same h.open_secret) in
        all _ o.0 o.1

    each-spot : ¬ HasOpenSecret certificate rule → (k : ℕ) → k < size t → NoSecretSpot certificate t k
    each-spot off k inside o = off (record { premise = t; given = given; place = (spot_at t k).0; open_secret = o })

    first-secret : (g : Fault) → FirstPlace (NoSecretSpot certificate t) (size t) F g → SecretFound g
    first-secret g (at {n} e l off all) = (
      n,
      e,
      record {
        premise = t;
        given = given;
        place = (spot_at t n).0;
        entry = (spot-stands t n l).number;
        open_secret = elim (secret_open? certificate t (spot_at t n).0) [ yes o ↦ o | no m ↦ absurd (off m) ];
        before = λ p o. (let w = spot o in elim (dec_lt (entry_at p t) n) [ yes low ↦ absurd (all _ low w.1) | no high ↦ omega arith ]);
      },
    )

    first-spot : (g : Fault) → SecretFound g → FirstPlace (NoSecretSpot certificate t) (size t) F g
    first-spot g (k, e, u) =
        let f = u.given in
        let same : u.premise ≡ t = cc (given) in
        let here : SecretOpenAt certificate t u.place = subst (λ (v : Term Variable). SecretOpenAt certificate v u.place) same u.open_secret in
        let entry : entry_at u.place t ≡ k = subst (λ (v : Term Variable). entry_at u.place v ≡ k) same u.entry in
        let first : (p : Place) → SecretOpenAt certificate t p → k ≤ entry_at p t =
        subst (λ (v : Term Variable). (p : Place) → SecretOpenAt certificate v p → k ≤ entry_at p v) same u.before in
        let o = spot here in
        let inside : k < size t = rw entry at o.0 in
        at e inside (λ off. off (subst (λ (n : ℕ). SecretOpenAt certificate t (spot_at t n).0) entry o.1))
        (λ m low w. omega (arith, first _ w, (spot-stands t m (omega arith)).number))

  secret-judged : Exact (¬ HasOpenSecret certificate rule) SecretFound (elim (open_secret certificate rule) [ Some k ↦ some (F k) | None ↦ none ])
  unfolding open_secret
  secret-judged = go rule.premise refl
    where
      found : Option (Term Variable) → Found
      found premise = elim premise [ none ↦ None | some t ↦ first_not (no_secret? certificate t) (size t) ]

      go : (premise : Option (Term Variable)) → rule.premise ≡ premise
          → Exact (¬ HasOpenSecret certificate rule) SecretFound (elim (found premise) [ Some k ↦ some (F k) | None ↦ none ])
      go none e = found_none (λ h. none-ne-some _ (sym e ∙ h.given)) (λ g w. none-ne-some _ (sym e ∙ w.2.given))
      go (some t) e = reworded (no-secrets t e) (each-spot t e) (first-secret t e) (first-spot t e) (first-place (no_secret? certificate t) (size t) F)

-- ---- number 12 of a rule

module _ (certificate : Certificate) (rule : Rule) where
  abbrev RuleOpen : (ℕ → Fault) → Fault → Type 0
  RuleOpen F g = (k : ℕ) × (g ≡ F k) × FirstUncovered certificate rule k

  passes-judged : (F : ℕ → Fault) → Exact (Passes certificate rule) (RuleOpen F) (elim (uncovered certificate rule) [ Some k ↦ some (F k) | None ↦ none ])
  unfolding uncovered
  passes-judged F = reworded (λ all. record { covered = all-places certificate rule all }) (λ w. each-entry certificate rule w.covered) wrong-to wrong-back
      (first-place (fine? certificate rule) (size rule.conclusion) F)
    where
      wrong-to : (g : Fault) → FirstPlace (FineSpot certificate rule) (size rule.conclusion) F g → RuleOpen F g
      wrong-to g (at {n} e l off all) = (
        n,
        e,
        record {
          place = (spot_at rule.conclusion n).0;
          subterm = (spot_at rule.conclusion n).1;
          stands = spot-stands rule.conclusion n l;
          is_place = elim (is_place? rule.conclusion (spot_at rule.conclusion n).0) [ yes p ↦ p | no m ↦ absurd (off (λ p. absurd (m p))) ];
          risky = elim (risky? certificate (spot_at rule.conclusion n).1) [ yes r ↦ r | no m ↦ absurd (off (λ p r. absurd (m r))) ];
          bare = λ c. off (λ p r. c);
          before = λ m h. (fine-spot certificate rule m (omega arith)).0 (all m h);
        },
      )

      wrong-back : (g : Fault) → RuleOpen F g → FirstPlace (FineSpot certificate rule) (size rule.conclusion) F g
      wrong-back g (k, e, u) =
          let inside = placed-within u.stands in
          at e inside (λ fine. u.bare ((fine-spot certificate rule k inside).0 fine _ _ u.stands u.is_place u.risky))
          (λ m h. (fine-spot certificate rule m (omega arith)).1 (u.before m h))

-- ---- numbers 9 to 12, and 15

module _ (certificate : Certificate) (file : List ℕ) where
  abbrev Unmet : Condition → ℕ → Fault → Type 0
  Unmet condition i g = (g ≡ fault_on condition i) × (¬ Meets condition certificate (block_at file i))

  abbrev ConditionWrong : Condition → Fault → Type 0
  ConditionWrong condition = KindWrong (kind_asked condition) file (Meets condition certificate) (Unmet condition)

  condition-judged : (condition : Condition)
      → Exact (Every (kind_asked condition) file (Meets condition certificate)) (ConditionWrong condition) (condition_fault condition certificate file)
  unfolding condition_fault condition_at
  condition-judged condition = kind-judged (kind_asked condition) (condition_at condition certificate) file
      (λ i. tested (answer (meets? condition certificate (block_at file i))) (fault_on condition i)
      (says-decided (meets? condition certificate (block_at file i))))

  abbrev PremiseWrong : Fault → Type 0
  PremiseWrong = KindWrong rule_kind file (NoOpenSecret certificate) (λ i. SecretFound certificate (rule_of (block_at file i)) (OpenSecret i))

  premises-judged : Exact (Every rule_kind file (NoOpenSecret certificate)) PremiseWrong (open_secret_fault certificate file)
  unfolding open_secret_fault open_secret_rule
  premises-judged = kind-judged rule_kind (open_secret_rule certificate) file
      (λ i. secret-judged certificate (rule_of (block_at file i)) (OpenSecret i))

  abbrev ConclusionWrong : Fault → Type 0
  ConclusionWrong = KindWrong rule_kind file (Passing certificate)
      (λ i. RuleOpen certificate (rule_of (block_at file i)) (λ k. Uncovered i (first_count (block_at file i) + k)))

  conclusions-judged : Exact (Every rule_kind file (Passing certificate)) ConclusionWrong (uncovered_fault certificate file)
  unfolding uncovered_fault uncovered_rule
  conclusions-judged = kind-judged rule_kind (uncovered_rule certificate) file
      (λ i. passes-judged certificate (rule_of (block_at file i)) (λ k. Uncovered i (first_count (block_at file i) + k)))

  abbrev Rules : Type 0
  Rules = Every rule_kind file (NoOpenSecret certificate) × Every rule_kind file (Passing certificate)

  abbrev RulesWrong : Fault → Type 0
  RulesWrong g = PremiseWrong g ⊎ (Every rule_kind file (NoOpenSecret certificate) × ConclusionWrong g)

  rule-judged : Exact Rules RulesWrong (rule_fault certificate file)
  unfolding rule_fault
  rule-judged = then (open_secret_fault certificate file) premises-judged (λ n. conclusions-judged)

  abbrev Judged : Type 0
  Judged = Every secret_kind file (SecretNotKnown certificate) × (Every secret_kind file (SecretClosed certificate)
      × (Every good_kind file (RootKeyKept certificate) × Rules))

  abbrev JudgedWrong : Fault → Type 0
  JudgedWrong g = ConditionWrong NotKnown g ⊎ (Every secret_kind file (SecretNotKnown certificate)
      × (ConditionWrong Closed g ⊎ (Every secret_kind file (SecretClosed certificate)
      × (ConditionWrong Kept g ⊎ (Every good_kind file (RootKeyKept certificate) × RulesWrong g)))))

  certificate-judged : Exact Judged JudgedWrong (certificate_fault certificate file)
  unfolding certificate_fault
  certificate-judged = then (condition_fault NotKnown certificate file) (condition-judged NotKnown)
      (λ k. then (condition_fault Closed certificate file) (condition-judged Closed)
      (λ c. then (condition_fault Kept certificate file) (condition-judged Kept) (λ h. rule-judged)))

-- ---- the verdict

module _ (file : List ℕ) where
  abbrev Blocks : Type 0
  Blocks = (i : ℕ) → i < block_count file → BlockRight file i

  form-judged : Exact Blocks (FirstBlock (BlockRight file) (BlockFaulty file) 0 (block_count file)) (form_fault file)
  unfolding form_fault form_from
  form-judged = first_block (block_fault file) (block-judged file) (block_count file)

  abbrev Right : Type 0
  Right = LengthRight file × (Blocks × ((HasKind secret_kind file × HasKind rule_kind file) × Judged (certificate_of file) file))

  abbrev Wrong : Fault → Type 0
  Wrong g = ((g ≡ Length) × (¬ LengthRight file)) ⊎ (LengthRight file
      × (FirstBlock (BlockRight file) (BlockFaulty file) 0 (block_count file) g ⊎ (Blocks
      × (((g ≡ Missing (block_count file)) × (¬ (HasKind secret_kind file × HasKind rule_kind file)))
      ⊎ ((HasKind secret_kind file × HasKind rule_kind file) × JudgedWrong (certificate_of file) file g)))))

  fault-judged : Exact (Accepts file) (RefusedWith file) (fault_of file)
  unfolding fault_of
  fault-judged = reworded to back wrong-to (λ g w. wrong-back g w)
      (then (length_fault file) (length-judged file) (λ l. then (form_fault file) form-judged
      (λ b. then (missing_fault file) (missing-judged file) (λ h. certificate-judged (certificate_of file) file))))
    where
      formed : LengthRight file → Blocks → HasKind secret_kind file × HasKind rule_kind file → Formed file
      formed l b h = record { long = l; blocks = b; secret = h.0; rule = h.1 }

      to : Right → Accepts file
      to (l, (b, (h, (u, (c, (k, (n, p))))))) =
          record { formed = formed l b h; unknown = u; closed = c; kept = k; no_open_secret = n; passing = p }

      back : Accepts file → Right
      back a = (
        a.formed.long,
        (
          a.formed.blocks,
          (
            (a.formed.secret, a.formed.rule),
            (a.unknown, (a.closed, (a.kept, (a.no_open_secret, a.passing)))),
          ),
        ),
      )

      known-atom : {m : Message} → ¬ (¬ KnownAtom (certificate_of file) m) → KnownAtom (certificate_of file) m
      known-atom {m} n = elim (known_atom? (certificate_of file) m) [ yes k ↦ k | no off ↦ absurd (n off) ]

      judged-to : (g : Fault) → Formed file → JudgedWrong (certificate_of file) file g → RefusedWith file g
      judged-to g f (inl (kind-wrong a w)) = secret_known w.0 f a (known-atom w.1)
      judged-to g f (inr (u, inl (kind-wrong a w))) = secret_not_closed w.0 f u a
      judged-to g f (inr (u, inr (c, inl (kind-wrong a w)))) = key_not_kept w.0 f u c a
      judged-to g f (inr (u, inr (c, inr (k, inl (kind-wrong a w))))) = secret_open w.1 f u c k a w.2
      judged-to g f (inr (u, inr (c, inr (k, inr (n, kind-wrong a w))))) = place_uncovered w.1 f u c k n a w.2

      wrong-to : (g : Fault) → Wrong g → RefusedWith file g
      wrong-to g (inl w) = length_fails w.0 w.1
      wrong-to g (inr (l, inl (at_block {i = i} a h all w))) = block_fails {i = i} l (omega arith) (λ j p. all j (omega arith) p) w
      wrong-to g (inr (l, inr (b, inl w))) = missing w.0 l b w.1
      wrong-to g (inr (l, inr (b, inr (h, w)))) = judged-to g (formed l b h) w

      later-on : (g : Fault) → Formed file → JudgedWrong (certificate_of file) file g → Wrong g
      later-on g f w = inr (f.long, inr (f.blocks, inr ((f.secret, f.rule), w)))

      wrong-back : (g : Fault) → RefusedWith file g → Wrong g
      wrong-back g (length_fails e n) = inl (e, n)
      wrong-back g (block_fails {i} l h all w) = inr (l, inl (at_block {i = i} (omega arith) (omega arith) (λ j a p. all j p) w))
      wrong-back g (missing e l b n) = inr (l, inr (b, inl (e, n)))
      wrong-back g (secret_known e f a k) = later-on g f (inl (kind-wrong a (e, a.fails)))
      wrong-back g (secret_not_closed e f u a) = later-on g f (inr (u, inl (kind-wrong a (e, a.fails))))
      wrong-back g (key_not_kept e f u c a) = later-on g f (inr (u, inr (c, inl (kind-wrong a (e, a.fails)))))
      wrong-back g (secret_open {k = m} e f u c k a w) = later-on g f (inr (u, inr (c, inr (k, inl (kind-wrong a (m, e, w))))))
      wrong-back g (place_uncovered {k = m} e f u c k n a w) = later-on g f (inr (u, inr (c, inr (k, inr (n, kind-wrong a (m, e, w))))))

  -- Accepted, with the file's own counts, if and only if every condition holds.
  pub accepted-iff : (counts : Counts) → (verdict_of file ≡ Accepted counts) ↔ (Accepts file × (counts ≡ counts_of file))
  unfolding verdict_of
  accepted-iff counts = go (fault_of file) fault-judged
    where
      go : (o : Option Fault) → Exact (Accepts file) (RefusedWith file) o
          → ((elim o [ some f ↦ Refused f | none ↦ Accepted (counts_of file) ]) ≡ Accepted counts) ↔ (Accepts file × (counts ≡ counts_of file))
      go none x = (λ e. (x.none_right refl, cc), λ w. ap Accepted (sym w.1))
      go (some f) x = (
        λ e. (let z : ◌≡◌ {A = ℕ} 0 1 = cc in absurd (omega arith)),
        λ w. absurd (none-ne-some f (sym (x.right-none w.0))),
      )

  -- Refused with this fault if and only if it is the first in the documents' order.
  pub refused-iff : (fault : Fault) → (verdict_of file ≡ Refused fault) ↔ RefusedWith file fault
  unfolding verdict_of
  refused-iff fault = go (fault_of file) fault-judged
    where
      go : (o : Option Fault) → Exact (Accepts file) (RefusedWith file) o
          → ((elim o [ some f ↦ Refused f | none ↦ Accepted (counts_of file) ]) ≡ Refused fault) ↔ RefusedWith file fault
      go none x = (
        λ e. (let z : ◌≡◌ {A = ℕ} 0 1 = cc in absurd (omega arith)),
        λ w. absurd (none-ne-some fault (x.wrong-some fault w)),
      )
      go (some f) x = (λ e. x.some-wrong fault (cc), λ w. (let q = x.wrong-some fault w in cc))
