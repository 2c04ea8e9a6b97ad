-- The blocks before the rules are a file of their own, which lists the same secrets and patterns and so judges every rule
-- as the whole file does. Assumes nothing.
use mathlib.Core.Path.{◌≡◌, refl, sym, ap, ap₂, subst, ◌∙◌}
use mathlib.Core.List.Memᴰ
use mathlib.Core.List.{List, map, Memᴰ}
use mathlib.Core.Option.{Option, none, some}
use Prim.Native.Nat.{ℕ, ◌-◌, ◌*◌, ◌<◌, ◌≤◌}
use native.Mathlib.Omega.{arith}
use native.Mathlib.Decide.{ℕ_discrete, dec_lt}
use lib.ListN.{length, take, drop}
use lib.Seq.{length-take-le}
use Rattle.blocks.specs.Kinds.{atoms_kind, secret_kind, good_kind, bad_kind, rule_kind}
use Rattle.blocks.specs.Limits.{block_size}
use Rattle.blocks.specs.Block.{block_at, kind_of, first_entries, Fitting}
use Rattle.blocks.proofs.Parts.{block-before}
use Rattle.terms.specs.First.{Found, first_not}
use Rattle.std.specs.Prelude.{None}
use Rattle.terms.specs.Term.{Term, Message, Variable}
use Rattle.terms.specs.Place.{Place}
use Rattle.terms.specs.Atom.{joined_atoms}
use Rattle.terms.specs.Instance.{Matches, Share}
use Rattle.terms.specs.Entry.{size}
use Rattle.terms.proofs.FirstLaws.{first-is, first-only, first-along}
use Rattle.judge.specs.Certificate.{Certificate, Rule, Secret, Good, Bad}
use Rattle.judge.specs.File.{block_count, TwoAtomBlocks, more_entries, file_atoms, blocks_of, of_kind, pattern_of, secret_of, certificate_of}
use Rattle.judge.specs.Laid.{Laid}
use Rattle.judge.specs.Cover.{SureHat, NoHat, shares_no_good, is_bad, Open, AtOpenPlace, SecretOpenAt, Risky, is_variable, shares_secret}
use Rattle.judge.specs.Cover.{Covered, sure_hat, in_premise}
use Rattle.judge.specs.Verdict.{no_secret?, open_secret, FineSpot, fine?, uncovered}
use Rattle.judge.specs.Judgement.{OnlyRulesFrom, Heads}
use Rattle.judge.proofs.Files.AtomBlocks.{one_block, two_blocks, two_inside}
use Rattle.judge.proofs.Files.Members.{block_listed, listed-block}

-- ---- what the judging of a rule asks of a certificate

-- The atoms are the same, and what one certificate lists of secrets and patterns, the other does too.
record Sublists (c d : Certificate) : Type 0 where
  atoms : d.atoms ≡ c.atoms
  secret : (m : Message) → Secret c m → Secret d m
  good : (t : Term Variable) → Good c t → Good d t
  bad : (t : Term Variable) → Bad c t → Bad d t

module _ {c d : Certificate} (out : Sublists c d) (back : Sublists d c) where
  share : {s t : Term Variable} → Share c.atoms s t → Share d.atoms s t
  share h = rw out.atoms h

  share_back : {s t : Term Variable} → Share d.atoms s t → Share c.atoms s t
  share_back h = rw back.atoms h

  match : {s t : Term Variable} → Matches c.atoms s t → Matches d.atoms s t
  match h = rw out.atoms h

  no-hat : {t : Term Variable} {q p : Place} → NoHat c t q p → NoHat d t q p
  no-hat (shares_no_good off) = shares_no_good (λ g l s. off g (back.good g l) (share_back s))
  no-hat (is_bad {bad} l m over) = is_bad (out.bad bad l) (match m) over

  stays_open : {premise : Term Variable} {p : Place} → Open c premise p → Open d premise p
  stays_open o = record { every = λ q a k t s. no-hat (o.every q a k t s) }

  at_open : {rule : Rule} {t : Term Variable} → AtOpenPlace c rule t → AtOpenPlace d rule t
  at_open o = record { premise = o.premise; given = o.given; place = o.place; is_place = o.is_place; stands = o.stands; is_open = stays_open o.is_open }

  secret-open : {premise : Term Variable} {p : Place} → SecretOpenAt c premise p → SecretOpenAt d premise p
  secret-open o =
      record { secret = o.secret; listed = out.secret o.secret o.listed; is_place = o.is_place; stands = o.stands; is_open = stays_open o.is_open }

  risky : {t : Term Variable} → Risky c t → Risky d t
  risky (is_variable e) = is_variable e
  risky (shares_secret {secret} l s) = shares_secret (out.secret secret l) (share s)

  sure-hat : {t : Term Variable} {p : Place} → SureHat c t p → SureHat d t p
  sure-hat h = record {
    place = h.place;
    above = h.above;
    subterm = h.subterm;
    stands = h.stands;
    good = h.good;
    listed = out.good h.good h.listed;
    match = match h.match;
    mark = h.mark;
    not_bad = λ b l s. h.not_bad b (back.bad b l) (share_back s);
  }

  covered : {rule : Rule} {p : Place} {t : Term Variable} → Covered c rule p t → Covered d rule p t
  covered (sure_hat h) = sure_hat (sure-hat h)
  covered (in_premise o) = in_premise (at_open o)

fine : {c d : Certificate} → Sublists c d → Sublists d c → (rule : Rule) (k : ℕ) → FineSpot c rule k → FineSpot d rule k
fine out back rule k f place r = covered out back (f place (risky back out r))

same-places : {c d : Certificate} → Sublists c d → Sublists d c → (rule : Rule) → uncovered c rule ≡ uncovered d rule
unfolding uncovered
same-places {c} {d} out back rule =
    first-only (fine? d rule) (first-along (λ k h. (fine out back rule k, fine back out rule k)) (first-is (fine? c rule) (size rule.conclusion)))

same-secrets : {c d : Certificate} → Sublists c d → Sublists d c → (rule : Rule) → open_secret c rule ≡ open_secret d rule
unfolding open_secret
same-secrets {c} {d} out back rule = go rule.premise
  where
    first_found_of : Certificate → Option (Term Variable) → Found
    first_found_of certificate premise = elim premise [ none ↦ None | some t ↦ first_not (no_secret? certificate t) (size t) ]

    go : (premise : Option (Term Variable)) → first_found_of c premise ≡ first_found_of d premise
    go none = refl
    go (some t) =
        first-only (no_secret? d t)
        (first-along (λ k h. (λ off o. off (secret-open back out o), λ off o. off (secret-open out back o))) (first-is (no_secret? c t) (size t)))

-- ---- the head of a file

mapped : {A : Type 0} (f : List ℕ → A) {l k : List (List ℕ)} → ((b : List ℕ) → Memᴰ b l → Memᴰ b k)
    → {a : A} → Memᴰ a (map f l) → Memᴰ a (map f k)
mapped f {l} into m = let w = Memᴰ.of_map f l m in Memᴰ.cast (sym w.2) (Memᴰ.map f (into w.0 w.1))

module _ {file : List ℕ} {n : ℕ} (laid : Laid file) (only : OnlyRulesFrom file n) where
  abbrev head : List ℕ
  head = take (block_size * n - 0) (drop 0 file)

  long : length head ≡ block_size * n
  long =
      let fits : block_size * n ≤ length file = omega (arith, laid.exact, only.inside) in
      let whole : block_size * n - 0 ≡ block_size * n = omega arith in
      rw whole (length-take-le (block_size * n) file fits)

  count : block_count head ≡ n
  count = let l = long in omega arith

  block : (i : ℕ) → i < n → block_at head i ≡ block_at file i
  block i h = block-before file i (block_size * n - 0) (omega arith)

  -- A block of the head is a block of the file, and a block of the file that is no rule is one of the head.
  into-file : (kind : ℕ) (b : List ℕ) → Memᴰ b (of_kind kind (blocks_of head)) → Memᴰ b (of_kind kind (blocks_of file))
  into-file kind b m =
      let w = listed-block head m in
      let here : w.number < n = rw count at w.inside in
      let same : block_at head w.number ≡ block_at file w.number = block w.number here in
      let inside : w.number < block_count file = omega (arith, here, only.inside) in
      subst (λ (x : List ℕ). Memᴰ x (of_kind kind (blocks_of file))) (sym (w.same ∙ same))
      (block_listed file inside (ap kind_of (sym same) ∙ w.has_kind))

  into-head : (kind : ℕ) → (kind ≡ rule_kind → ⊥) → (b : List ℕ) → Memᴰ b (of_kind kind (blocks_of file)) → Memᴰ b (of_kind kind (blocks_of head))
  into-head kind no-rule b m =
      let w = listed-block file m in
      elim (dec_lt w.number n) [
        | yes here ↦
            let same : block_at head w.number ≡ block_at file w.number = block w.number here in
            subst (λ (x : List ℕ). Memᴰ x (of_kind kind (blocks_of head))) (sym (w.same ∙ sym same))
            (block_listed head (rw count here) (ap kind_of same ∙ w.has_kind))
        | no past ↦ absurd (no-rule (sym w.has_kind ∙ only.rules w.number (omega arith) w.inside))
      ]

  -- The first block is no rule, and neither is a second atom block.
  same_more : more_entries head ≡ more_entries file
  same_more = go (ℕ_discrete (kind_of (block_at file 1)) atoms_kind)
    where
      past : TwoAtomBlocks file → 1 < n
      past two = elim (dec_lt 1 n) [
        | yes l ↦ l
        | no off ↦
            let inside = two_inside file laid.atoms.whole two in
            let rule = only.rules 1 (omega arith) (omega (arith, laid.exact, inside)) in
            absurd (omega arith)
      ]

      go : Dec (TwoAtomBlocks file) → more_entries head ≡ more_entries file
      go (yes two) =
          let same : block_at head 1 ≡ block_at file 1 = block 1 (past two) in
          two_blocks head (ap kind_of same ∙ two) ∙ ap first_entries same ∙ sym (two_blocks file two)
      go (no off) = one_block head none ∙ sym (one_block file off)
        where
          none : ¬ TwoAtomBlocks head
          none two =
              let inside : 1 < n = omega (arith, long, two_inside head (omega (arith, long)) two) in
              off (ap kind_of (sym (block 1 inside)) ∙ two)

  same-atoms : file_atoms head ≡ file_atoms file
  unfolding file_atoms
  same-atoms = ap₂ joined_atoms (ap first_entries (block 0 only.some_block)) same_more

  from-head : Sublists (certificate_of head) (certificate_of file)
  unfolding certificate_of
  from-head = record {
    atoms = sym same-atoms;
    secret = λ m. mapped secret_of (into-file secret_kind);
    good = λ t. mapped pattern_of (into-file good_kind);
    bad = λ t. mapped pattern_of (into-file bad_kind);
  }

  to-head : Sublists (certificate_of file) (certificate_of head)
  unfolding certificate_of
  to-head = record {
    atoms = same-atoms;
    secret = λ m. mapped secret_of (into-head secret_kind (λ e. absurd (omega arith)));
    good = λ t. mapped pattern_of (into-head good_kind (λ e. absurd (omega arith)));
    bad = λ t. mapped pattern_of (into-head bad_kind (λ e. absurd (omega arith)));
  }

  head-laid : Laid head
  head-laid = record {
    exact = rw count (sym long);
    some_block = rw count only.some_block;
    few = rw count (omega (arith, only.inside, laid.few));
    ordered = λ i j low h. let here : j < n = rw count at h in rw (block i (omega arith), block j here) (laid.ordered i j low (within here));
    atoms = record {
      whole = omega (arith, long);
      first = rw (block 0 only.some_block) laid.atoms.first;
      second = second_fits;
    };
    terms = λ i h. let here : i < n = rw count at h in rw (block i here) (laid.terms i (within here));
    rules = λ i h. let here : i < n = rw count at h in rw (block i here) (laid.rules i (within here));
    secrets = λ i h. let here : i < n = rw count at h in rw (block i here) (laid.secrets i (within here));
    goods = λ i h. let here : i < n = rw count at h in rw (block i here) (laid.goods i (within here));
  }
    where
      -- A second atom block of the head is one of the file.
      second_fits : TwoAtomBlocks head → Fitting (block_at head 1)
      second_fits two =
          let inside : 1 < n = omega (arith, long, two_inside head (omega (arith, long)) two) in
          let same : block_at head 1 ≡ block_at file 1 = block 1 inside in
          rw same (laid.atoms.second (ap kind_of (sym same) ∙ two))

      within : {i : ℕ} → i < n → i < block_count file
      within h = omega (arith, only.inside)

  pub heads : Heads head file
  heads = record { laid = head-laid; open_secrets = same-secrets from-head to-head; places = same-places from-head to-head }
