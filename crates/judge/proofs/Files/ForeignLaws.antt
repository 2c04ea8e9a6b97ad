-- A file that has passed numbers 1 to 8 has no foreign atoms, and cover by messages over the listed and the foreign atoms
-- alone is the same cover. Assumes nothing.
use mathlib.Core.Path.{◌≡◌}
use mathlib.Core.List.{List}
use mathlib.Core.Logic.{◌↔◌, inl, inr}
use mathlib.Core.Option.{some}
use Prim.Native.Nat.{ℕ, ◌<◌, ◌≤◌}
use native.Mathlib.Omega.{arith}
use native.Mathlib.Decide.{dec_lt, dec_le}
use lib.ListN.{length}
use Rattle.blocks.specs.Kinds.{secret_kind, good_kind, bad_kind, rule_kind}
use Rattle.blocks.specs.Limits.{most_atoms}
use Rattle.blocks.proofs.KindLaws.{secret-lists, good-lists, bad-lists}
use Rattle.terms.specs.Term.{Term, variable, atom, pair, Message, Variable, instance, replace, as_term, wrapped, Wrapping, encryption, hash, signature}
use Rattle.terms.specs.declared.atom.Atom.{Atom}
use Rattle.terms.specs.TermEntry.{NumberRight, number_right?}
use Rattle.terms.proofs.AtomLaws.{kind-listed, key-listed}
use Rattle.terms.specs.Place.{Place, subterm_at}
use Rattle.terms.specs.Turns.{by-turns}
use Rattle.terms.specs.Instance.{Matches, Share}
use Rattle.terms.specs.Decisions.{dec_or}
use Rattle.terms.specs.Built.{Built, MessageAtom}
use Rattle.terms.proofs.BuiltLaws.{built-match, built-share, nonce-atom}
use Rattle.terms.proofs.OneTermLaws.{TermRight, secret-bare, atom_right, pair_right, wrapped_right, variable_right}
use Rattle.judge.specs.Certificate.{Certificate, Rule, Listed}
use Rattle.judge.specs.File.{pattern_of, secret_of, rule_of, certificate_of, file_atoms}
use Rattle.judge.specs.Meaning.{Formed}
use Rattle.judge.specs.Cover.{Risky, is_variable, shares_secret, SureHat, NoHat, shares_no_good, is_bad, Open}
use Rattle.judge.specs.Foreign.{Holding, NoForeign, ProperMatch, ProperShare, ProperRisky, ProperSureHat, ProperNoHat, ProperOpen, SameCover}
use Rattle.judge.specs.Foreign as proper
use Rattle.judge.proofs.Files.AtomBlocks.{few-atoms}
use Rattle.judge.proofs.Files.LaidLaws.{laid, pattern-right, premise-right, conclusion-right}
use Rattle.judge.proofs.Files.Members.{listed}

-- ---- the atoms and keys of a term

-- A right term's are listed; so are a secret's.
right-built : {atoms : List Atom} {kind : ℕ} {t : Term Variable} → TermRight atoms kind t → Built (λ a. a < length atoms) (NumberRight atoms) t
unfolding Built
right-built (atom_right l) = l
right-built (pair_right w v) = (right-built w, right-built v)
right-built (wrapped_right i w) = (i, right-built w)
right-built (variable_right l k) = tt

secret-built : {atoms : List Atom} {kind : ℕ} {t : Term Variable} → kind ≡ secret_kind → TermRight atoms kind t
    → Built (λ a. a < length atoms) (NumberRight atoms) (instance (λ x. atom 0) t)
unfolding Built replace
secret-built k (atom_right l) = l
secret-built k (pair_right w v) = (secret-built k w, secret-built k v)
secret-built k (wrapped_right i w) = (i, secret-built k w)
secret-built k (variable_right {s = s} l n) = absurd (secret-bare s k n)

-- Of other atoms and keys.
module _ {A B : ℕ → Type 0} {K L : Wrapping → ℕ → Type 0} (atoms : (a : ℕ) → A a → B a) (keys : (w : Wrapping) (k : ℕ) → K w k → L w k) where
  built-more : {X : Type 0} (t : Term X) → Built A K t → Built B L t
  unfolding Built
  built-more (variable x) b = tt
  built-more (atom a) b = atoms a b
  built-more (pair t u) b = (built-more t b.0, built-more u b.1)
  built-more (wrapped w k t) b = (keys w k b.0, built-more t b.1)

  holding-more : {certificate : Certificate} → Holding A K certificate → Holding B L certificate
  holding-more w = record {
    secrets = λ m s. built-more m (w.secrets m s);
    goods = λ t g. built-more t (w.goods t g);
    bads = λ t b. built-more t (w.bads t b);
    premises = λ rule l t e. built-more t (w.premises rule l t e);
    conclusions = λ rule l. built-more rule.conclusion (w.conclusions rule l);
  }

-- A subterm's are the term's.
built-subterm : (A : ℕ → Type 0) (K : Wrapping → ℕ → Type 0) {X : Type 0} (p : Place) (t : Term X) {s : Term X} → subterm_at p t ≡ some s → Built A K t → Built A K s
unfolding Built
built-subterm A K {X} =
    by-turns (λ (p : Place) (t s : Term X). Built A K t → Built A K s)
    (λ t b. b) (λ p t u s h b. h b.0) (λ p t u s h b. h b.1) (λ p w k t s h b. h b.1)

-- ---- a file that has passed numbers 1 to 8

module _ (file : List ℕ) (w : Formed file) where
  -- The atoms and keys of listed terms are listed.
  holding : Holding (λ a. a < length (file_atoms file)) (NumberRight (file_atoms file)) (certificate_of file)
  unfolding certificate_of secret_of
  holding = record {
    secrets = listed file secret_kind secret_of _ (λ i h k. secret-built k (pattern-right file i (w.blocks i h) (secret-lists k)));
    goods = listed file good_kind pattern_of _ (λ i h k. right-built (pattern-right file i (w.blocks i h) (good-lists k)));
    bads = listed file bad_kind pattern_of _ (λ i h k. right-built (pattern-right file i (w.blocks i h) (bad-lists k)));
    premises = listed file rule_kind rule_of _ (λ i h k t e. right-built (premise-right file i (w.blocks i h) k t e));
    conclusions = listed file rule_kind rule_of _ (λ i h k. right-built (conclusion-right file i (w.blocks i h) k));
  }

  -- There are at most 252.
  few : length (file_atoms file) ≤ most_atoms
  few = few-atoms file (laid file w.long w.blocks).atoms

  -- The number that goes with something around a term is below their count, or 0.
  number-low : (w : Wrapping) {k : ℕ} → NumberRight (file_atoms file) w k → k < 1000
  unfolding NumberRight
  number-low encryption is = omega (arith, few, key-listed is)
  number-low hash is = omega arith
  number-low signature {k} is = omega (arith, few, kind-listed (file_atoms file) k (omega arith))

  pub no-foreign : NoForeign (certificate_of file)
  unfolding certificate_of file_atoms
  no-foreign = record {
    terms = let f = few in holding-more (λ a l. omega arith) (λ w k i. number-low w i) holding;
    keys = λ k f i. omega (arith, few, key-listed i);
  }

-- ---- the same cover

module _ (c : Certificate) (all : Holding (MessageAtom c.atoms) (NumberRight c.atoms) c) where
  abbrev Proper : {X : Type 0} → Term X → Type 0
  Proper t = Built (MessageAtom c.atoms) (NumberRight c.atoms) t

  atom? : (a : ℕ) → Dec (MessageAtom c.atoms a)
  atom? a = dec_or (dec_lt a (length c.atoms)) (λ n. dec_le 1000 a)

  subterm : (p : Place) (t : Term Variable) {s : Term Variable} → subterm_at p t ≡ some s → Proper t → Proper s
  subterm = built-subterm (MessageAtom c.atoms) (NumberRight c.atoms)

  -- A message, read as a term.
  built-term : (m : Message) → Proper m → Proper {X = Variable} (as_term m)
  unfolding Built as_term replace
  built-term (variable x) b = absurd x
  built-term (atom a) b = b
  built-term (pair m n) b = (built-term m b.0, built-term n b.1)
  built-term (wrapped w k m) b = (b.0, built-term m b.1)

  shared : {s t : Term Variable} → Proper s → Proper t → Share c.atoms s t → ProperShare c s t
  shared = built-share atom? (number_right? c.atoms) 1000 (inr (omega arith)) c.atoms nonce-atom

  matched : {p t : Term Variable} → Proper p → Proper t → Matches c.atoms p t → ProperMatch c p t
  matched = built-match atom? (number_right? c.atoms) 1000 (inr (omega arith)) c.atoms nonce-atom

  risky-same : {t : Term Variable} → Proper t → Risky c t ↔ ProperRisky c t
  risky-same {t} b = (to, back)
    where
      to : Risky c t → ProperRisky c t
      to (is_variable e) = proper.is_variable e
      to (shares_secret {secret = m} l s) = proper.shares_secret l (shared b (built-term m (all.secrets m l)) s)

      back : ProperRisky c t → Risky c t
      back (proper.is_variable e) = is_variable e
      back (proper.shares_secret l s) = shares_secret l s.share

  hat-same : {t : Term Variable} → Proper t → (p : Place) → SureHat c t p ↔ ProperSureHat c t p
  hat-same {t} b p = (to, back)
    where
      to : SureHat c t p → ProperSureHat c t p
      to h = record {
        place = h.place;
        above = h.above;
        subterm = h.subterm;
        stands = h.stands;
        good = h.good;
        listed = h.listed;
        match = matched (all.goods h.good h.listed) (subterm h.place t h.stands b) h.match;
        mark = h.mark;
        not_bad = λ bad l s over. h.not_bad bad l s.share over;
      }

      back : ProperSureHat c t p → SureHat c t p
      back h = record {
        place = h.place;
        above = h.above;
        subterm = h.subterm;
        stands = h.stands;
        good = h.good;
        listed = h.listed;
        match = h.match.match;
        mark = h.mark;
        not_bad = λ bad l s over. h.not_bad bad l (shared (all.bads bad l) (subterm h.place t h.stands b) s) over;
      }

  no-hat-same : {t : Term Variable} → Proper t → (q p : Place) → NoHat c t q p ↔ ProperNoHat c t q p
  no-hat-same {t} b q p = (to, back)
    where
      to : NoHat c t q p → ProperNoHat c t q p
      to (shares_no_good n) = proper.shares_no_good (λ good l s. n good l s.share)
      to (is_bad {bad = bad} l m over) = proper.is_bad l (matched (all.bads bad l) b m) over

      back : ProperNoHat c t q p → NoHat c t q p
      back (proper.shares_no_good n) = shares_no_good (λ good l s. n good l (shared (all.goods good l) b s))
      back (proper.is_bad l m over) = is_bad l m.match over

  open-same : {t : Term Variable} → Proper t → (p : Place) → Open c t p ↔ ProperOpen c t p
  open-same {t} b p = (
    λ o. record { every = λ q above k u e. (no-hat-same (subterm q t e b) q p).0 (o.every q above k u e) },
    λ o. record { every = λ q above k u e. (no-hat-same (subterm q t e b) q p).1 (o.every q above k u e) },
  )

-- Of every rule of a file that has passed numbers 1 to 8.
pub same-cover : (file : List ℕ) → Formed file → (rule : Rule) → Listed (certificate_of file) rule → SameCover (certificate_of file) rule
unfolding certificate_of file_atoms
same-cover file w rule l =
    let all = holding-more (λ a h. inl h) (λ w k i. i) (holding file w) in
    record {
      risky = λ p t e. risky-same (certificate_of file) all (subterm (certificate_of file) all p rule.conclusion e (all.conclusions rule l));
      sure_hats = λ p. hat-same (certificate_of file) all (all.conclusions rule l) p;
      opens = λ premise e p. open-same (certificate_of file) all (all.premises rule l premise e) p;
    }
