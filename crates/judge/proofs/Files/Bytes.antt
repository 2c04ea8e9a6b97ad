-- Accepted bytes: their certificate meets the conditions, and the intruder derives no listed secret (demand 3).
use mathlib.Core.Path.{◌≡◌, sym, subst}
use mathlib.Core.Logic.{◌↔◌}
use mathlib.Core.List.Memᴰ
use mathlib.Core.List.{List}
use mathlib.Core.Option.{some}
use Prim.Native.Nat.{ℕ, ◌<◌}
use native.Mathlib.Omega.{arith}
use Rattle.blocks.specs.Kinds.{secret_kind, good_kind, rule_kind}
use Rattle.terms.specs.Term.{Message, Variable, no_variable, atom, instance}
use Rattle.terms.specs.Built.{Built}
use Rattle.terms.specs.Instance.{PutsNonces}
use Rattle.terms.specs.Place.{Place, subterm_at, IsPlace}
use Rattle.judge.specs.declared.verdict.Counts.{Counts}
use Rattle.judge.specs.declared.verdict.Verdict.TheVariants.{Accepted}
use Rattle.judge.specs.Answer.{packed_of}
use Rattle.judge.specs.Certificate.{Rule, Secret}
use Rattle.judge.specs.File.{pattern_of, secret_of, rule_of, certificate_of}
use Rattle.judge.specs.Run.{Derives, Step, after}
use Rattle.judge.specs.Hat.{Protected}
use Rattle.judge.specs.Cover.{HasOpenSecret, Passes}
use Rattle.judge.specs.Conditions.{KnownAtom, WeaklyClosed, KeptKey, MeetsAll}
use Rattle.judge.specs.Verdict.{verdict_of}
use Rattle.judge.specs.Meaning.{Formed, Accepts}
use Rattle.judge.proofs.Files.Members.{listed, block_listed}
use Rattle.judge.proofs.Files.ForeignLaws.{no-foreign}
use Rattle.judge.proofs.Files.Verdicts.{accepted-iff}
use Rattle.judge.proofs.Answering.Packed.{zero-accepted}
use Rattle.judge.proofs.Runs.Secrecy.{protection, secrecy, never-enabled}

pub accepts-meets : (file : List ℕ) → Accepts file → MeetsAll (certificate_of file)
unfolding certificate_of Built
accepts-meets file w = record {
  not_foreign = λ a m foreign. let own : a < 1000 = (no-foreign file w.formed).terms.secrets (atom a) m in omega arith;
  not_known = listed file secret_kind secret_of (λ (s : Message). ¬ KnownAtom (certificate_of file) s) w.unknown;
  weakly_closed = listed file secret_kind secret_of (WeaklyClosed (certificate_of file)) w.closed;
  kept_keys = listed file good_kind pattern_of (KeptKey (certificate_of file)) w.kept;
  no_open_secret = listed file rule_kind rule_of (λ (r : Rule). ¬ HasOpenSecret (certificate_of file) r) w.no_open_secret;
  passes = listed file rule_kind rule_of (Passes (certificate_of file)) w.passing;
}

-- And a file that has passed numbers 1 to 8 is accepted if its certificate does.
pub meets-accepts : (file : List ℕ) → Formed file → MeetsAll (certificate_of file) → Accepts file
unfolding certificate_of
meets-accepts file formed meets = record {
  formed = formed;
  unknown = λ i inside kind. meets.not_known _ (Memᴰ.map secret_of (block_listed file inside kind));
  closed = λ i inside kind. meets.weakly_closed _ (Memᴰ.map secret_of (block_listed file inside kind));
  kept = λ i inside kind. meets.kept_keys _ (Memᴰ.map pattern_of (block_listed file inside kind));
  no_open_secret = λ i inside kind. meets.no_open_secret _ (Memᴰ.map rule_of (block_listed file inside kind));
  passing = λ i inside kind. meets.passes _ (Memᴰ.map rule_of (block_listed file inside kind));
}

-- Same lists, same judgement: of two files that have passed numbers 1 to 8 and have the same certificate, both are accepted
-- or neither is.
pub same-judgement : (f g : List ℕ) → Formed f → Formed g → certificate_of f ≡ certificate_of g → Accepts f ↔ Accepts g
same-judgement f g formed-f formed-g same = (
  λ a. meets-accepts g formed-g (subst MeetsAll same (accepts-meets f a)),
  λ a. meets-accepts f formed-f (subst MeetsAll (sym same) (accepts-meets g a)),
)

pub accepted-meets : (file : List ℕ) (counts : Counts) → verdict_of file ≡ Accepted counts → MeetsAll (certificate_of file)
accepted-meets file counts e = accepts-meets file ((accepted-iff file counts).0 e).0

-- Demand 3: for every accepted file and every list of steps, the intruder derives no listed secret.
pub secrecy-of-accepted : (file : List ℕ) (counts : Counts) → verdict_of file ≡ Accepted counts
    → (steps : List (Step (certificate_of file))) (s : Message) → Secret (certificate_of file) s
    → Derives (certificate_of file) (after (certificate_of file) steps) s → ⊥
secrecy-of-accepted file counts e = secrecy (certificate_of file) (accepted-meets file counts e)

-- The hats hold in every run (02, No. 2): of every message that the intruder derives, each listed secret at a place
-- of it is protected.
pub protection-of-accepted : (file : List ℕ) (counts : Counts) → verdict_of file ≡ Accepted counts
    → (steps : List (Step (certificate_of file))) (m : Message) → Derives (certificate_of file) (after (certificate_of file) steps) m
    → (p : Place) (s : Message) → Secret (certificate_of file) s → subterm_at p m ≡ some s → IsPlace m p
    → Protected (certificate_of file) m p
protection-of-accepted file counts e = protection (certificate_of file) (accepted-meets file counts e)

-- A rule that number 15 would refuse adds nothing to an accepted file (02, No. 4): after no list of steps is an instance of its
-- premise derivable. So to drop it takes no run away.
pub never-enabled-in-accepted : (file : List ℕ) (counts : Counts) → verdict_of file ≡ Accepted counts
    → (steps : List (Step (certificate_of file))) (rule : Rule) → (x : HasOpenSecret (certificate_of file) rule)
    → (by : Variable → Message) → PutsNonces (certificate_of file).atoms no_variable by
    → Derives (certificate_of file) (after (certificate_of file) steps) (instance by x.premise) → ⊥
never-enabled-in-accepted file counts e = never-enabled (certificate_of file) (accepted-meets file counts e)

-- Secrecy again, as the loader sees it: for every file that the C call answers with 0.
pub secrecy-of-zero : (file : List ℕ) → packed_of (verdict_of file) ≡ 0
    → (steps : List (Step (certificate_of file))) (s : Message) → Secret (certificate_of file) s
    → Derives (certificate_of file) (after (certificate_of file) steps) s → ⊥
secrecy-of-zero file zero = let w = (zero-accepted file).0 zero in secrecy-of-accepted file w.0 w.1
