-- The number and the values of a verdict (document 01: "If an answer is an enum, a definition gives this paper's number and
-- values for each of its cases. The promises use that definition").
use Rattle.std.specs.Prelude.{List, [], ◌∷◌, ℕ}
use Rattle.std.proofs.Math.Option.{none, some}
use Rattle.blocks.specs.Kinds.{secret_kind, good_kind, bad_kind, rule_kind}
use Rattle.judge.specs.declared.verdict.Verdict.{Verdict}
use Rattle.judge.specs.declared.verdict.Verdict.TheVariants.{Accepted, Refused}
use Rattle.judge.specs.Answer.{number_of, block_of, place_of}
use Rattle.judge.specs.File.{block_count, kind_count}
use Rattle.judge.specs.Verdict.{fault_of}

-- Document 01's number, 0 if accepted, and the values beside it.
pub record VerdictValues : Type 0 where
  pub number : ℕ
  pub values : List ℕ

-- "A verdict is accepted with its counts, or refused with the kind of fault inside it": blocks, secrets, good and bad
-- patterns and rules, or block and place.
abbrev pub verdict_values : Verdict → VerdictValues
verdict_values (Accepted c) = record { number = 0; values = c.blocks ∷ c.secrets ∷ c.goods ∷ c.bads ∷ c.rules ∷ [] }
verdict_values (Refused f) = record { number = number_of f; values = block_of f ∷ place_of f ∷ [] }

-- Those of a file: of its first fault, or 0 and its counts.
unfoldable pub judging_values : List ℕ → VerdictValues
judging_values file = elim (fault_of file) [
  | some f ↦ record { number = number_of f; values = block_of f ∷ place_of f ∷ [] }
  | none ↦ record {
    number = 0;
    values = block_count file ∷ kind_count secret_kind file ∷ kind_count good_kind file ∷ kind_count bad_kind file ∷ kind_count rule_kind file ∷ [];
  }
]
