-- How the code says whether a fault was found, and what the judging of a block asks for.
use Rattle.std.specs.Prelude.{◌≡◌, Bool, cond, List, ℕ, ◌%◌, ◌<◌, ◌≤◌, length, Option as Maybe, Some, None, Result, Ok, Err}
use Rattle.std.proofs.Math.Option.{Option, none, some}
use Rattle.blocks.specs.Kinds.{rule_kind}
use Rattle.blocks.specs.Limits.{block_size, most_blocks}
use Rattle.blocks.specs.Block.{HasBlock, block_at, kind_of, first_entries, second_entries, Fitting}
use Rattle.terms.specs.Each.{Each}
use Rattle.terms.specs.OneTerm.{HasSymbol}
use Rattle.terms.specs.First.{Found}
use Rattle.judge.specs.declared.verdict.Fault.{Fault}
use Rattle.judge.specs.declared.cover.RuleFault.{RuleFault}
use Rattle.judge.specs.declared.cover.RuleFault.TheVariants.{PremiseAt, ConclusionAt}
use Rattle.judge.specs.Certificate.{Certificate, Rule}
use Rattle.judge.specs.File.{block_count, certificate_of}
use Rattle.judge.specs.Laid.{Laid}
use Rattle.judge.specs.Meaning.{KindRight}
use Rattle.judge.specs.Verdict.{open_secret, uncovered}

-- The code's answer for a fault, or for none.
abbrev pub Judged : Type 0
Judged = Result (Unit {0}) Fault

unfoldable pub judged_of : Option Fault → Judged
judged_of none = Ok tt
judged_of (some f) = Err f

-- What is found of a rule: what 15 finds in its premise, and else what 12 finds in its conclusion, if that is asked.
unfoldable pub either_found : Found → Found → Maybe RuleFault
either_found (Some k) conclusion = Some (PremiseAt k)
either_found None (Some k) = Some (ConclusionAt k)
either_found None None = None

unfoldable pub rule_found : Bool → Certificate → Rule → Maybe RuleFault
rule_found asked certificate rule = either_found (open_secret certificate rule) (cond asked (uncovered certificate rule) None)

-- The first 12 so far is held, if there is one, while a later rule may get a 15.
abbrev pub Held : Type 0
Held = Maybe Fault

-- The one that is held, or else what 12 says of the next block.
unfoldable pub held_or : Held → Option Fault → Held
held_or (Some f) twelve = Some f
held_or None (some f) = Some f
held_or None none = None

-- Behind a block: its 15 refuses the file, and else the first 12 so far is held.
unfoldable pub next_of : Held → Option Fault → Option Fault → Result Held Fault
next_of held (some f) twelve = Err f
next_of held none twelve = Ok (held_or held twelve)

-- Block i has a right kind, and it and those before it have room for their entries. Numbers 1, 3 and 5 give it.
pub record Reached (file : List ℕ) (i : ℕ) : Type 0 where
  pub whole : length file % block_size ≡ 0
  pub inside : HasBlock file i
  pub few : i < most_blocks
  pub kind : KindRight file i
  pub fits : (j : ℕ) → j ≤ i → Fitting (block_at file j)

-- A block of 512 bytes with room for its entries, each of which has a symbol. Numbers 5 and 7 give it.
pub record Spelled (b : List ℕ) : Type 0 where
  pub fitting : Fitting b
  pub first : Each HasSymbol (first_entries b)
  pub second : Each HasSymbol (second_entries b)

-- Behind the first n blocks there are only rules.
pub record OnlyRulesFrom (file : List ℕ) (n : ℕ) : Type 0 where
  pub some_block : 1 ≤ n
  pub inside : n ≤ block_count file
  pub rules : (i : ℕ) → n ≤ i → i < block_count file → kind_of (block_at file i) ≡ rule_kind

-- The head of a file judges a rule as the file does.
pub record Heads (head file : List ℕ) : Type 0 where
  pub laid : Laid head
  pub open_secrets : (rule : Rule) → open_secret (certificate_of head) rule ≡ open_secret (certificate_of file) rule
  pub places : (rule : Rule) → uncovered (certificate_of head) rule ≡ uncovered (certificate_of file) rule

-- What the judging of rules goes by: the file, and its head.
pub record Headed (head file : List ℕ) : Type 0 where
  pub laid : Laid file
  pub heads : Heads head file
