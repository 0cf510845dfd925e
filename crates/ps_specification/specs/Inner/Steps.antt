-- The results of the steps from a specification's text to its circuit.
-- - `IsSound s`: the formulas of the parsed specification are in its table, and its propositions differ in their names
-- - `IsReadFault text fault`: the first error of the specification's text
-- - `IsTried proposer spec place tried`: what came of asking a proposer at a place
use Rattle.std.specs.Prelude.{◌≡◌, ⊤, ℕ, Bool, false, true, List, None, Err, map}
use Rattle.ps_simulate.specs.Symbols.{AreDistinct}
use Rattle.ps_tlsf.specs.NameViews.{name_data}
use Rattle.ps_tlsf.specs.Names.{names_in}
use Rattle.ps_tlsf.specs.Reading.{answer_of}
use Rattle.ps_tlsf.specs.SpecificationViews.{HasRoots}
use Rattle.ps_tlsf.specs.Specifications.{Specification}
use Rattle.ps_tlsf.specs.declared.specification.Specification as parsed
use Rattle.ps_specification.specs.Promises.{IsAnswerTo}
use Rattle.ps_specification.specs.Proposing.{IsRefusedAt, ProposerData, ProposesNothing, ProposesWrongly}
use Rattle.ps_specification.specs.declared.fault.SpecificationFault.{SpecificationFault}
use Rattle.ps_specification.specs.declared.fault.SpecificationFault.TheVariants.{Text, OutOfMemory}
use Rattle.ps_specification.specs.declared.synthesis.Tried.{Tried}
use Rattle.ps_specification.specs.declared.synthesis.Tried.TheVariants.{Nothing, Refused, Wins}

pub record IsSound (s : parsed.Specification) : Type 0 where
  pub roots : HasRoots s
  pub distinct : AreDistinct (names_in (map name_data s.propositions.items))

abbrev pub IsReadFault : List ℕ → SpecificationFault → Type 0
IsReadFault text (Text cause offset) = answer_of text ≡ Err (record { cause = cause; offset = offset })
IsReadFault text OutOfMemory = ⊤
IsReadFault text fault = ⊥

abbrev pub IsTried : ProposerData → Specification → ℕ → Tried → Type 0
IsTried proposer spec place Nothing = proposer.may_propose spec place None
IsTried proposer spec place Refused = IsRefusedAt proposer spec place
IsTried proposer spec place (Wins winner) = IsAnswerTo spec winner.role winner.circuit

-- what came of the first n places, none of whose proposals wins: whether there was a proposal
abbrev pub HasTried : ProposerData → Specification → ℕ → Bool → Type 0
HasTried proposer spec n false = ProposesNothing proposer spec n
HasTried proposer spec n true = ProposesWrongly proposer spec n
