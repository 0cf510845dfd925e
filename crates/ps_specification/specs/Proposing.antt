-- What a proposer proposes for a specification: at each of its places a role and a circuit, or nothing.
-- - `ProposalData`, `proposal_data p`: a role and a circuit; those of a proposal
-- - `ProposerData`: how many places a proposer has, and what it may propose for a specification at each of them
-- - `own_proposer places`: psyn's own proposer, of which nothing is known but the number of its places
-- - `IsRefusedAt proposer spec place`: at this place the proposer may give a circuit that does not win in its role
-- - `ProposesNothing proposer spec n`: at each of the first n places the proposer may give None
-- - `ProposesWrongly proposer spec n`: at each of the first n places the proposer may give None or a circuit that does
--   not win in its role, and at one or more of them such a circuit
use Rattle.std.specs.Prelude.{ℕ, ◌<◌, ◌⊎◌, Option, None, Some}
use Rattle.ps_circuit.specs.Circuits.{CircuitData}
use Rattle.ps_models.specs.Judgements.{IsWinningFor}
use Rattle.ps_simulate.specs.declared.role.Role.{Role}
use Rattle.ps_tlsf.specs.Specifications.{Specification}
use Rattle.ps_specification.specs.Requirements.{order_in, requirement_of}
use Rattle.ps_specification.specs.declared.proposing.Proposal.{Proposal}

pub record ProposalData : Type 0 where
  pub role : Role
  pub circuit : CircuitData

abbrev pub proposal_data : Proposal → ProposalData
proposal_data p = record { role = p.role; circuit = p.circuit }

pub record ProposerData : Type 1 where
  -- the places at which the proposer is asked are the numbers below this
  pub places : ℕ
  -- the relation between a specification, a place, and what the proposer may give for it there
  pub may_propose : Specification → ℕ → Option ProposalData → Type 0

abbrev pub own_proposer : ℕ → ProposerData
own_proposer places = record { places = places; may_propose = λ spec place given. Unit {0} }

pub record IsRefusedAt (proposer : ProposerData) (spec : Specification) (place : ℕ) : Type 0 where
  pub proposed : ProposalData
  pub may : proposer.may_propose spec place (Some proposed)
  pub loses : ¬ IsWinningFor (order_in spec) proposed.role (requirement_of spec) proposed.circuit

abbrev pub ProposesNothing : ProposerData → Specification → ℕ → Type 0
ProposesNothing proposer spec n = (place : ℕ) → place < n → proposer.may_propose spec place None

pub record ProposesWrongly (proposer : ProposerData) (spec : Specification) (n : ℕ) : Type 0 where
  pub each : (place : ℕ) → place < n → proposer.may_propose spec place None ⊎ IsRefusedAt proposer spec place
  pub some : (place : ℕ) × (place < n) × IsRefusedAt proposer spec place
