-- Judgements and reductions by an automaton, for each file from which it is built.
use Rattle.std.proofs.Common.{Result, Ok, Err, IfOk}
use Rattle.ps_automaton.specs.Automata.{AutomatonData, IsBuiltFrom}
use Rattle.ps_automaton.specs.Chains.{Chain}
use Rattle.ps_circuit.specs.Circuits.{CircuitData}
use Rattle.ps_hoa.specs.Files.{FileData}
use Rattle.ps_machine.specs.declared.key.Order.{Order}
use Rattle.ps_product.specs.declared.fault.ProductFault.{ProductFault}
use Rattle.ps_simulate.specs.Stimuli.{StimulusData}
use Rattle.ps_simulate.specs.declared.role.Role.{Role}
use Rattle.ps_verify.specs.Judgements.{IsJudgement, IsLosing, IsWinning}
use Rattle.ps_verify.specs.declared.judgement.Judgement.{Judgement}
use Rattle.ps_verify.specs.declared.judgement.Judgement.TheVariants as judgement
use Rattle.ps_shrink.specs.Reductions.{IsJudgementBy, IsReduction, IsReductionBy}
use Rattle.ps_shrink.specs.declared.reduction.Reduction.{Reduction}
use Rattle.ps_shrink.specs.declared.reduction.Reduction.TheVariants.{Wins, Loses}

module _ (order : Order) (role : Role) (a : AutomatonData) (c : CircuitData) where
  abbrev pub WinsBy : CircuitData → Type 0
  WinsBy d = (file : FileData) (chain : Chain) → IsBuiltFrom file chain a → IsWinning order role file d

  abbrev pub LosesBy : CircuitData → StimulusData → Type 0
  LosesBy d s = (file : FileData) (chain : Chain) → IsBuiltFrom file chain a → IsLosing order role file d s

  pub judged_by : (result : Result Judgement ProductFault) → IfOk result (λ given. (file : FileData) (chain : Chain) →
      IsBuiltFrom file chain a → IsJudgement order role file c given) → IfOk result (IsJudgementBy WinsBy LosesBy c)
  judged_by (Ok judgement.Wins) h = h
  judged_by (Ok (judgement.Loses s)) h = h
  judged_by (Err fault) h = tt

  pub reduced_by : (result : Result Reduction ProductFault) → IfOk result (IsReductionBy WinsBy LosesBy c) →
      IfOk result (λ reduction. (file : FileData) (chain : Chain) → IsBuiltFrom file chain a →
      IsReduction order role file c reduction)
  reduced_by (Ok (Wins small)) h = λ file chain built. (
    h.0 file chain built,
    record {
      wins = h.1.wins file chain built;
      input_names = h.1.input_names;
      output_names = h.1.output_names;
      latches = h.1.latches;
      gates = h.1.gates;
    },
  )
  reduced_by (Ok (Loses s)) h = h
  reduced_by (Err fault) h = tt
