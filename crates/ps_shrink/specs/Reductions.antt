-- What a circuit is that takes the place of a given circuit which wins. `Winning` and `Losing` state which circuits
-- win, and on which stimuli a circuit loses.
-- - `IsJudgementBy Winning Losing c judgement`: the judgement is right: the circuit wins, or it loses on the stimulus
-- - `IsSmallerBy Winning given small`: the circuit `small` wins, and is not larger than the circuit `given`
-- - `IsReductionBy Winning Losing given reduction`: the given circuit wins, and the reduction is a circuit that wins
--   and is not larger; or the reduction is a stimulus on which the given circuit loses
-- - `IsSmallerWinner order role file given small`, `IsReduction order role file given reduction`: the same by an
--   automaton
use Rattle.std.specs.Prelude.{◌≡◌, ◌≤◌, length}
use Rattle.ps_hoa.specs.Files.{FileData}
use Rattle.ps_circuit.specs.Circuits.{CircuitData}
use Rattle.ps_machine.specs.declared.key.Order.{Order}
use Rattle.ps_simulate.specs.Stimuli.{StimulusData}
use Rattle.ps_simulate.specs.declared.role.Role.{Role}
use Rattle.ps_verify.specs.Judgements.{IsLosing, IsWinning}
use Rattle.ps_verify.specs.declared.judgement.Judgement.{Judgement}
use Rattle.ps_verify.specs.declared.judgement.Judgement.TheVariants as judgement
use Rattle.ps_shrink.specs.declared.reduction.Reduction.{Reduction}
use Rattle.ps_shrink.specs.declared.reduction.Reduction.TheVariants.{Wins, Loses}

abbrev pub IsJudgementBy :
    (CircuitData → Type 0) → (CircuitData → StimulusData → Type 0) → CircuitData → Judgement → Type 0
IsJudgementBy Winning Losing c judgement.Wins = Winning c
IsJudgementBy Winning Losing c (judgement.Loses stimulus) = Losing c stimulus

-- The circuit `small` wins, as the circuit `given` does. It has the same inputs and outputs, at most as many latches
-- and at most as many gates.
pub record IsSmallerBy (Winning : CircuitData → Type 0) (given small : CircuitData) : Type 0 where
  pub wins : Winning small
  pub input_names : small.input_names ≡ given.input_names
  pub output_names : small.output_names ≡ given.output_names
  pub latches : length small.latches ≤ length given.latches
  pub gates : length small.gates ≤ length given.gates

abbrev pub IsReductionBy :
    (CircuitData → Type 0) → (CircuitData → StimulusData → Type 0) → CircuitData → Reduction → Type 0
IsReductionBy Winning Losing given (Wins small) = Winning given × IsSmallerBy Winning given small
IsReductionBy Winning Losing given (Loses stimulus) = Losing given stimulus

-- ---- by an automaton, in the same role and the same order of moves

abbrev pub IsSmallerWinner : Order → Role → FileData → (given small : CircuitData) → Type 0
IsSmallerWinner order role file given small = IsSmallerBy (IsWinning order role file) given small

abbrev pub IsReduction : Order → Role → FileData → CircuitData → Reduction → Type 0
IsReduction order role file given reduction =
    IsReductionBy (IsWinning order role file) (IsLosing order role file) given reduction
