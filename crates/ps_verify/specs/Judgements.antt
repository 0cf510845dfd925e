-- What it means that a circuit wins for an automaton, as controller or as environment, and what a counterexample is.
-- - `IsWinning order role file c`: the automaton accepts all lasso traces of a controller's circuit, or no lasso trace
--   of an environment's circuit
-- - `IsLosing order role file c s`: the automaton rejects the lasso traces of a controller's circuit on the stimulus s,
--   or accepts those of an environment's circuit on s
-- - `IsJudgement order role file c judgement`: the judgement is right: the circuit wins, or the judgement's stimulus is
--   a counterexample
use Rattle.std.specs.Prelude.{◌≡◌, ◌<◌, ◌↔◌, ℕ, List, length}
use Rattle.ps_hoa.specs.Files.{FileData}
use Rattle.ps_automaton.specs.Acceptance.{IsAccepted}
use Rattle.ps_circuit.specs.Circuits.{CircuitData}
use Rattle.ps_circuit.specs.Values.{Moment}
use Rattle.ps_machine.specs.declared.key.Order.{Order}
use Rattle.ps_simulate.specs.LassoFaults.{AreWide}
use Rattle.ps_simulate.specs.Stimuli.{StimulusData}
use Rattle.ps_simulate.specs.Symbols.{HasSymbols}
use Rattle.ps_simulate.specs.Words.{TraceWordData}
use Rattle.ps_simulate.specs.declared.role.Role.{Role}
use Rattle.ps_simulate.specs.declared.role.Role.TheVariants.{Controller, Environment}
use Rattle.ps_traces.specs.Answers.{LosesMeeting}
use Rattle.ps_traces.specs.Inputs.{EachInputGoesOn, HasLetters}
use Rattle.ps_traces.specs.Meetings.{FiniteController, IsController}
use Rattle.ps_traces.specs.Shapes.{IsInTimeWhereReached}
use Rattle.ps_traces.specs.Traces.{AllAccepted, NoneAccepted}
use Rattle.ps_verify.specs.Stimulated.{IsWordOn}
use Rattle.ps_verify.specs.declared.judgement.Judgement.{Judgement}
use Rattle.ps_verify.specs.declared.judgement.Judgement.TheVariants.{Wins, Loses}

-- A circuit that wins has the properties that `IsWitness` (of `ps_traces`) states of a printed circuit, with one
-- exception. If the circuit's player moves first, the outputs must not depend on the inputs at latch values that a
-- trace reaches; at other latch values they may.
pub record IsWinning (order : Order) (role : Role) (file : FileData) (c : CircuitData) : Type 0 where
  pub symbols : HasSymbols role file.names file.controllable c
  pub in_time : IsInTimeWhereReached order role c
  pub accepted : role ≡ Controller → AllAccepted file c
  pub rejected : role ≡ Environment → NoneAccepted file c
  -- Each periodic input extends to a lasso trace, and exactly one list of letters belongs to each trace. So the circuit
  -- has at least one lasso word, and what the fields `accepted` and `rejected` state is not vacuous. An environment's
  -- circuit has a joint run with each finite-state controller, and the automaton rejects the word of this run.
  pub goes_on : EachInputGoesOn c
  pub letters : (moments : List Moment) → HasLetters file.names c moments
  pub meetings : role ≡ Environment → (k : FiniteController) → IsController order c k → LosesMeeting file c k

-- The stimulus is a counterexample. Some lasso trace of the circuit reads the stimulus. The automaton rejects the word
-- of each such trace, if the circuit is a controller, and accepts it, if the circuit is an environment.
pub record IsLosing (order : Order) (role : Role) (file : FileData) (c : CircuitData) (s : StimulusData) : Type 0 where
  pub symbols : HasSymbols role file.names file.controllable c
  pub in_time : IsInTimeWhereReached order role c
  pub wide : AreWide c s.stem s.lap
  pub some : 0 < length s.lap
  pub word : TraceWordData
  pub is_word : IsWordOn file.names c s word.stem word.lap
  pub is_wrong : (stem lap : List ℕ) → IsWordOn file.names c s stem lap →
      IsAccepted file stem lap ↔ (role ≡ Environment)

abbrev pub IsJudgement : Order → Role → FileData → CircuitData → Judgement → Type 0
IsJudgement order role file c Wins = IsWinning order role file c
IsJudgement order role file c (Loses stimulus) = IsLosing order role file c stimulus
