-- The properties of the circuit of the player who wins an automaton's game. The winner's circuit is a controller if
-- player 0 wins, and otherwise an environment.
-- - `role_of player`: player 0 is the controller
-- - `IsWitness order file player c`: the circuit has the inputs, outputs and order of moves of its role. If the circuit
--   is a controller, the automaton accepts the words of all its lasso traces. If the circuit is an environment, the
--   automaton accepts the word of none of its lasso traces.
use Rattle.std.specs.Prelude.{◌≡◌, ◌≢◌, ℕ, List, if◌then◌else◌, nat_eq}
use Rattle.ps_hoa.specs.Files.{FileData}
use Rattle.ps_circuit.specs.Circuits.{CircuitData, IsCircuit}
use Rattle.ps_circuit.specs.Values.{Moment}
use Rattle.ps_machine.specs.declared.key.Order.{Order}
use Rattle.ps_simulate.specs.declared.role.Role.{Role}
use Rattle.ps_simulate.specs.declared.role.Role.TheVariants.{Controller, Environment}
use Rattle.ps_traces.specs.Traces.{AllAccepted, NoneAccepted}
use Rattle.ps_traces.specs.Shapes.{HasShape}
use Rattle.ps_traces.specs.Inputs.{EachInputGoesOn, HasLetters}
use Rattle.ps_traces.specs.Meetings.{FiniteController, IsController, IsOneMeeting, IsRejected}

abbrev pub role_of : ℕ → Role
role_of player = if nat_eq player 0 then Controller else Environment

-- a circuit and a controller have exactly one joint trace of each length, and the automaton rejects the word of their
-- joint lasso trace
pub record LosesMeeting (file : FileData) (c : CircuitData) (k : FiniteController) : Type 0 where
  pub one : (count : ℕ) → IsOneMeeting c k count
  pub rejected : IsRejected file c k

-- The automaton accepts the words of all lasso traces of a controller's circuit, and of no lasso trace of an
-- environment's circuit. Each periodic input extends to a lasso trace of the circuit. The joint run of an environment's
-- circuit and any finite-state controller is a lasso trace, whose word the automaton rejects.
pub record IsWitness (order : Order) (file : FileData) (player : ℕ) (c : CircuitData) : Type 0 where
  pub is_circuit : IsCircuit c
  pub shape : HasShape order (role_of player) file c
  pub accepted : player ≡ 0 → AllAccepted file c
  pub rejected : player ≢ 0 → NoneAccepted file c
  -- Each periodic input extends to a lasso trace, and exactly one list of letters belongs to each trace. So the circuit
  -- has at least one lasso word, and what the fields `accepted` and `rejected` state is not vacuous.
  pub goes_on : EachInputGoesOn c
  pub letters : (moments : List Moment) → HasLetters file.names c moments
  pub meetings : player ≢ 0 → (k : FiniteController) → IsController order c k → LosesMeeting file c k
