-- The inputs, the outputs and the order of moves that a circuit must have in its role, as controller or as environment.
-- - `HasShape order role file c`: the names of the circuit's inputs and outputs are those that its role requires; if
--   the circuit moves first, its outputs do not depend on its inputs
-- - `SeesNoInputWhereReached c`: at latch values that some trace reaches, the circuit's outputs do not depend on its
--   inputs
use Rattle.std.specs.Prelude.{◌≡◌, Bool, true, false, IsTrue, List}
use Rattle.ps_hoa.specs.Files.{FileData}
use Rattle.ps_circuit.specs.Circuits.{CircuitData}
use Rattle.ps_circuit.specs.Values.{Moment, GoesOn, Steps, resets}
use Rattle.ps_aiger.specs.Timing.{SeesNoInput}
use Rattle.ps_machine.specs.declared.key.Order.{Order}
use Rattle.ps_machine.specs.declared.key.Order.TheVariants.{Mealy, Moore}
use Rattle.ps_simulate.specs.Symbols.{HasSymbols}
use Rattle.ps_simulate.specs.declared.role.Role.{Role}
use Rattle.ps_simulate.specs.declared.role.Role.TheVariants.{Controller, Environment}

-- in the order `Mealy` the environment moves first, and in the order `Moore` the controller moves first
abbrev pub moves_first : Order → Role → Bool
moves_first Mealy Controller = false
moves_first Mealy Environment = true
moves_first Moore Controller = true
moves_first Moore Environment = false

-- if the circuit's player moves first, the circuit's outputs do not depend on its inputs, which are the other player's
-- letter
abbrev pub IsInTime : Order → Role → CircuitData → Type 0
IsInTime order role c = IsTrue (moves_first order role) → SeesNoInput c

pub record HasShape (order : Order) (role : Role) (file : FileData) (c : CircuitData) : Type 0 where
  pub symbols : HasSymbols role file.names file.controllable c
  pub in_time : IsInTime order role c

-- ## Latches that traces reach

-- some trace of the circuit leads from the reset values to these values of the latches
abbrev pub IsReachedByTrace : CircuitData → List Bool → Type 0
IsReachedByTrace c latches = (moments : List Moment) × GoesOn c (resets c) moments latches

abbrev pub SeesNoInputWhereReached : CircuitData → Type 0
SeesNoInputWhereReached c =
    (latches inputs others outputs other_outputs next other_next : List Bool) → IsReachedByTrace c latches →
    Steps c latches inputs outputs next → Steps c latches others other_outputs other_next → outputs ≡ other_outputs

abbrev pub IsInTimeWhereReached : Order → Role → CircuitData → Type 0
IsInTimeWhereReached order role c = IsTrue (moves_first order role) → SeesNoInputWhereReached c
