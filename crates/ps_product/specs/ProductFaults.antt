-- Why a circuit and an automaton have no product.
-- - `IsProductRefusal order role a c fault`: `fault` is a true reason why a and c have no product: the symbols of c are
--   wrong, or its outputs depend on inputs that come later; `OutOfMemory` is always allowed
-- - `IsRefusalFor order role names controllable c fault`: the same, for propositions instead of an automaton
-- - `asked_of role`: the circuit's player, 0 for a controller; the opponent owns all vertices
use Rattle.std.specs.Prelude.{ℕ, ⊤, IsTrue, List}
use Rattle.ps_automaton.specs.Automata.{AutomatonData}
use Rattle.ps_circuit.specs.Circuits.{CircuitData}
use Rattle.ps_machine.specs.declared.key.Order.{Order}
use Rattle.ps_simulate.specs.Symbols.{HasSymbols}
use Rattle.ps_simulate.specs.declared.role.Role.{Role}
use Rattle.ps_simulate.specs.declared.role.Role.TheVariants.{Controller, Environment}
use Rattle.ps_traces.specs.Shapes.{SeesNoInputWhereReached, moves_first}
use Rattle.ps_product.specs.declared.fault.ProductFault.{ProductFault}
use Rattle.ps_product.specs.declared.fault.ProductFault.TheVariants.{Symbols, Timing, OutOfMemory}

-- the circuit's player moves first, but at latches that some trace reaches, the outputs depend on the other player's
-- letter of the same step
pub record IsTooEarly (order : Order) (role : Role) (c : CircuitData) : Type 0 where
  pub first : IsTrue (moves_first order role)
  pub sees : ¬ SeesNoInputWhereReached c

-- the fault is a true reason why a circuit is not judged. `Symbols`: the circuit's symbols are not those of its role,
-- which are names of propositions. `Timing`: the symbols are right, but the circuit moves first, and its outputs depend
-- on the inputs of the same step. `OutOfMemory`: memory may run out at any time
abbrev pub IsRefusalFor :
    Order → Role → (names : List (List ℕ)) → (controllable : List ℕ) → CircuitData → ProductFault → Type 0
IsRefusalFor order role names controllable c Symbols = ¬ HasSymbols role names controllable c
IsRefusalFor order role names controllable c Timing = HasSymbols role names controllable c × IsTooEarly order role c
IsRefusalFor order role names controllable c OutOfMemory = ⊤

-- the fault is a true reason why there is no product of an automaton and a circuit
abbrev pub IsProductRefusal : Order → Role → AutomatonData → CircuitData → ProductFault → Type 0
IsProductRefusal order role a c fault = IsRefusalFor order role a.names a.controllable c fault

abbrev pub asked_of : Role → ℕ
asked_of Controller = 0
asked_of Environment = 1
