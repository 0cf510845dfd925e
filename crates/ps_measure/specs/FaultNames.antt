-- The numbers and names of the faults that `ranks` returns.
use Rattle.std.specs.Prelude.{ℕ, List, codes}
use Rattle.ps_game.specs.FaultNames as game
use Rattle.ps_game.specs.declared.faults.GameFault.TheVariants as game_fault
use Rattle.ps_measure.specs.declared.fault.MeasureFault.{MeasureFault}
use Rattle.ps_measure.specs.declared.fault.MeasureFault.TheVariants.{BadCycle, OutOfMemory}

abbrev pub fault_number : MeasureFault → ℕ
fault_number (BadCycle cycle) = 40
fault_number OutOfMemory = game.fault_number game_fault.OutOfMemory

abbrev pub fault_name : MeasureFault → List ℕ
fault_name (BadCycle cycle) = codes "BadCycle"
fault_name OutOfMemory = game.fault_name game_fault.OutOfMemory
