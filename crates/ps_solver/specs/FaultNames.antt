-- The numbers and names of the faults that a solver can return.
use Rattle.std.specs.Prelude.{ℕ, List, codes}
use Rattle.ps_certificate.specs.Faults as certificate
use Rattle.ps_game.specs.FaultNames as game
use Rattle.ps_game.specs.declared.faults.GameFault.TheVariants as game_fault
use Rattle.ps_solver.specs.declared.fault.SolveFault.{SolveFault}
use Rattle.ps_solver.specs.declared.fault.SolveFault.TheVariants.{BadCycle, Text, OutOfMemory}

abbrev pub fault_number : SolveFault → ℕ
fault_number (BadCycle vertices) = 40
fault_number (Text cause offset) = certificate.cause_number cause
fault_number OutOfMemory = game.fault_number game_fault.OutOfMemory

abbrev pub fault_name : SolveFault → List ℕ
fault_name (BadCycle vertices) = codes "BadCycle"
fault_name (Text cause offset) = certificate.cause_name cause
fault_name OutOfMemory = game.fault_name game_fault.OutOfMemory
