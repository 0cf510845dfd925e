-- The numbers and names of the faults for which a claimed solution of a game is rejected.
use Rattle.std.specs.Prelude.{ℕ, List, codes}
use Rattle.ps_certificate.specs.Faults.{flaw_number, flaw_name}
use Rattle.ps_game.specs.FaultNames as game
use Rattle.ps_game.specs.declared.faults.GameFault.TheVariants as game_fault
use Rattle.ps_referee.specs.declared.fault.JudgeFault.{JudgeFault}
use Rattle.ps_referee.specs.declared.fault.JudgeFault.TheVariants.{Unclosed, BadCycle, OutOfMemory}

abbrev pub fault_number : JudgeFault → ℕ
fault_number (Unclosed flaw) = flaw_number flaw
fault_number (BadCycle player cycle) = 40
fault_number OutOfMemory = game.fault_number game_fault.OutOfMemory

abbrev pub fault_name : JudgeFault → List ℕ
fault_name (Unclosed flaw) = flaw_name flaw
fault_name (BadCycle player cycle) = codes "BadCycle"
fault_name OutOfMemory = game.fault_name game_fault.OutOfMemory
