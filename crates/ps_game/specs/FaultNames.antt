-- The numbers and names of the faults for which an unfinished game is rejected.
use Rattle.std.specs.Prelude.{ℕ, List, codes}
use Rattle.ps_game.specs.declared.faults.GameFault.{GameFault}
use Rattle.ps_game.specs.declared.faults.GameFault.TheVariants.{NoSuccessor, UnknownSuccessor, OutOfMemory}

abbrev pub fault_number : GameFault → ℕ
fault_number (NoSuccessor vertex) = 31
fault_number (UnknownSuccessor vertex successor) = 32
fault_number OutOfMemory = 24

abbrev pub fault_name : GameFault → List ℕ
fault_name (NoSuccessor vertex) = codes "NoSuccessor"
fault_name (UnknownSuccessor vertex successor) = codes "UnknownSuccessor"
fault_name OutOfMemory = codes "OutOfMemory"
