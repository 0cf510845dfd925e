-- The two given solvers, on which the program's answer depends.
use Rattle.ps_solver.specs.Solvers.{SolverData}

-- the first solver solves games, and the second is used for certificates in the input
pub record Solvers : Type 1 where
  pub built_in : SolverData
  pub replay : SolverData

abbrev pub solvers_of : SolverData → SolverData → Solvers
solvers_of built_in replay = record { built_in = built_in; replay = replay }
