-- What is given to the program, and what its answer depends on: two solvers, which find certificates, a proposer, which
-- finds circuits for specifications, and a translator, which finds automata for them.
use Rattle.ps_solver.specs.Solvers.{SolverData}
use Rattle.ps_specification.specs.Proposing.{ProposerData}
use Rattle.ps_specification.specs.Translating.{MayGive}
use Rattle.ps_program.specs.Solvers.{Solvers, solvers_of}

pub record Finders : Type 1 where
  pub solvers : Solvers
  pub proposer : ProposerData
  pub translator : MayGive

abbrev pub finders_of : SolverData → SolverData → ProposerData → MayGive → Finders
finders_of built_in replay proposer translator =
    record { solvers = solvers_of built_in replay; proposer = proposer; translator = translator }
