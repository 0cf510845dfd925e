-- The winner and the winner's circuit, without the game and the certificate that they come from.
-- - `first_count order file`: the number of propositions of the player who moves first
-- - `IsShortOf May order text short`: `short` has the winner and the circuit of a synthesis of the text
-- - `IsAttempt May order text attempt`: `attempt` has the winner and the circuit, or the text's problem
-- - `IsLeftToGame attempt`: it has the problem
use Rattle.std.specs.Prelude.{◌≡◌, ◌↔◌, ℕ, ◌-◌, List, length, IsTrue}
use Rattle.ps_hoa.specs.Files.{FileData}
use Rattle.ps_solver.specs.Solvers.{MayAnswer}
use Rattle.ps_solver.specs.Solving.{winner_at_start}
use Rattle.ps_machine.specs.declared.key.Order.{Order}
use Rattle.ps_machine.specs.declared.key.Order.TheVariants.{Mealy, Moore}
use Rattle.ps_synthesis.specs.Problems.{IsProblemOf}
use Rattle.ps_synthesis.specs.Promises.{SynthesisData}
use Rattle.ps_synthesis.specs.Reports.{IsWinnersSynthesis}
use Rattle.ps_synthesis.specs.declared.short.Attempt.{Attempt}
use Rattle.ps_synthesis.specs.declared.short.Attempt.TheVariants as attempt
use Rattle.ps_synthesis.specs.declared.short.Short.{Short}

-- the controller sets the controllable propositions, the environment sets the others
abbrev pub first_count : Order → FileData → ℕ
first_count Mealy file = length file.names - length file.controllable
first_count Moore file = length file.controllable

-- the game and the certificate of the synthesis exist, but need not have been made
pub record IsShortOf (May : MayAnswer) (order : Order) (text : List ℕ) (short : Short) : Type 0 where
  pub made : SynthesisData
  pub winners : IsWinnersSynthesis May order text made
  pub realizable : IsTrue short.realizable ↔ (winner_at_start made.certificate ≡ 0)
  pub circuit_is : short.circuit ≡ made.circuit

abbrev pub IsAttempt : MayAnswer → Order → List ℕ → Attempt → Type 0
IsAttempt May order text (attempt.Short short) = IsShortOf May order text short
IsAttempt May order text (attempt.Problem problem) = IsProblemOf order text problem

abbrev pub IsLeftToGame : Attempt → Type 0
IsLeftToGame (attempt.Short short) = ⊥
IsLeftToGame (attempt.Problem problem) = Unit {0}
