-- What the functions that judge a solution require, and what they tell.
-- - `HasPlaces named given`: the solution has an entry for each vertex of the game
-- - `Names count fault`: each vertex that a fault of `judge` names is a vertex
-- - `IsCycleTold named cycle refused`, `IsTold named fault refused`: the line of a cycle, or of any fault of `judge`
use Rattle.std.specs.Prelude.{◌≡◌, ◌<◌, ⊤, ℕ, List, length}
use Rattle.std.specs.List.{All}
use Rattle.ps_game.specs.Games.{NamedGameData, vertex_count}
use Rattle.ps_referee.specs.declared.fault.JudgeFault.{JudgeFault}
use Rattle.ps_referee.specs.declared.fault.JudgeFault.TheVariants.{Unclosed, BadCycle, OutOfMemory}
use Rattle.ps_solution.specs.Solved.{SolutionData, AreMoves}
use Rattle.ps_program.specs.declared.answer.Refusal.{Refusal}
use Rattle.ps_program.specs.declared.answer.Refusal.TheVariants as refusal
use Rattle.ps_program.specs.Faults.{fault_text}
use Rattle.ps_program.specs.Commands.Judging.{cycle_text}
use Rattle.ps_program.specs.Texts.{NamesVertices, flaw_text}

-- the solution's lists of winners and of moves have an entry for each vertex, and each move leads to a vertex
pub record HasPlaces (named : NamedGameData) (given : SolutionData) : Type 0 where
  pub won : length given.won ≡ vertex_count named.game
  pub moves : length given.moves ≡ vertex_count named.game
  pub within : AreMoves (vertex_count named.game) given.moves

-- each vertex that a fault of `judge` names is a number less than `count`
abbrev pub Names : ℕ → JudgeFault → Type 0
Names count (Unclosed flaw) = NamesVertices count flaw
Names count (BadCycle player cycle) = All (λ v. v < count) cycle.items
Names count OutOfMemory = ⊤

-- the fault that is returned is the line that reports the cycle, or `OutOfMemory`
abbrev pub IsCycleTold : NamedGameData → List ℕ → Refusal → Type 0
IsCycleTold named cycle (refusal.Fault line) = fault_text line ≡ cycle_text named cycle
IsCycleTold named cycle refusal.OutOfMemory = ⊤

-- the fault that is returned is the line that reports the solution's fault, or `OutOfMemory`
abbrev pub IsTold : NamedGameData → JudgeFault → Refusal → Type 0
IsTold named (Unclosed flaw) (refusal.Fault line) = fault_text line ≡ flaw_text named flaw
IsTold named (BadCycle player cycle) refused = IsCycleTold named cycle.items refused
IsTold named OutOfMemory (refusal.Fault line) = ⊥
IsTold named fault refusal.OutOfMemory = ⊤
