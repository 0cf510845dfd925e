-- The command `shrink`. The answer of `shrink` is a circuit that wins, as the given one does, and is not larger; or a
-- stimulus on which the given circuit loses.
use Rattle.std.specs.Prelude.{◌≡◌, ◌⊎◌, ℕ, List, Result, Ok, Err}
use Rattle.ps_circuit.specs.Circuits.{CircuitData, IsCircuit}
use Rattle.ps_circuit.specs.Texts.{ReadsCircuit}
use Rattle.ps_circuit.specs.Written.{text_of}
use Rattle.ps_hoa.specs.Files.{FileData}
use Rattle.ps_machine.specs.declared.key.Order.{Order}
use Rattle.ps_shrink.specs.Reductions.{IsSmallerBy}
use Rattle.ps_simulate.specs.Stimuli.{StimulusData}
use Rattle.ps_simulate.specs.declared.role.Role.{Role}
use Rattle.ps_verify.specs.Judgements.{IsLosing, IsWinning}
use Rattle.ps_program.specs.Automata.{ReadsAutomaton}
use Rattle.ps_program.specs.Outcomes.{Then}
use Rattle.ps_program.specs.Replies.{Reply, text_reply}
use Rattle.ps_program.specs.Texts.{CutsInTwo, ReadsCircuitText}
use Rattle.ps_program.specs.Commands.Verifying.{IsProductLine, loses_reply}

-- the reply is the text of a circuit that wins and is not larger than the circuit c; it is read as this circuit again
pub record IsSmallerReply (Winning : CircuitData → Type 0) (c : CircuitData) (reply : Reply) : Type 0 where
  pub small : CircuitData
  pub smaller : IsSmallerBy Winning c small
  pub reads : ReadsCircuit (text_of small) (Ok small)
  pub is : reply ≡ text_reply (text_of small)

-- the circuit wins, and the reply is a smaller one that wins too, or one of the same size; or the reply is a stimulus
-- on which the circuit loses
abbrev pub IsReducedTo : (CircuitData → Type 0) → (CircuitData → StimulusData → Type 0) → CircuitData → Reply → Type 0
IsReducedTo Winning Losing c reply = (Winning c × IsSmallerReply Winning c reply)
    ⊎ ((s : StimulusData) × Losing c s × (reply ≡ loses_reply s))

-- what is printed for a circuit: a smaller one that wins too, or one of the same size; or a stimulus on which the
-- circuit loses; or the line that reports why it can't be judged
abbrev pub TellsReduction : Order → Role → FileData → CircuitData → Result Reply (List ℕ) → Type 0
TellsReduction order role file c (Ok reply) =
    IsCircuit c × IsReducedTo (IsWinning order role file) (IsLosing order role file) c reply
TellsReduction order role file c (Err line) = IsProductLine order role file c line

-- parses a text as a circuit, and makes the circuit smaller
abbrev pub ShrinksText : Order → Role → FileData → List ℕ → Result Reply (List ℕ) → Type 0
ShrinksText order role file text = Then (ReadsCircuitText text) (TellsReduction order role file)

-- what the program answers to `shrink`, given the texts of an automaton and of a circuit (a controller or an
-- environment)
abbrev pub AnswersShrink : Order → Role → List ℕ → Result Reply (List ℕ) → Type 0
AnswersShrink order role texts =
    Then (CutsInTwo texts) (λ parts. Then (ReadsAutomaton parts.0) (λ file. ShrinksText order role file parts.1))
