-- Let a valid certificate be given for the game of any automaton of the file. The certificate's machine belongs to the
-- player who wins vertex 0, and this player wins all lassos of the machine. So the circuit of the machine satisfies
-- `IsWitness`.
use Rattle.std.proofs.Common.{◌≡◌, ℕ, ◌==◌, subst, rules}
use Rattle.ps_machine.specs.Keys.{mover_of}
use Rattle.ps_traces.specs.Answers.{IsWitness}
use Rattle.ps_traces.proofs.CircuitAnswers.{is_answer}
use Rattle.ps_traces.proofs.CertifiedCircuits.{is_for_file}
use Rattle.ps_traces.proofs.laws.certified_circuit_of_file_answers.Goals as goal

pub returns : goal.returns
returns c = λ order file game is_game certificate m circuit fits valid is has of encodes.
    let won = c.lassos_of_file_won.ensures order file game is_game certificate m fits valid is has of in
    let turn : m.is_first ≡ (mover_of order == m.player) = search rules in
    subst (λ (player : ℕ). IsWitness order file player circuit) of.player
    (is_answer order file m circuit (c.circuit_has_one_values.ensures circuit encodes.is_circuit) is
    (is_for_file order file is_game.auto m has turn is.player) encodes won)
