-- The command that makes a circuit from an automaton.
-- - `synthesis_reply full compact s`: what the program prints for a solved game and its circuit
-- - `IsPrinted full compact s`: parsing each printed text gives the printed value again
-- - `AnswersSynth solvers asked texts`: what the program answers to the command `synth`
use Rattle.std.specs.Prelude.{◌≡◌, ℕ, Bool, true, false, List, ◌++◌, codes, nat_eq, Some, Result, Ok, Err}
use Rattle.std.specs.Prelude.{if◌then◌else◌}
use Rattle.ps_certificate.specs.Certificates.{CertificateData}
use Rattle.ps_certificate.specs.Written.{text_in}
use Rattle.ps_circuit.specs.Written.{text_of}
use Rattle.ps_game.specs.Games.{NamedGameData}
use Rattle.ps_solver.specs.Solvers.{SolverData, answers_now, once_fed}
use Rattle.ps_solver.specs.Solving.{winner_at_start}
use Rattle.ps_machine.specs.declared.key.Order.{Order}
use Rattle.ps_pgsolver.specs.Written.{game_text}
use Rattle.ps_synthesis.specs.Printing.{PrintsCertificate, PrintsCircuit, PrintsGame}
use Rattle.ps_synthesis.specs.Promises.{SynthesisData}
use Rattle.ps_synthesis.specs.Reports.{IsWinnersSynthesis}
use Rattle.ps_synthesis.specs.SynthFaults.{IsSynthFault}
use Rattle.ps_synthesis.specs.declared.fault.SynthFault.{SynthFault}
use Rattle.ps_program.specs.declared.commands.SynthLine.{SynthLine}
use Rattle.ps_program.specs.Outcomes.{Then}
use Rattle.ps_program.specs.Replies.{Reply}
use Rattle.ps_program.specs.Solvers.{Solvers}
use Rattle.ps_program.specs.StageFaults.{IsOfSolver, stage_line}
use Rattle.ps_program.specs.Texts.{CutsInTwo}

-- ---- the printed text

-- whether the controller, player 0, wins
abbrev pub is_realizable : CertificateData → Bool
is_realizable certificate = nat_eq (winner_at_start certificate) 0

-- the line that states the winner
abbrev pub verdict_line : Bool → List ℕ
verdict_line realizable = if realizable then codes "REALIZABLE\n" else codes "UNREALIZABLE\n"

abbrev pub verdict_status : Bool → ℕ
verdict_status realizable = if realizable then 10 else 20

-- the line that states the winner, and then the winner's circuit
abbrev pub circuit_part : SynthesisData → List ℕ
circuit_part s = verdict_line (is_realizable s.certificate) ++ text_of s.circuit

-- the game and its certificate, each after a line `%%`
abbrev pub proof_text : (compact : Bool) → NamedGameData → CertificateData → List ℕ
proof_text compact game certificate =
    codes "%%\n" ++ game_text game ++ codes "%%\n" ++ text_in compact game certificate

-- the game and its certificate are printed if `full` is true
abbrev pub synthesis_text : (full compact : Bool) → SynthesisData → List ℕ
synthesis_text true compact s = circuit_part s ++ proof_text compact s.game s.certificate
synthesis_text false compact s = circuit_part s

abbrev pub synthesis_reply : (full compact : Bool) → SynthesisData → Reply
synthesis_reply full compact s =
    record { text = synthesis_text full compact s; status = verdict_status (is_realizable s.certificate) }

abbrev pub IsPrinted : (full compact : Bool) → SynthesisData → Type 0
IsPrinted true compact s = PrintsCircuit (text_of s.circuit) s.circuit × PrintsGame (game_text s.game) s.game
    × PrintsCertificate compact (text_in compact s.game s.certificate) s.game s.certificate
IsPrinted false compact s = PrintsCircuit (text_of s.circuit) s.circuit

-- ---- the answer

-- The result of synthesis: the text's game with a certificate and the winner's circuit, or the line that reports a
-- fault. A fault comes from the solver only if the solver is not sure, that is, if it may return a wrong certificate or
-- fail though memory suffices.
abbrev pub Synthesises : SolverData → Order → List ℕ → Result SynthesisData (List ℕ) → Type 0
Synthesises solver order text (Ok s) = IsWinnersSynthesis (answers_now solver) order text s
Synthesises solver order text (Err line) =
    (fault : SynthFault) × IsSynthFault (answers_now solver) order text fault
    × (IsOfSolver fault → solver.is_sure ≡ false) × (stage_line fault ≡ Some line)

-- the circuit of an HOA text, made with the given solver
abbrev pub AnswersReport : SolverData → SynthLine → List ℕ → Result Reply (List ℕ) → Type 0
AnswersReport solver asked text = Then (Synthesises solver asked.order text) (λ s outcome.
    IsPrinted asked.full asked.compact s × (outcome ≡ Ok (synthesis_reply asked.full asked.compact s)))

-- the circuit of an HOA text, made with the given solver after it was fed the certificate that follows the text
abbrev pub AnswersCertified : SolverData → SynthLine → List ℕ → Result Reply (List ℕ) → Type 0
AnswersCertified solver asked texts =
    Then (CutsInTwo texts) (λ parts. AnswersReport (once_fed parts.1 solver) asked parts.0)

-- what the program answers to `synth`, with the second solver if a certificate is given, and otherwise with the first
abbrev pub AnswersBy : (cert : Bool) → Solvers → SynthLine → List ℕ → Result Reply (List ℕ) → Type 0
AnswersBy false solvers asked texts = AnswersReport solvers.built_in asked texts
AnswersBy true solvers asked texts = AnswersCertified solvers.replay asked texts

abbrev pub AnswersSynth : Solvers → SynthLine → List ℕ → Result Reply (List ℕ) → Type 0
AnswersSynth solvers asked texts = AnswersBy asked.cert solvers asked texts
