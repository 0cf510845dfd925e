-- `verify` answers `wins` for each circuit that `synth` prints.
use Rattle.std.proofs.Common.{◌≡◌, ◌⊎◌, ℕ, List, Result, Ok, refl, sym, ap, subst, inl, inr, arith}
use Rattle.std.specs.Prelude.{slice_index}
use Rattle.ps_circuit.specs.Circuits.{CircuitData}
use Rattle.ps_circuit.specs.Written.{text_of}
use Rattle.ps_hoa.specs.Files.{FileData}
use Rattle.ps_solver.specs.Solvers.{SolverData, answers_now}
use Rattle.ps_solver.specs.Solving.{winner_at_start}
use Rattle.ps_machine.specs.declared.key.Order.{Order}
use Rattle.ps_simulate.specs.Stimuli.{StimulusData}
use Rattle.ps_simulate.specs.declared.role.Role.{Role}
use Rattle.ps_synthesis.specs.Printing.{PrintsCircuit}
use Rattle.ps_synthesis.specs.Promises.{SynthesisData}
use Rattle.ps_synthesis.specs.Reports.{IsWinnersSynthesis}
use Rattle.ps_traces.specs.Answers.{IsWitness, role_of}
use Rattle.ps_verify.specs.Judgements.{IsLosing, IsWinning}
use Rattle.ps_program.specs.Automata.{ReadsAutomaton}
use Rattle.ps_program.specs.Laws.Determined.{AgreeAsLosing}
use Rattle.ps_program.specs.Laws.Exchanged.{VerifiesCircuits, role_that_wins}
use Rattle.ps_program.specs.Outcomes.{printed}
use Rattle.ps_program.specs.Replies.{Reply}
use Rattle.ps_program.specs.Commands.Synthesis.{is_realizable}
use Rattle.ps_program.specs.Texts.{CutsInTwo, ReadsCircuitText}
use Rattle.ps_program.specs.Commands.Verifying.{AnswersVerify, ReadsVerified, TellsJudgement, loses_reply, wins_reply}
use Rattle.ps_program.proofs.AtMostOne.OneStep.{IsOne}
use Rattle.ps_program.proofs.AtMostOne.VerifyDetermined.{NotBoth, verify_one_or}

-- a law of another crate, on which this file relies: a winner's circuit wins
abbrev pub WitnessWins : Type 0
WitnessWins = (order : Order) (file : FileData) (player : ℕ) (c : CircuitData) → IsWitness order file player c →
    IsWinning order (role_of player) file c

pub not_losing : (s : StimulusData) → wins_reply ≡ loses_reply s → ⊥
not_losing s same = omega (arith, ap (λ (reply : Reply). slice_index reply.text 0) same)

module _ (automata : (text : List ℕ) → IsOne (ReadsAutomaton text)) (circuits : (text : List ℕ) →
    IsOne (ReadsCircuitText text)) (apart : NotBoth) (wins : WitnessWins) where
  module _ (solver : SolverData) (order : Order) (text texts : List ℕ) (s : SynthesisData)
      (is : IsWinnersSynthesis (answers_now solver) order text s) (prints : PrintsCircuit (text_of s.circuit) s.circuit)
      (cuts : CutsInTwo texts (Ok (text, text_of s.circuit))) where
    abbrev role : Role
    role = role_that_wins (is_realizable s.certificate)

    told : TellsJudgement order role is.synthesis.file s.circuit (Ok wins_reply)
    told = (
      is.synthesis.answers.is_circuit,
      inl (
        wins order is.synthesis.file (winner_at_start s.certificate) s.circuit is.synthesis.answers,
        refl,
      ),
    )

    answered : AnswersVerify order role texts (Ok wins_reply)
    answered = inr (
      (text, text_of s.circuit),
      cuts,
      inr (
        is.synthesis.file,
        inr (is.synthesis.file, is.synthesis.accepted.reads, (is.synthesis.accepted.admitted, refl)),
        inr (s.circuit, prints.read_again, told),
      ),
    )

    only : (outcome : Result Reply (List ℕ)) → AnswersVerify order role texts outcome → outcome ≡ Ok wins_reply
    only outcome h = by (verify_one_or automata circuits apart order role outcome (Ok wins_reply) texts h answered)
      where
        by : (outcome ≡ Ok wins_reply) ⊎ ((file : FileData) × (c : CircuitData) × ReadsVerified texts file c ×
            AgreeAsLosing (IsLosing order role file c) (printed outcome) wins_reply) → outcome ≡ Ok wins_reply
        by (inl same) = same
        by (inr (file, c, reads, agree)) = absurd (not_losing agree.other agree.is_other)

  pub circuits_verified : (solver : SolverData) → VerifiesCircuits solver
  circuits_verified solver order text texts s outcome is prints cuts = (
    only solver order text texts s is prints cuts outcome,
    (λ same. subst (AnswersVerify order (role_that_wins (is_realizable s.certificate)) texts) (sym same)
        (answered solver order text texts s is prints cuts)),
  )
