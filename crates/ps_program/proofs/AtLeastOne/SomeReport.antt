-- The commands `solve`, `cert` and `synth` have results, if their solver may return a certificate.
-- - `certifies_surely`, `certifies_fed`: solving a game has a result if the solver satisfies `MayCertify`, or if it
--   satisfies `MayReplay` and was fed a text
-- - `solve_some`, `cert_some`: the commands `solve` and `cert` have a result
-- - `synth_some`: the command `synth` has a result
use Rattle.std.proofs.Common.{◌≡◌, ◌≢◌, ℕ, Bool, true, false, List, length, Result, Ok, Err, refl, ap, inl, inr}
use Rattle.std.proofs.Common.{◌∙◌}
use Rattle.std.specs.Prelude.{Some}
use Rattle.std.proofs.lemmas.List.FromFn.{length-range_with_len}
use Rattle.ps_text.specs.Answers.{Found}
use Rattle.ps_aiger.specs.Wires.{IsOutOfLiterals}
use Rattle.ps_automaton.specs.declared.fault.AutomatonFault.{AutomatonFault}
use Rattle.ps_automaton.specs.declared.fault.AutomatonFault.TheVariants as automaton
use Rattle.ps_certificate.specs.Certificates.{CertificateData, IsValid}
use Rattle.ps_certificate.specs.Texts.{ReadsCertificate}
use Rattle.ps_certificate.specs.declared.fault.CertCause.{CertCause}
use Rattle.ps_circuit.specs.Circuits.{CircuitData}
use Rattle.ps_game.specs.Games.{IsGame, NamedGameData, vertex_count}
use Rattle.ps_hoa.specs.Files.{FileData}
use Rattle.ps_hoa.specs.Sound.{IsSoundFile}
use Rattle.ps_hoa.specs.Texts.{ReadsFile}
use Rattle.ps_hoa.specs.declared.fault.HoaCause.{HoaCause}
use Rattle.ps_machine.specs.Behaviours.{Behaviour}
use Rattle.ps_machine.specs.FileGames.{IsGameOfFile}
use Rattle.ps_solver.specs.Solvers.{SolverData, answers_now, once_fed}
use Rattle.ps_solver.specs.Solving.{IsCertified}
use Rattle.ps_solver.specs.declared.fault.SolveFault.TheVariants as solver_fault
use Rattle.ps_machine.specs.declared.key.Order.{Order}
use Rattle.ps_synthesis.specs.Promises.{IsAcceptedText}
use Rattle.ps_synthesis.specs.Reports.{IsWinners, IsWinnersCircuit}
use Rattle.ps_synthesis.specs.Stages.{IsSolverFault}
use Rattle.ps_synthesis.specs.SynthFaults.{IsSynthFault}
use Rattle.ps_synthesis.specs.declared.fault.SynthFault.{SynthFault}
use Rattle.ps_synthesis.specs.declared.fault.SynthFault.TheVariants as synth_fault
use Rattle.ps_program.specs.Laws.Answered.{IsPrintedBy, MayCertify, MayReplay, MaySynthesise}
use Rattle.ps_program.specs.Automata.{ReadsAutomaton}
use Rattle.ps_program.specs.Commands.Games.{AnswersCert, MakesGame, ReadsGameOf}
use Rattle.ps_program.specs.Solvers.{Solvers}
use Rattle.ps_program.specs.Commands.Solving.{AnswersGame, AnswersSolve, Certifies}
use Rattle.ps_program.specs.StageFaults.{stage_line}
use Rattle.ps_program.specs.Commands.Synthesis.{AnswersBy, AnswersReport, Synthesises, synthesis_reply}
use Rattle.ps_program.specs.Texts.{CutsInTwo, ReadsGameText}
use Rattle.ps_program.specs.declared.commands.SynthLine.{SynthLine}
use Rattle.ps_program.proofs.ByCommand.AutomatonLemmas.{no_line}
use Rattle.ps_program.proofs.AtLeastOne.SomeCut.{two_some}
use Rattle.ps_program.proofs.AtLeastOne.SomeLaws.{Below}
use Rattle.ps_program.proofs.AtLeastOne.SomeStage.{game_of_some, game_text_some}
use Rattle.ps_program.proofs.AtLeastOne.SomeStep.{HasOnly, HasSome, ended_some, then_only, then_some}

-- ---- certificates

certifies_surely : (solver : SolverData) (named : NamedGameData) → MayCertify solver → IsGame named.game →
    HasSome (Certifies solver named)
certifies_surely solver named may is =
    let (certificate, certified, answered) = may named is in (Ok certificate, (certified, answered))

module _ (below : Below) where
  answered_game : (solver : SolverData) (compact : Bool) (named : NamedGameData) → MayCertify solver →
      IsGame named.game → HasSome (AnswersGame solver compact named)
  answered_game solver compact named may is = then_some (Certifies solver named) _
      (certifies_surely solver named may is) (λ certificate certifies. ended_some _)

  pub solve_some : (solver : SolverData) (compact : Bool) (text : List ℕ) → MayCertify solver →
      HasSome (AnswersSolve solver compact text)
  solve_some solver compact text may = then_some (ReadsGameText text) _ (game_text_some below text)
      (λ named reads. answered_game solver compact named may (below.game_sound text named reads).0)

  game_of_is : (order : Order) (text : List ℕ) → HasOnly (ReadsGameOf order text) (λ named. IsGame named.game)
  game_of_is order text = then_only (ReadsAutomaton text) (MakesGame order) (λ named. IsGame named.game)
      (λ file reads named is_game. below.file_game_sound order file named is_game)

  pub cert_some : (solver : SolverData) (order : Order) (compact : Bool) (text : List ℕ) → MayCertify solver →
      HasSome (AnswersCert solver order compact text)
  cert_some solver order compact text may = then_some (ReadsGameOf order text) _
      (game_of_some below order text)
      (λ named reads. answered_game solver compact named may (game_of_is order text named reads))

-- ---- the commands that use a solver which was fed a certificate's text

ids_each : (order : Order) (file : FileData) (game : NamedGameData) → IsGameOfFile order file game →
    length game.ids ≡ vertex_count game.game
ids_each order file game is =
    ap length is.are_named.ids ∙ length-range_with_len 0 (length is.keys) ∙ is.is_game.by_keys.count

module _ (below : Below) where
  certifies_fed : (solver : SolverData) (text : List ℕ) (named : NamedGameData) → MayReplay solver →
      length named.ids ≡ vertex_count named.game → HasSome (Certifies (once_fed text solver) named)
  certifies_fed solver text named may each = by (below.some_certificate named text)
    where
      wrong : (certificate : CertificateData) → ReadsCertificate named text (Ok certificate) →
          ¬ IsValid named.game certificate → HasSome (Certifies (once_fed text solver) named)
      wrong certificate reads bad = (
        Err _,
        (
          synth_fault.NotCertified,
          record {
            certificate = certificate;
            answered = may.replays text named (Ok certificate) reads;
            wrong = λ certified. bad certified.valid;
          },
          may.unsure,
          refl,
        ),
      )

      by : (answer : Result CertificateData (Found CertCause)) × ReadsCertificate named text answer →
          HasSome (Certifies (once_fed text solver) named)
      by (Ok certificate, reads) =
          let fitting = below.fitting named text certificate each reads in
          elim (below.valid_or named.game certificate fitting) [
            | inl valid ↦ (
              Ok certificate,
              (
                record { fits = fitting; valid = valid },
                may.replays text named (Ok certificate) reads,
              ),
            )
            | inr bad ↦ wrong certificate reads bad.0
          ]
      by (Err found, reads) = (
        Err _,
        (
          synth_fault.Certificate found.cause found.offset,
          may.replays text named (Err (solver_fault.Text found.cause found.offset)) reads,
          may.unsure,
          refl,
        ),
      )

-- ---- reports

-- each fault except `OutOfMemory` has a line that reports it
told_some : (fault : AutomatonFault) → fault ≢ automaton.OutOfMemory →
    (line : List ℕ) × (stage_line (synth_fault.Automaton fault) ≡ Some line)
told_some automaton.ComplementedSet known = (_, refl)
told_some automaton.NonParity known = (_, refl)
told_some (automaton.Nondeterministic state first second) known = (_, refl)
told_some automaton.OutOfMemory known = absurd (known refl)

-- a fault of the solver, for the game of an accepted text, is a fault of synthesis for this text
solver_faults : (solver : SolverData) (order : Order) (text : List ℕ) (file : FileData) (game : NamedGameData) →
    IsAcceptedText text file → IsGameOfFile order file game → (fault : SynthFault) (line : List ℕ) →
    IsSolverFault (answers_now solver) game fault → stage_line fault ≡ Some line →
    IsSynthFault (answers_now solver) order text fault
solver_faults solver order text file game accepted is_game (synth_fault.Text cause offset) line h told = absurd h
solver_faults solver order text file game accepted is_game (synth_fault.Automaton fault) line h told = absurd h
solver_faults solver order text file game accepted is_game (synth_fault.BadCycle ids) line h told =
    record { file = file; accepted = accepted; game = game; is_game = is_game; holds = h }
solver_faults solver order text file game accepted is_game (synth_fault.Certificate cause offset) line h told =
    record { file = file; accepted = accepted; game = game; is_game = is_game; holds = h }
solver_faults solver order text file game accepted is_game synth_fault.NotCertified line h told =
    record { file = file; accepted = accepted; game = game; is_game = is_game; holds = h }
solver_faults solver order text file game accepted is_game synth_fault.CircuitTooLarge line h told = absurd h
solver_faults solver order text file game accepted is_game synth_fault.OutOfMemory line h told = absurd (no_line told)

module _ (below : Below) where
  module _ (solver : SolverData) (asked : SynthLine) (text : List ℕ)
      (certified : (file : FileData) (game : NamedGameData) → IsGameOfFile asked.order file game →
      HasSome (Certifies solver game)) (printed : IsPrintedBy solver asked text) where
    abbrev SomeReport : Type 0
    SomeReport = HasSome (Synthesises solver asked.order text)

    module _ (file : FileData) (accepted : IsAcceptedText text file) (game : NamedGameData)
        (is_game : IsGameOfFile asked.order file game) where
      reported : (certificate : CertificateData) → IsCertified game certificate →
          answers_now solver game (Ok certificate) → (circuit : CircuitData) →
          IsWinnersCircuit asked.order file game is_game certificate circuit → SomeReport
      reported certificate is answered circuit winners = (
        Ok (record { game = game; certificate = certificate; circuit = circuit }),
        record {
          synthesis = record {
            file = file;
            accepted = accepted;
            is_game = is_game;
            answered = answered;
            certified = is;
            both_hold = below.held game.game certificate is.fits is.valid;
            none_wins_outside =
                below.none_outside game.game certificate (below.file_game_sound asked.order file game is_game)
                is.fits is.valid;
            answers = below.circuit_answers asked.order file game is_game certificate winners.machine circuit
                is.fits is.valid
                winners.winners.is_machine winners.winners.propositions winners.winners.machine_of winners.encodes;
          };
          circuit = winners;
        },
      )

      too_large : (certificate : CertificateData) → IsCertified game certificate →
          answers_now solver game (Ok certificate) → (m : Behaviour) →
          IsWinners asked.order file game is_game certificate m → IsOutOfLiterals m → SomeReport
      too_large certificate is answered m winners out = (
        Err _,
        (
          synth_fault.CircuitTooLarge,
          record {
            file = file;
            accepted = accepted;
            game = game;
            is_game = is_game;
            holds = record {
              certificate = certificate;
              answered = answered;
              certified = is;
              is_game = is_game;
              machine = m;
              winners = winners;
              out_of_literals = out;
            };
          },
          (λ of. absurd of),
          refl,
        ),
      )

      with_certificate : IsSoundFile file → HasSome (Certifies solver game) → SomeReport
      with_certificate is_sound (Ok certificate, (is, answered)) =
          elim (below.winners_circuit asked.order file game is_game certificate is_sound is) [
            | inl (m, winners, out) ↦ too_large certificate is answered m winners out
            | inr (circuit, winners) ↦ reported certificate is answered circuit winners
          ]
      with_certificate is_sound (Err line, (fault, h, unsure, told)) = (
        Err line,
        (
          fault,
          solver_faults solver asked.order text file game accepted is_game fault line h told,
          (λ of. unsure),
          told,
        ),
      )

    with_file : (answer : Result FileData (Found HoaCause)) → ReadsFile text answer → SomeReport
    with_file (Err found) reads =
        (Err _, (synth_fault.Text found.cause found.offset, reads, (λ of. absurd of), refl))
    with_file (Ok file) reads = elim (below.some_refusal file) [
      | inl admitted ↦
          let is_sound = below.file_sound text file reads in
          let (game, is_game) = below.file_game asked.order file is_sound admitted in
          with_certificate file (record { reads = reads; admitted = admitted }) game is_game is_sound
          (certified file game is_game)
      | inr (fault, known, refused) ↦
          let (line, told) = told_some fault known in (
            Err line,
            (
              synth_fault.Automaton fault,
              record {
                file = file;
                reads = reads;
                cause = known;
                refused = refused;
              },
              (λ of. absurd of),
              told,
            ),
          )
    ]

    report_some : HasSome (AnswersReport solver asked text)
    report_some = let (answer, reads) = below.some_file text in
        then_some (Synthesises solver asked.order text) _ (with_file answer reads)
        (λ s is. let p = is.synthesis in (
          Ok (synthesis_reply asked.full asked.compact s),
          (printed p.file s p.is_game p.accepted p.answered p.certified is.circuit, refl),
        ))

  pub synth_some : (solvers : Solvers) (asked : SynthLine) (texts : List ℕ) (cert : Bool) →
      MaySynthesise cert solvers asked texts → HasSome (AnswersBy cert solvers asked texts)
  synth_some solvers asked texts false may = report_some solvers.built_in asked texts
      (λ file game is_game. certifies_surely solvers.built_in game may.0
      (below.file_game_sound asked.order file game is_game)) may.1
  synth_some solvers asked texts true may = then_some (CutsInTwo texts) _ (two_some texts)
      (λ parts cut. report_some (once_fed parts.1 solvers.replay) asked parts.0
      (λ file game is_game. certifies_fed below solvers.replay parts.1 game may.0
      (ids_each asked.order file game is_game)) (may.1 parts.0 parts.1 cut))
