-- Any two answers to one input are equal, or agree as far as `Determined` requires.
use Rattle.std.proofs.Common.{rules, ◌≡◌, ◌⊎◌, ◌∙◌, ℕ, Bool, true, false, List, length, Result, Ok, Err, refl, sym, ap}
use Rattle.std.proofs.Common.{inl, inr, arith, subst}
use Rattle.ps_game.specs.Games.{ParityGame, NamedGameData}
use Rattle.ps_solver.specs.Solvers.{SolverData, answers_now, once_fed}
use Rattle.ps_pgsolver.specs.Written.{game_text}
use Rattle.ps_certificate.specs.Certificates.{CertificateData}
use Rattle.ps_circuit.specs.CauseNames as circuit_names
use Rattle.ps_circuit.specs.Causes as circuit
use Rattle.ps_circuit.specs.Texts as circuit_text
use Rattle.ps_machine.specs.declared.key.Order.{Order}
use Rattle.ps_simulate.specs.Faults as stimulus
use Rattle.ps_simulate.specs.declared.role.Role.{Role}
use Rattle.ps_simulate.specs.StimulusTexts as stimulus_text
use Rattle.ps_program.specs.declared.commands.Line.{Line}
use Rattle.ps_program.specs.declared.commands.Line.TheVariants as line
use Rattle.ps_program.specs.Commands.Checks.{Tests}
use Rattle.ps_program.specs.Commands.Comparing.{AnswersAgree}
use Rattle.ps_program.specs.CommandLine.{IsLine}
use Rattle.ps_program.specs.Cut.{first_line, behind_line}
use Rattle.ps_program.specs.Laws.Determined.{Agree, AgreeAsReports, AgreeInLoser, AgreeInWinners, AgreeOrFault, AsksFor}
use Rattle.ps_program.specs.Laws.Determined.{HasAutomaton, HasOneAnswer}
use Rattle.ps_program.specs.Laws.Determined.{IsFaultReply, IsUndetermined}
use Rattle.ps_program.specs.Commands.Games.{AnswersCert, AnswersGameText, ReadsGameOf}
use Rattle.ps_program.specs.Commands.Judging.{AnswersJudge, Judges, LosesCycle, ReadsSolved}
use Rattle.ps_program.specs.Commands.Lassos.{AnswersLasso}
use Rattle.ps_program.specs.Outcomes.{printed}
use Rattle.ps_program.specs.Program.{AnswersInput, AnswersLine}
use Rattle.ps_program.specs.Replies.{Reply, text_reply}
use Rattle.ps_program.specs.Commands.Shrinking.{AnswersShrink}
use Rattle.ps_program.specs.Commands.ShrinkingTlsf.{AnswersShrinkTlsf}
use Rattle.ps_program.specs.Commands.Simulating.{AnswersSim}
use Rattle.ps_program.specs.Finders.{Finders}
use Rattle.ps_program.specs.Solvers.{Solvers}
use Rattle.ps_program.specs.Commands.Solving.{AnswersGame, AnswersSolve}
use Rattle.ps_program.specs.Commands.Synthesis.{AnswersBy, AnswersReport}
use Rattle.ps_program.specs.Commands.Verifying.{AnswersVerify}
use Rattle.ps_program.specs.Commands.VerifyingTlsf.{AnswersVerifyTlsf}
use Rattle.ps_program.specs.Texts.{CutsInTwo, ReadsCertified, ReadsCircuitText, ReadsGameText, ReadsSimulated}
use Rattle.ps_program.specs.declared.commands.SynthLine.{SynthLine}
use Rattle.ps_program.proofs.AtMostOne.Agreeing.{OneCertificate, OneFile, OneFileGame, OneWinner, certificates_agree}
use Rattle.ps_program.proofs.AtMostOne.Agreeing.{syntheses-game, syntheses-winner}
use Rattle.ps_program.proofs.AtMostOne.TraceFromLetters.{traces_agree}
use Rattle.ps_program.proofs.AtMostOne.OneStep.{IsOne, then_one, then_one_or, ended_one, reading_one}
use Rattle.ps_program.proofs.AtMostOne.OneCut.{cut_one, cut_three_one}
use Rattle.ps_program.proofs.AtMostOne.OneStage.{OneGame, OneFlaw, OneCircuit, OneStimulus, OneRefusal, OneOutcome}
use Rattle.ps_program.proofs.AtMostOne.OneStage.{OneVerdict}
use Rattle.ps_program.proofs.AtMostOne.OneStage.{OneValues, automaton_one, makes_one, tells_one, game_accepted}
use Rattle.ps_program.proofs.AtMostOne.OneStage.{RefusedOr}
use Rattle.ps_program.proofs.AtMostOne.OneStage.{report_refused}
use Rattle.ps_program.proofs.AtMostOne.ShrinkDetermined.{shrink_one_or}
use Rattle.ps_program.proofs.AtMostOne.ShrinkTlsfDetermined.{shrink_tlsf_one_or}
use Rattle.ps_program.proofs.AtMostOne.SynthTlsfDetermined.{NotBothPlayers, synth_tlsf_one_or}
use Rattle.ps_program.proofs.AtMostOne.VerifyDetermined.{NotBoth, verify_one_or}
use Rattle.ps_program.proofs.AtMostOne.VerifyTlsfDetermined.{NotBothFor, verify_tlsf_one_or}
use Rattle.ps_program.proofs.AtMostOne.OneLine.{is_line_one}
use Rattle.ps_program.proofs.AtMostOne.OneSatisfaction.{OneWord, lasso_tlsf_one}
use Rattle.ps_program.proofs.AtMostOne.CompareDetermined.{agree_one_or}
use Rattle.ps_program.proofs.AtMostOne.TranslateDetermined.{translate_one_or}
use Rattle.ps_solver.proofs.CertificateThere.{NoCycle, NoFlaw}
use Rattle.ps_program.proofs.ByCommand.JudgeLemmas.{OneSolution, OneJudged, OneLoser, NoFlawAndCycle}
use Rattle.ps_program.proofs.ByCommand.JudgeLemmas.{judges_one_or}
use Rattle.ps_solution.specs.Solved.{SolutionData}

module _ (games : OneGame) (certificates : OneCertificate) (flaws : OneFlaw) (circuits : OneCircuit)
    (stimuli : OneStimulus) (files : OneFile) (refusals : OneRefusal) (outcomes : OneOutcome) (verdicts : OneVerdict)
    (words : OneWord) (values : OneValues) (file_games : OneFileGame) (winners : OneWinner) (solutions : OneSolution)
    (judged : OneJudged) (not_both : NotBoth) (not_both_for : NotBothFor) (not_both_players : NotBothPlayers)
    (apart : NoFlawAndCycle) (losers : OneLoser) (no_flaw : NoFlaw)
    (no_cycle : NoCycle) where
  certified_one : (texts : List ℕ) → IsOne (ReadsCertified texts)
  certified_one texts = then_one _ _ (cut_one texts) (λ parts. search (rules, then_one, reading_one, ended_one))

  tests_one : (IsGood : ParityGame → CertificateData → Type 0) (word : List ℕ) (named : NamedGameData)
      (given : CertificateData) → IsOne (Tests IsGood word named given)
  tests_one h1 word named given h5 h6 h k = grind arith

  solved_one : (texts : List ℕ) → IsOne (ReadsSolved texts)
  solved_one texts = then_one _ _ (cut_one texts) (λ parts. search (rules, then_one, reading_one, ended_one))

  simulated_one : (texts : List ℕ) → IsOne (ReadsSimulated texts)
  simulated_one texts = then_one _ _ (cut_one texts) (λ parts. search (rules, then_one, reading_one, ended_one))

  sim_one : (texts : List ℕ) → IsOne (AnswersSim texts)
  sim_one texts = then_one _ _ (simulated_one texts) (λ both x y h k.
      grind (arith, traces_agree both.0 h.0 (values both.0 h.0) both.1.stem h.1.0 k.1.0 h.1.1 k.1.1))

  lasso_one : (role : Role) (texts : List ℕ) → IsOne (AnswersLasso role texts)
  lasso_one role texts =
      then_one _ _ (cut_three_one texts) (λ parts. then_one _ _ (automaton_one files refusals outcomes parts.0)
      (λ file. then_one _ _ (reading_one circuit.cause_number circuit_names.cause_name
      (circuit_text.ReadsCircuit parts.1) (circuits parts.1))
      (λ c. then_one _ _ (reading_one stimulus.cause_number stimulus.cause_name
      (stimulus_text.ReadsStimulus parts.2 (length c.inputs) true) (stimuli parts.2 (length c.inputs) true))
      (tells_one verdicts role file c))))

  game_of_one : (order : Order) (text : List ℕ) → IsOne (ReadsGameOf order text)
  game_of_one order text = then_one _ _ (automaton_one files refusals outcomes text) (makes_one file_games order)

  game_one : (order : Order) (text : List ℕ) → IsOne (AnswersGameText order text)
  game_one order text = then_one _ _ (game_of_one order text) (λ game. ended_one (Ok (text_reply (game_text game))))

  -- ---- answers that depend on which certificate a solver chooses

  -- two possible results x and y of a command are alike if x or y is a fault, or if the printed texts of x and y agree
  -- as the relation `agree` requires
  abbrev Alike : (Reply → Reply → Type 0) → Result Reply (List ℕ) → Result Reply (List ℕ) → Type 0
  Alike agree x y = IsFaultReply (printed x) ⊎ IsFaultReply (printed y) ⊎ agree (printed x) (printed y)

  fault_is : (x : Result Reply (List ℕ)) (l : List ℕ) → x ≡ Err l → IsFaultReply (printed x)
  fault_is x l e = (l, ap printed e)

  alike_as : {P Q : Reply → Reply → Type 0} (x y : Result Reply (List ℕ)) → ((a b : Reply) → P a b → Q a b) →
      Alike P x y → Alike Q x y
  alike_as x y more (inl fault) = inl fault
  alike_as x y more (inr (inl fault)) = inr (inl fault)
  alike_as x y more (inr (inr agree)) = inr (inr (more (printed x) (printed y) agree))

  games_alike : (solver : SolverData) (compact : Bool) (named : NamedGameData) (x y : Result Reply (List ℕ)) →
      AnswersGame solver compact named x → AnswersGame solver compact named y → Alike (AgreeInWinners compact named) x y
  games_alike solver compact named x y (inl (l, s, e)) k = inl (fault_is x l e)
  games_alike solver compact named x y (inr (c, s, e)) (inl (m, t, f)) = inr (inl (fault_is y m f))
  games_alike solver compact named x y (inr (c, s, e)) (inr (d, t, f)) = inr (inr (certificates_agree
      files file_games winners compact named c d (printed x) (printed y) s.0 t.0 (ap printed e) (ap printed f)))

  -- two results of a command are equal, or the command allows several answers, and the two agree
  abbrev OneOr : Line → List ℕ → Result Reply (List ℕ) → Result Reply (List ℕ) → Type 0
  OneOr command texts x y =
      (x ≡ y) ⊎ (IsUndetermined command texts × Agree command texts (printed x) (printed y))

  one_or_agree : (command : Line) (texts : List ℕ) (x y : Result Reply (List ℕ)) →
      (Agree command texts (printed x) (printed y) → IsUndetermined command texts) →
      (x ≡ y) ⊎ Agree command texts (printed x) (printed y) → OneOr command texts x y
  one_or_agree command texts x y several (inl same) = inl same
  one_or_agree command texts x y several (inr agree) = inr (several agree, agree)

  judge_one_or : (compact : Bool) (texts : List ℕ) (x y : Result Reply (List ℕ)) → AnswersJudge compact texts x →
      AnswersJudge compact texts y → OneOr (line.Judge compact) texts x y
  judge_one_or compact texts x y h k =
      by (then_one_or (ReadsSolved texts) (λ both. Judges compact both.0 both.1)
      (λ both. LosesCycle both.0 both.1 × AgreeInLoser both.0 both.1 (printed x) (printed y)) (solved_one texts) x y
      (λ both n m. judges_one_or flaws judged apart losers no_flaw no_cycle both.0 both.1 compact x y n m) h k)
    where
      by : (x ≡ y) ⊎ ((both : NamedGameData × SolutionData) × ReadsSolved texts (Ok both) ×
          (LosesCycle both.0 both.1 × AgreeInLoser both.0 both.1 (printed x) (printed y))) →
          OneOr (line.Judge compact) texts x y
      by (inl same) = inl same
      by (inr (both, reads, (lost, agree))) = inr ((both.0, both.1, reads, lost), (both.0, both.1, reads, agree))

  circuit_one : (text : List ℕ) → IsOne (ReadsCircuitText text)
  circuit_one text = reading_one circuit.cause_number circuit_names.cause_name (circuit_text.ReadsCircuit text)
      (circuits text)

  verify_or_one : (order : Order) (role : Role) (texts : List ℕ) (x y : Result Reply (List ℕ)) →
      AnswersVerify order role texts x → AnswersVerify order role texts y →
      OneOr (line.Verify order role) texts x y
  verify_or_one order role texts x y h k =
      one_or_agree (line.Verify order role) texts x y several
      (verify_one_or (automaton_one files refusals outcomes) circuit_one not_both order role x y texts h k)
    where
      several : Agree (line.Verify order role) texts (printed x) (printed y) →
          IsUndetermined (line.Verify order role) texts
      several (file, c, reads, agree) = (file, c, reads, (agree.one, agree.one_loses))

  verify_tlsf_or_one : (role : Role) (texts : List ℕ) (x y : Result Reply (List ℕ)) → AnswersVerifyTlsf role texts x →
      AnswersVerifyTlsf role texts y →
      OneOr (line.VerifyTlsf role) texts x y
  verify_tlsf_or_one role texts x y h k =
      one_or_agree (line.VerifyTlsf role) texts x y several
      (verify_tlsf_one_or circuit_one not_both_for role x y texts h k)
    where
      several : Agree (line.VerifyTlsf role) texts (printed x) (printed y) → IsUndetermined (line.VerifyTlsf role) texts
      several (spec, c, reads, agree) = (spec, c, reads, (agree.one, agree.one_loses))

  agree_or_one : (texts : List ℕ) (x y : Result Reply (List ℕ)) → AnswersAgree texts x → AnswersAgree texts y →
      OneOr line.Agree texts x y
  agree_or_one texts x y h k =
      one_or_agree line.Agree texts x y several (agree_one_or (automaton_one files refusals outcomes) x y texts h k)
    where
      several : Agree line.Agree texts (printed x) (printed y) → IsUndetermined line.Agree texts
      several (spec, file, reads, agree) = (spec, file, reads, (agree.one, agree.one_differs))

  shrink_or_one : (order : Order) (role : Role) (texts : List ℕ) (x y : Result Reply (List ℕ)) →
      AnswersShrink order role texts x → AnswersShrink order role texts y →
      OneOr (line.Shrink order role) texts x y
  shrink_or_one order role texts x y h k =
      one_or_agree (line.Shrink order role) texts x y several
      (shrink_one_or (automaton_one files refusals outcomes) circuit_one not_both order role x y texts h k)
    where
      several : Agree (line.Shrink order role) texts (printed x) (printed y) →
          IsUndetermined (line.Shrink order role) texts
      several (file, c, reads, inl small) = (file, c, reads, inl small.wins)
      several (file, c, reads, inr agree) = (file, c, reads, inr (agree.one, agree.one_loses))

  shrink_tlsf_or_one : (role : Role) (texts : List ℕ) (x y : Result Reply (List ℕ)) → AnswersShrinkTlsf role texts x →
      AnswersShrinkTlsf role texts y →
      OneOr (line.ShrinkTlsf role) texts x y
  shrink_tlsf_or_one role texts x y h k =
      one_or_agree (line.ShrinkTlsf role) texts x y several
      (shrink_tlsf_one_or circuit_one not_both_for role x y texts h k)
    where
      several : Agree (line.ShrinkTlsf role) texts (printed x) (printed y) → IsUndetermined (line.ShrinkTlsf role) texts
      several (spec, c, reads, inl small) = (spec, c, reads, inl small.wins)
      several (spec, c, reads, inr agree) = (spec, c, reads, inr (agree.one, agree.one_loses))

  solve_one_or : (solver : SolverData) (compact : Bool) (text : List ℕ) (x y : Result Reply (List ℕ)) →
      AnswersSolve solver compact text x → AnswersSolve solver compact text y
      → (x ≡ y) ⊎ (IsUndetermined (line.Solve compact) text × Alike (Agree (line.Solve compact) text) x y)
  solve_one_or solver compact text x y h k =
      by (then_one_or (ReadsGameText text) (AnswersGame solver compact) (λ v. Alike (AgreeInWinners compact v) x y)
      (search (rules, reading_one)) x y (λ v n m. inr (games_alike solver compact v x y n m)) h k)
    where
      by : (x ≡ y) ⊎ ((v : NamedGameData) × ReadsGameText text (Ok v) × Alike (AgreeInWinners compact v) x y) →
          (x ≡ y) ⊎ (IsUndetermined (line.Solve compact) text × Alike (Agree (line.Solve compact) text) x y)
      by (inl same) = inl same
      by (inr (v, reads, alike)) = inr (
        (v, reads),
        alike_as {P = AgreeInWinners compact v}
            {Q = Agree (line.Solve compact) text} x y (λ a b agree. (v, reads, agree)) alike,
      )

  cert_one_or : (solver : SolverData) (order : Order) (compact : Bool) (text : List ℕ) (x y : Result Reply (List ℕ)) →
      AnswersCert solver order compact text x → AnswersCert solver order compact text y
      → (x ≡ y) ⊎ (IsUndetermined (line.Cert order compact) text × Alike (Agree (line.Cert order compact) text) x y)
  cert_one_or solver order compact text x y h k =
      by (then_one_or (ReadsGameOf order text) (AnswersGame solver compact) (λ v. Alike (AgreeInWinners compact v) x y)
      (game_of_one order text) x y (λ v n m. inr (games_alike solver compact v x y n m)) h k)
    where
      by : (x ≡ y) ⊎ ((v : NamedGameData) × ReadsGameOf order text (Ok v) × Alike (AgreeInWinners compact v) x y) →
          (x ≡ y) ⊎ (IsUndetermined (line.Cert order compact) text × Alike (Agree (line.Cert order compact) text) x y)
      by (inl same) = inl same
      by (inr (v, reads, alike)) =
          inr (
            game_accepted order text v reads,
            alike_as {P = AgreeInWinners compact v}
                {Q = Agree (line.Cert order compact) text} x y (λ a b agree. (v, reads, agree)) alike,
          )

  reports_alike : (solver : SolverData) (asked : SynthLine) (text : List ℕ) (x y : Result Reply (List ℕ)) →
      AnswersReport solver asked text x → AnswersReport solver asked text y →
      Alike (AgreeAsReports asked.order asked.full asked.compact text) x y
  reports_alike solver asked text x y (inl (l, s, e)) k = inl (fault_is x l e)
  reports_alike solver asked text x y (inr (s, is, (again, e))) (inl (m, t, f)) = inr (inl (fault_is y m f))
  reports_alike solver asked text x y (inr (s, is, (again, e))) (inr (t, is', (again', f))) =
      let May = answers_now solver in
      inr (inr (record {
        file = is.synthesis.file;
        accepted = is.synthesis.accepted;
        one = s;
        other = t;
        is_game = is.synthesis.is_game;
        game = syntheses-game files file_games winners May asked.order text s t is.synthesis is'.synthesis;
        winner = syntheses-winner files file_games winners May asked.order text s t is.synthesis is'.synthesis;
        is_one = ap printed e;
        is_other = ap printed f;
      }))

  report_one_or : (solver : SolverData) (asked : SynthLine) (text : List ℕ) (x y : Result Reply (List ℕ)) →
      AnswersReport solver asked text x → AnswersReport solver asked text y
      → (x ≡ y) ⊎ (HasAutomaton text × Alike (AgreeAsReports asked.order asked.full asked.compact text) x y)
  report_one_or solver asked text x y h k = search (rules, by, report_refused)
    where
      by : RefusedOr text x → RefusedOr text y →
          (x ≡ y) ⊎ (HasAutomaton text × Alike (AgreeAsReports asked.order asked.full asked.compact text) x y)
      by (inr choice) other = inr (choice, reports_alike solver asked text x y h k)
      by (inl refused) (inr choice) = inr (choice, reports_alike solver asked text x y h k)
      by (inl (l, reads, e)) (inl (m, reads', e')) =
          grind (arith, automaton_one files refusals outcomes text (Err l) (Err m) reads reads')

  -- two answers to `synth` print reports for the same automaton's text that have the same winner and the same game
  abbrev ReportsAgree : (cert : Bool) → SynthLine → List ℕ → Reply → Reply → Type 0
  ReportsAgree cert asked texts a b =
      (text : List ℕ) × AsksFor cert texts text × AgreeAsReports asked.order asked.full asked.compact text a b

  abbrev AskedAlike : (cert : Bool) → SynthLine → List ℕ → Result Reply (List ℕ) → Result Reply (List ℕ) → Type 0
  AskedAlike cert asked texts x y = ((text : List ℕ) × AsksFor cert texts text × HasAutomaton text)
      × Alike (ReportsAgree cert asked texts) x y

  synth_one_or : (solvers : Solvers) (asked : SynthLine) (texts : List ℕ) (cert : Bool) (x y : Result Reply (List ℕ)) →
      AnswersBy cert solvers asked texts x → AnswersBy cert solvers asked texts y →
      (x ≡ y) ⊎ AskedAlike cert asked texts x y
  synth_one_or solvers asked texts false x y h k = by (report_one_or solvers.built_in asked texts x y h k)
    where
      by : (x ≡ y) ⊎ (HasAutomaton texts × Alike (AgreeAsReports asked.order asked.full asked.compact texts) x y) →
          (x ≡ y) ⊎ AskedAlike false asked texts x y
      by (inl same) = inl same
      by (inr (choice, alike)) =
          inr (
            (texts, refl, choice),
            alike_as {P = AgreeAsReports asked.order asked.full asked.compact texts}
                {Q = ReportsAgree false asked texts} x y (λ a b agree. (texts, refl, agree)) alike,
          )
  synth_one_or solvers asked texts true x y h k =
      by (then_one_or (CutsInTwo texts)
      (λ (parts : List ℕ × List ℕ). AnswersReport (once_fed parts.1 solvers.replay) asked
      parts.0) (λ (parts : List ℕ × List ℕ). HasAutomaton parts.0 × Alike (AgreeAsReports asked.order asked.full
      asked.compact parts.0) x y) (cut_one texts) x y
      (λ parts n m. report_one_or (once_fed parts.1 solvers.replay) asked parts.0 x y n m) h k)
    where
      by : (x ≡ y) ⊎ ((parts : List ℕ × List ℕ) × CutsInTwo texts (Ok parts) ×
          (HasAutomaton parts.0 × Alike (AgreeAsReports asked.order asked.full asked.compact parts.0) x y)) →
          (x ≡ y) ⊎ AskedAlike true asked texts x y
      by (inl same) = inl same
      by (inr (parts, cuts, (choice, alike))) = inr (
        (parts.0, (parts.1, cuts), choice),
        alike_as {P = AgreeAsReports asked.order asked.full asked.compact parts.0} {Q = ReportsAgree true asked texts} x
            y
            (λ a b agree. (parts.0, (parts.1, cuts), agree)) alike,
      )

  -- any two results of a command line are equal, or the command allows several results; in the second case, the two
  -- agree as `AgreeOrFault` states
  line_one : (finders : Finders) (l : Line) (texts : List ℕ) (x y : Result Reply (List ℕ)) →
      AnswersLine finders l texts x → AnswersLine finders l texts y →
      (x ≡ y) ⊎ (IsUndetermined l texts × AgreeOrFault l texts (printed x) (printed y))
  line_one finders line.Refused texts x y h k = inl (ended_one _ x y h k)
  line_one finders line.Help texts x y h k = inl (ended_one _ x y h k)
  line_one finders line.Closed texts x y h k = inl (search (rules, then_one, certified_one, tests_one))
  line_one finders line.Check texts x y h k = inl (search (rules, then_one, certified_one, tests_one))
  line_one finders (line.Judge compact) texts x y h k = judge_one_or compact texts x y h k
  line_one finders line.Sim texts x y h k = inl (sim_one texts x y h k)
  line_one finders (line.Lasso role) texts x y h k = inl (lasso_one role texts x y h k)
  line_one finders (line.LassoTlsf role) texts x y h k = inl (lasso_tlsf_one circuits stimuli words role texts x y h k)
  line_one finders (line.Verify order role) texts x y h k = verify_or_one order role texts x y h k
  line_one finders (line.VerifyTlsf role) texts x y h k = verify_tlsf_or_one role texts x y h k
  line_one finders (line.Shrink order role) texts x y h k = shrink_or_one order role texts x y h k
  line_one finders (line.ShrinkTlsf role) texts x y h k = shrink_tlsf_or_one role texts x y h k
  line_one finders line.Agree texts x y h k = agree_or_one texts x y h k
  line_one finders line.Translate text x y h k = translate_one_or finders.translator text x y h k
  line_one finders (line.Solve compact) texts x y h k = solve_one_or finders.solvers.built_in compact texts x y h k
  line_one finders (line.Game order) texts x y h k = inl (game_one order texts x y h k)
  line_one finders (line.Cert order compact) texts x y h k =
      cert_one_or finders.solvers.built_in order compact texts x y h k
  line_one finders (line.Synth asked) texts x y h k = synth_one_or finders.solvers asked texts asked.cert x y h k
  line_one finders line.SynthTlsf text x y h k =
      synth_tlsf_one_or not_both_players text finders.proposer x y h k

  answers_one : (finders : Finders) (input : List ℕ) (a b : Reply) → AnswersInput finders input a →
      AnswersInput finders input b → (a ≡ b) ⊎
      ((l : Line) × IsLine (first_line input) l × IsUndetermined l (behind_line input) ×
      AgreeOrFault l (behind_line input) a b)
  answers_one finders input a b (l, is_line, (outcome, answers, e)) (l', is_line', (outcome', answers', e')) =
      by (grind (arith, line_one, same))
    where
      same : l ≡ l'
      same = is_line_one (first_line input) l l' is_line is_line'

      printed_so : AgreeOrFault l (behind_line input) (printed outcome) (printed outcome') →
          AgreeOrFault l (behind_line input) a b
      printed_so alike = subst (λ r. AgreeOrFault l (behind_line input) r b) (sym e)
          (subst (λ r. AgreeOrFault l (behind_line input) (printed outcome) r) (sym e') alike)

      by : (outcome ≡ outcome') ⊎
          (IsUndetermined l (behind_line input) ×
          AgreeOrFault l (behind_line input) (printed outcome) (printed outcome'))
          →
          (a ≡ b) ⊎ ((k : Line) × IsLine (first_line input) k × IsUndetermined k (behind_line input) ×
          AgreeOrFault k (behind_line input) a b)
      by (inl one) = inl (e ∙ ap printed one ∙ sym e')
      by (inr (choice, alike)) = inr (l, is_line, choice, printed_so alike)

  pub whole_one : (finders : Finders) → HasOneAnswer finders
  whole_one finders input a b (inl (long, e)) (inl (long', e')) = inl (e ∙ sym e')
  whole_one finders input a b (inl (long, e)) (inr (short, h)) = absurd (omega (arith, long, short))
  whole_one finders input a b (inr (short, h)) (inl (long, e)) = absurd (omega (arith, long, short))
  whole_one finders input a b (inr (short, h)) (inr (short', k)) = answers_one finders input a b h k
