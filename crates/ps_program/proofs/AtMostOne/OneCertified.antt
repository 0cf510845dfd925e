-- Given a certificate in the input, `synth` has one answer: the automaton's file, its game and the certificate
-- determine the report, or the line that reports the fault.
use Rattle.std.proofs.Common.{rules, ◌≡◌, ◌⊎◌, ◌∙◌, ℕ, Bool, true, List, Option, None, Some, Result, Ok, Err, refl}
use Rattle.std.proofs.Common.{sym, ap, subst, inl, inr, arith}
use Rattle.ps_text.specs.Answers.{Found}
use Rattle.ps_aiger.specs.Wires.{IsOutOfLiterals}
use Rattle.ps_certificate.specs.Certificates.{CertificateData}
use Rattle.ps_certificate.specs.Texts.{ReadsCertificate}
use Rattle.ps_certificate.specs.declared.fault.CertCause.{CertCause}
use Rattle.ps_circuit.specs.Circuits.{CircuitData}
use Rattle.ps_game.specs.Games.{NamedGameData}
use Rattle.ps_hoa.specs.Files.{FileData}
use Rattle.ps_machine.specs.Behaviours.{Behaviour}
use Rattle.ps_machine.specs.FileGames.{IsGameOfFile}
use Rattle.ps_solver.specs.Solvers.{SolverData, answers_now, once_fed}
use Rattle.ps_solver.specs.Solving.{IsCertified, Replays}
use Rattle.ps_solver.specs.declared.fault.SolveFault.{SolveFault}
use Rattle.ps_solver.specs.declared.fault.SolveFault.TheVariants as solver_fault
use Rattle.ps_machine.specs.declared.key.Order.{Order}
use Rattle.ps_synthesis.specs.Promises.{IsAcceptedText, SynthesisData}
use Rattle.ps_synthesis.specs.Reports.{IsWinners, IsWinnersCircuit, IsWinnersSynthesis}
use Rattle.ps_synthesis.specs.SynthFaults.{IsSynthFault, cycle_of}
use Rattle.ps_synthesis.specs.declared.fault.SynthFault.{SynthFault}
use Rattle.ps_synthesis.specs.declared.fault.SynthFault.TheVariants as stage
use Rattle.ps_program.specs.Automata.{ReadsAutomaton}
use Rattle.ps_program.specs.CommandLine.{IsLine}
use Rattle.ps_program.specs.Cut.{behind_line, first_line}
use Rattle.ps_program.specs.Laws.Determined.{IsReplaying}
use Rattle.ps_program.specs.Outcomes.{printed}
use Rattle.ps_program.specs.Program.{AnswersInput, AnswersWhole}
use Rattle.ps_program.specs.Replies.{Reply}
use Rattle.ps_program.specs.Finders.{Finders}
use Rattle.ps_program.specs.StageFaults.{stage_line}
use Rattle.ps_program.specs.Commands.Synthesis.{AnswersBy, AnswersReport, AnswersSynth, synthesis_reply}
use Rattle.ps_program.specs.Texts.{CutsInTwo}
use Rattle.ps_program.specs.declared.commands.Line.TheVariants as line
use Rattle.ps_program.specs.declared.commands.SynthLine.{SynthLine}
use Rattle.ps_program.proofs.AtMostOne.Agreeing.{OneCertificate, OneFile, OneFileGame, ok_same}
use Rattle.ps_program.proofs.ByCommand.AutomatonLemmas.{no_line, text_refused}
use Rattle.ps_program.proofs.AtMostOne.OneCut.{cut_one}
use Rattle.ps_program.proofs.AtMostOne.OneLine.{is_line_one}
use Rattle.ps_program.proofs.AtMostOne.OneStage.{OneOutcome, OneRefusal, automaton_one}
use Rattle.ps_program.proofs.AtMostOne.OneStep.{IsOne, ok_is_not_err, then_one}

-- the law that a certificate gives the winner at most one circuit
abbrev pub OneWinnersCircuit : Type 0
OneWinnersCircuit =
    (order : Order) (file : FileData) (game : NamedGameData) (first second : IsGameOfFile order file game)
    (certificate : CertificateData) (c d : CircuitData) → IsWinnersCircuit order file game first certificate c →
    IsWinnersCircuit order file game second certificate d → c ≡ d

abbrev pub CircuitOrNone : Type 0
CircuitOrNone = (order : Order) (file : FileData) (game : NamedGameData) (first second : IsGameOfFile order file game)
    (certificate : CertificateData) (c : CircuitData) (m : Behaviour) →
    IsWinnersCircuit order file game first certificate c →
    IsWinners order file game second certificate m → ¬ IsOutOfLiterals m

-- ---- lines

-- the result is the line that reports this fault
abbrev IsLineOf : SynthFault → Result Reply (List ℕ) → Type 0
IsLineOf fault x = (line : List ℕ) × (stage_line fault ≡ Some line) × (x ≡ Err line)

line_or : Option (List ℕ) → List ℕ → List ℕ
line_or None other = other
line_or (Some line) other = line

lines_one : (fault : SynthFault) (x y : Result Reply (List ℕ)) → IsLineOf fault x → IsLineOf fault y → x ≡ y
unfolding line_or
lines_one fault x y (l, told, e) (m, told', e') = grind arith

-- ---- what determines the answer of `synth`

module _ (order : Order) (compact full : Bool) where
  record Reported (file : FileData) (game : NamedGameData) (c : CertificateData) (x : Result Reply (List ℕ)) : Type 0
    where
      is_game : IsGameOfFile order file game
      circuit : CircuitData
      is_circuit : IsWinnersCircuit order file game is_game c circuit
      is_reply : x ≡ Ok (synthesis_reply full compact (record { game = game; certificate = c; circuit = circuit }))

  record Above (file : FileData) (game : NamedGameData) (c : CertificateData) (x : Result Reply (List ℕ)) : Type 0 where
    is_game : IsGameOfFile order file game
    machine : Behaviour
    winners : IsWinners order file game is_game c machine
    above : IsOutOfLiterals machine
    line : IsLineOf stage.CircuitTooLarge x

  -- what `synth` answers, if parsing the certificate's text gave this certificate or this error
  abbrev Tells : FileData → NamedGameData → Result Reply (List ℕ) → Result CertificateData (Found CertCause) → Type 0
  Tells file game x (Ok c) = ((IsCertified game c → ⊥) × IsLineOf stage.NotCertified x)
      ⊎ (IsCertified game c × (Above file game c x ⊎ Reported file game c x))
  Tells file game x (Err found) = IsLineOf (stage.Certificate found.cause found.offset) x

  record GoesBy (text : List ℕ) (fed : Option (List ℕ)) (x : Result Reply (List ℕ)) : Type 0 where
    file : FileData
    accepted : IsAcceptedText text file
    game : NamedGameData
    is_game : IsGameOfFile order file game
    certificate : List ℕ
    is_fed : fed ≡ Some certificate
    answer : Result CertificateData (Found CertCause)
    reads : ReadsCertificate game certificate answer
    tells : Tells file game x answer

  module _ (circuits : OneWinnersCircuit) (apart : CircuitOrNone) where
    reports_one : (file : FileData) (game : NamedGameData) (c : CertificateData) (x y : Result Reply (List ℕ)) →
        Reported file game c x → Reported file game c y → x ≡ y
    reports_one file game c x y a b =
        let circuit = circuits order file game a.is_game b.is_game c a.circuit b.circuit a.is_circuit b.is_circuit in
        a.is_reply ∙ ap (λ (d : CircuitData). Ok (synthesis_reply full compact
        (record { game = game; certificate = c; circuit = d }))) circuit ∙ sym b.is_reply

    tells_one : (file : FileData) (game : NamedGameData) (x y : Result Reply (List ℕ))
        (answer : Result CertificateData (Found CertCause)) →
        Tells file game x answer → Tells file game y answer → x ≡ y
    tells_one file game x y (Err found) a b = lines_one (stage.Certificate found.cause found.offset) x y a b
    tells_one file game x y (Ok c) (inl a) (inl b) = lines_one stage.NotCertified x y a.1 b.1
    tells_one file game x y (Ok c) (inl a) (inr b) = absurd (a.0 b.0)
    tells_one file game x y (Ok c) (inr a) (inl b) = absurd (b.0 a.0)
    tells_one file game x y (Ok c) (inr (h, inl a)) (inr (k, inl b)) = lines_one stage.CircuitTooLarge x y a.line b.line
    tells_one file game x y (Ok c) (inr (h, inl a)) (inr (k, inr b)) = search rules
    tells_one file game x y (Ok c) (inr (h, inr a)) (inr (k, inl b)) = search rules
    tells_one file game x y (Ok c) (inr (h, inr a)) (inr (k, inr b)) = reports_one file game c x y a b

    goes_one : OneFile → OneFileGame → OneCertificate → (text : List ℕ) (fed : Option (List ℕ))
        (x y : Result Reply (List ℕ)) →
        GoesBy text fed x → GoesBy text fed y → x ≡ y
    unfolding line_or
    goes_one files games certificates text fed x y a b =
        let file = ok_same a.file b.file (files text (Ok a.file) (Ok b.file) a.accepted.reads b.accepted.reads) in
        let game =
        games order b.file a.game b.game (subst (λ f. IsGameOfFile order f a.game) file a.is_game) b.is_game in
        let certificate : a.certificate ≡ b.certificate = ap (λ o. line_or o a.certificate) (sym a.is_fed ∙ b.is_fed) in
        let reads : ReadsCertificate b.game b.certificate a.answer =
        subst (λ g. ReadsCertificate g b.certificate a.answer) game
        (subst (λ t. ReadsCertificate a.game t a.answer) certificate a.reads) in
        let answer = certificates b.game b.certificate a.answer b.answer reads b.reads in
        tells_one b.file b.game x y b.answer (subst (Tells b.file b.game x) answer
        (subst (λ g. Tells b.file g x a.answer) game (subst (λ f. Tells f a.game x a.answer) file a.tells))) b.tells

-- ---- the answers

-- the possible answers of a solver that only parses the certificate that it was fed
record Replayed (game : NamedGameData) (fed : Option (List ℕ))
    (answer : Result CertificateData (Found CertCause)) : Type 0 where
  certificate : List ℕ
  is_fed : fed ≡ Some certificate
  reads : ReadsCertificate game certificate answer

replayed : (game : NamedGameData) (fed : Option (List ℕ)) (c : CertificateData) → Replays game fed (Ok c) →
    Replayed game fed (Ok c)
replayed game fed c h = search rules

replayed_fault : (game : NamedGameData) (fed : Option (List ℕ)) (cause : CertCause) (offset : ℕ) →
    Replays game fed (Err (solver_fault.Text cause offset)) →
    Replayed game fed (Err (record { cause = cause; offset = offset }))
replayed_fault game fed cause offset h = search rules

abbrev IsCycle : SolveFault → Type 0
IsCycle (solver_fault.BadCycle cycle) = Unit {0}
IsCycle fault = ⊥

is_cycle : (fault : SolveFault) (cycle : List ℕ) → cycle_of fault ≡ Some cycle → IsCycle fault
is_cycle (solver_fault.BadCycle vertices) cycle e = tt
is_cycle (solver_fault.Text cause offset) cycle e = cc
is_cycle solver_fault.OutOfMemory cycle e = cc

never_lost : (game : NamedGameData) (fed : Option (List ℕ)) (fault : SolveFault) → IsCycle fault →
    Replays game fed (Err fault) → ⊥
never_lost game fed fault is h = grind arith

module _ (solver : SolverData) (replaying : IsReplaying solver) (asked : SynthLine) (text : List ℕ) where
  -- the text of the automaton is refused and the result is the line that reports its fault, or the certificate
  -- determines the result
  abbrev Told : Result Reply (List ℕ) → Type 0
  Told x =
      ((line : List ℕ) × ReadsAutomaton text (Err line) × (x ≡ Err line)) ⊎
      GoesBy asked.order asked.compact asked.full text solver.fed x

  certified : (file : FileData) (game : NamedGameData) (c : CertificateData) (x : Result Reply (List ℕ)) →
      IsAcceptedText text file → IsGameOfFile asked.order file game →
      answers_now solver game (Ok c) → Tells asked.order asked.compact asked.full file game x (Ok c) → Told x
  certified file game c x accepted is_game answered tells = grind (arith, replayed game solver.fed c (grind arith))

  told_fault : (fault : SynthFault) (line : List ℕ) (x : Result Reply (List ℕ)) →
      IsSynthFault (answers_now solver) asked.order text fault → stage_line fault ≡ Some line → x ≡ Err line → Told x
  told_fault (stage.Text cause offset) line x h told e =
      inl (line, text_refused text (stage.Text cause offset) line h told, e)
  told_fault (stage.Automaton fault) line x h told e =
      inl (line, text_refused text (stage.Automaton fault) line h told, e)
  told_fault (stage.BadCycle ids) line x h told e =
      absurd (never_lost h.game solver.fed h.holds.fault (is_cycle h.holds.fault h.holds.cycle h.holds.told)
      (replaying solver.fed h.game (Err h.holds.fault) h.holds.answered))
  told_fault (stage.Certificate cause offset) line x h told e = search (rules, replayed_fault, told)
  told_fault stage.NotCertified line x h told e = certified h.file h.game h.holds.certificate x h.accepted h.is_game
      h.holds.answered (inl (h.holds.wrong, (line, told, e)))
  told_fault stage.CircuitTooLarge line x h told e =
      certified h.file h.game h.holds.certificate x h.accepted h.is_game h.holds.answered (inr (
        h.holds.certified,
        inl (search (rules, told)),
      ))
  told_fault stage.OutOfMemory line x h told e = absurd (no_line told)

  told_synthesis : (s : SynthesisData) (x : Result Reply (List ℕ)) →
      IsWinnersSynthesis (answers_now solver) asked.order text s →
      x ≡ Ok (synthesis_reply asked.full asked.compact s) → Told x
  told_synthesis s x is e =
      let p = is.synthesis in
      certified p.file s.game s.certificate x p.accepted p.is_game p.answered (inr (
        p.certified,
        inr (record {
          is_game = p.is_game;
          circuit = s.circuit;
          is_circuit = is.circuit;
          is_reply = e;
        }),
      ))

  told : (x : Result Reply (List ℕ)) → AnswersReport solver asked text x → Told x
  told x (inl (line, (fault, cause, lies, is_line), e)) = told_fault fault line x cause is_line e
  told x (inr (s, is, (again, e))) = told_synthesis s x is e

pub report_one : OneFile → OneRefusal → OneOutcome → OneFileGame → OneCertificate → OneWinnersCircuit → CircuitOrNone →
    (solver : SolverData) → IsReplaying solver → (asked : SynthLine) (text : List ℕ) →
    IsOne (AnswersReport solver asked text)
report_one files refusals outcomes games certificates circuits apart solver replaying asked text x y h k =
    by (told solver replaying asked text x h) (told solver replaying asked text y k)
  where
    lines : IsOne (ReadsAutomaton text)
    lines = automaton_one files refusals outcomes text

    accepted : (file : FileData) → IsAcceptedText text file → ReadsAutomaton text (Ok file)
    accepted file a = inr (file, a.reads, (a.admitted, refl))

    by : Told solver replaying asked text x → Told solver replaying asked text y → x ≡ y
    by (inl (l, reads, e)) (inl (m, reads', e')) = grind (arith, lines (Err l) (Err m) reads reads')
    by (inl (l, reads, e)) (inr b) = grind (arith, ok_is_not_err, lines, accepted)
    by (inr a) (inl (m, reads, e)) = grind (arith, ok_is_not_err, lines, accepted)
    by (inr a) (inr b) =
        goes_one asked.order asked.compact asked.full circuits apart files games certificates text solver.fed x y a b

-- ---- the program's answers to inputs with `synth --cert`

module _ (files : OneFile) (refusals : OneRefusal) (outcomes : OneOutcome) (games : OneFileGame)
    (certificates : OneCertificate) (circuits : OneWinnersCircuit)
    (apart : CircuitOrNone) (finders : Finders) (replaying : IsReplaying finders.solvers.replay) (asked : SynthLine)
    (cert : asked.cert ≡ true) where
  synth_one : (texts : List ℕ) → IsOne (AnswersSynth finders.solvers asked texts)
  synth_one texts x y h k = then_one (CutsInTwo texts) (λ (parts : List ℕ × List ℕ). AnswersReport
      (once_fed parts.1 finders.solvers.replay) asked parts.0) (cut_one texts) (λ parts. search (rules, report_one)) x y
      (subst (λ b. AnswersBy b finders.solvers asked texts x) cert h)
      (subst (λ b. AnswersBy b finders.solvers asked texts y) cert k)

  outcome_of : (input : List ℕ) → IsLine (first_line input) (line.Synth asked) → (a : Reply) →
      AnswersInput finders input a →
      (x : Result Reply (List ℕ)) × AnswersSynth finders.solvers asked (behind_line input) x × (a ≡ printed x)
  outcome_of input is_line a (l, is_other, (x, answers, e)) =
      grind (arith, is_line_one (first_line input) l (line.Synth asked) is_other is_line)

  pub certified_one : (input : List ℕ) → IsLine (first_line input) (line.Synth asked) → (a b : Reply) →
      AnswersWhole finders input a → AnswersWhole finders input b → a ≡ b
  certified_one input is_line a b h k = grind (arith, outcome_of, synth_one)
