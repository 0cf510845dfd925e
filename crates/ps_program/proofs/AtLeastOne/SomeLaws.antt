-- The laws of lower crates from which it follows that each input has an answer.
-- - `GoodOrFlawed`: a certificate passes the test `IsGood`, or has a first flaw
-- - `Below`: the laws of lower crates, as the fields of a record
use Rattle.std.proofs.Common.{◌≡◌, ◌≢◌, ◌<◌, ◌⊎◌, ℕ, Bool, List, length, Option, Result, Ok}
use Rattle.std.specs.Prelude.{AllPairs}
use Rattle.ps_text.specs.Answers.{Found}
use Rattle.ps_aiger.specs.Encoded.{Encodes}
use Rattle.ps_aiger.specs.Wires.{IsOutOfLiterals}
use Rattle.ps_automaton.specs.Answers.{IsAdmitted, IsRefused}
use Rattle.ps_automaton.specs.declared.fault.AutomatonFault.{AutomatonFault}
use Rattle.ps_automaton.specs.declared.fault.AutomatonFault.TheVariants.{OutOfMemory}
use Rattle.ps_certificate.specs.Certificates.{CertificateData, Fits, IsClosed, IsFirstFlaw, IsValid}
use Rattle.ps_certificate.specs.Regions.{BothHold, NoneWinsOutside}
use Rattle.ps_certificate.specs.Texts.{ReadsCertificate}
use Rattle.ps_certificate.specs.declared.fault.CertCause.{CertCause}
use Rattle.ps_certificate.specs.declared.flaw.Flaw.{Flaw}
use Rattle.ps_circuit.specs.Circuits.{CircuitData, IsCircuit}
use Rattle.ps_circuit.specs.Texts.{ReadsCircuit}
use Rattle.ps_circuit.specs.Values.{HasOneValues}
use Rattle.ps_circuit.specs.declared.fault.AigCause.{AigCause}
use Rattle.ps_formula.specs.Satisfaction.{IsDecidedWord}
use Rattle.ps_game.specs.Games.{IsGame, NamedGameData, ParityGame, vertex_count}
use Rattle.ps_hoa.specs.Files.{FileData}
use Rattle.ps_hoa.specs.Sound.{IsSoundFile}
use Rattle.ps_hoa.specs.Texts.{ReadsFile}
use Rattle.ps_hoa.specs.declared.fault.HoaCause.{HoaCause}
use Rattle.ps_label.specs.Words.{lasso_word}
use Rattle.ps_machine.specs.Behaviours.{Behaviour, IsMachine}
use Rattle.ps_machine.specs.Extracting.{HasPropositions, IsMachineOf}
use Rattle.ps_machine.specs.FileGames.{IsGameOfFile, board_of_file}
use Rattle.ps_machine.specs.Keys.{mover_of}
use Rattle.ps_solver.specs.Solving.{IsCertified, winner_at_start}
use Rattle.ps_machine.specs.declared.key.Order.{Order}
use Rattle.ps_pgsolver.specs.Reading.{Answer}
use Rattle.ps_pgsolver.specs.declared.fault.PgCause.{PgCause}
use Rattle.ps_referee.specs.Solutions.{IsCertificateOf, IsCycleOf, IsSolution, claimed}
use Rattle.ps_simulate.specs.LassoFaults.{AreWide}
use Rattle.ps_simulate.specs.Lassos.{IsVerdictOf, IsWordOf}
use Rattle.ps_simulate.specs.StimulusTexts.{HasSomeAnswer}
use Rattle.ps_simulate.specs.Symbols.{AreDistinct, HasSymbols}
use Rattle.ps_simulate.specs.Words.{TraceWordData}
use Rattle.ps_simulate.specs.declared.lassos.Verdict.{Verdict}
use Rattle.ps_simulate.specs.declared.role.Role.{Role}
use Rattle.ps_solution.specs.Reading.{ReadsSolution}
use Rattle.ps_solution.specs.Solved.{SolutionData}
use Rattle.ps_synthesis.specs.Reports.{IsWinners, IsWinnersCircuit}
use Rattle.ps_tlsf.specs.Names.{names_in}
use Rattle.ps_tlsf.specs.Reading.{answer_of}
use Rattle.ps_tlsf.specs.Specifications.{Specification}
use Rattle.ps_traces.specs.Answers.{IsWitness}

abbrev pub GoodOrFlawed : (ParityGame → CertificateData → Type 0) → ParityGame → CertificateData → Type 0
GoodOrFlawed IsGood arena given =
    IsGood arena given ⊎ (¬ IsGood arena given × ((flaw : Flaw) × IsFirstFlaw arena given flaw))

abbrev pub NamesDiffer : Type 0
NamesDiffer = (text : List ℕ) (s : Specification) → answer_of text ≡ Ok s → AllPairs ◌≢◌ (names_in s.names)

abbrev pub WordIsThere : Type 0
WordIsThere =
    (role : Role) (names : List (List ℕ)) (controllable : List ℕ) (c : CircuitData) (stem lap : List (List Bool)) →
    AreDistinct names → IsCircuit c → HasSymbols role names controllable c → AreWide c stem lap → 0 < length lap →
    (word : TraceWordData) × IsWordOf names c stem lap word

pub record Below : Type 0 where
  -- games and certificates
  pub some_game : (text : List ℕ) → (answer : Result NamedGameData (Found PgCause)) × Answer text answer
  pub game_sound : (text : List ℕ) (named : NamedGameData) → Answer text (Ok named) →
      IsGame named.game × (length named.ids ≡ vertex_count named.game)
  pub some_certificate : (named : NamedGameData) (text : List ℕ) →
      (answer : Result CertificateData (Found CertCause)) × ReadsCertificate named text answer
  pub fitting : (named : NamedGameData) (text : List ℕ) (given : CertificateData) →
      length named.ids ≡ vertex_count named.game → ReadsCertificate named text (Ok given) → Fits named.game given
  pub closed_or : (arena : ParityGame) (given : CertificateData) → GoodOrFlawed IsClosed arena given
  pub valid_or : (arena : ParityGame) (given : CertificateData) → Fits arena given → GoodOrFlawed IsValid arena given
  pub held : (arena : ParityGame) (given : CertificateData) → Fits arena given → IsValid arena given →
      BothHold arena given
  pub none_outside : (arena : ParityGame) (given : CertificateData) → IsGame arena → Fits arena given →
      IsValid arena given → NoneWinsOutside arena given
  pub some_solution : (ids text : List ℕ) → (answer : Result SolutionData (Found CertCause)) ×
      ReadsSolution ids text answer
  pub judged : (arena : ParityGame) (won : List Bool) (first second : List (Option ℕ)) → IsGame arena →
      (IsSolution arena won first second ×
      ((given : CertificateData) × IsCertificateOf arena won first second given)) ⊎
      ((flaw : Flaw) × IsFirstFlaw arena (claimed arena won first second) flaw) ⊎
      ((player : ℕ) × (cycle : List ℕ) × IsCycleOf arena won first second player cycle)
  -- the laws of other crates about automata and their games, as arguments of the proofs
  pub some_file : (text : List ℕ) → (answer : Result FileData (Found HoaCause)) × ReadsFile text answer
  pub file_sound : (text : List ℕ) (file : FileData) → ReadsFile text (Ok file) → IsSoundFile file
  pub some_refusal : (file : FileData) → IsAdmitted file ⊎ ((fault : AutomatonFault) × (fault ≢ OutOfMemory) ×
      IsRefused file fault)
  pub file_game : (order : Order) (file : FileData) → IsSoundFile file → IsAdmitted file →
      (named : NamedGameData) × IsGameOfFile order file named
  pub file_game_sound : (order : Order) (file : FileData) (game : NamedGameData) → IsGameOfFile order file game →
      IsGame game.game
  -- the laws about circuits and their runs
  pub some_circuit : (text : List ℕ) → (answer : Result CircuitData (Found AigCause)) × ReadsCircuit text answer
  pub circuit_sound : (text : List ℕ) (c : CircuitData) → ReadsCircuit text (Ok c) → IsCircuit c
  pub some_stimulus : (text : List ℕ) (width : ℕ) (split : Bool) → HasSomeAnswer text width split
  pub values : (c : CircuitData) → IsCircuit c → HasOneValues c
  pub symbols_or : (role : Role) (names : List (List ℕ)) (controllable : List ℕ) (c : CircuitData) →
      HasSymbols role names controllable c ⊎ ¬ HasSymbols role names controllable c
  pub verdict : (role : Role) (file : FileData) (c : CircuitData) (stem lap : List (List Bool)) → IsSoundFile file →
      IsAdmitted file → IsCircuit c → HasSymbols role file.names file.controllable c → AreWide c stem lap →
      0 < length lap → (verdict : Verdict) × IsVerdictOf file c stem lap verdict
  -- the laws about specifications, and about words of runs
  pub names_differ : NamesDiffer
  pub word : WordIsThere
  pub decided : (stem lap : List ℕ) → 0 < length lap → IsDecidedWord (lasso_word stem lap)
  -- the laws about the circuit that a certificate gives the winner
  pub winners_circuit : (order : Order) (file : FileData) (game : NamedGameData)
      (is_game : IsGameOfFile order file game) (certificate : CertificateData) → IsSoundFile file →
      IsCertified game certificate →
      ((m : Behaviour) × IsWinners order file game is_game certificate m × IsOutOfLiterals m) ⊎
      ((c : CircuitData) × IsWinnersCircuit order file game is_game certificate c)
  pub circuit_answers : (order : Order) (file : FileData) (game : NamedGameData)
      (is_game : IsGameOfFile order file game) (certificate : CertificateData) (m : Behaviour) (c : CircuitData) →
      Fits game.game certificate → IsValid game.game certificate → IsMachine m →
      HasPropositions file.names (board_of_file order file is_game.auto) m →
      IsMachineOf (board_of_file order file is_game.auto) (mover_of order) is_game.keys game.game certificate m →
      Encodes m c → IsWitness order file (winner_at_start certificate) c
