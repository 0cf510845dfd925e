-- Reading a text, making an automaton's game and testing a certificate have results, by laws of lower crates.
-- - `game_text_some`: for every text, reading it as a game has a result, which may be a fault
-- - `certified_some`, `certified_is`: reading two texts as a game and a certificate has a result; the game is well
--   formed, and the certificate fits it
-- - `tests_some`, `judge_some`: a test of a certificate, and the command `judge`, have a result
-- - `automaton_some`, `automaton_is`: reading a text as an automaton has a result; a file that is the result is well
--   formed and has an automaton
-- - `game_of_some`: making the game of an automaton has a result
use Rattle.std.proofs.Common.{◌≡◌, ◌≢◌, Bool, ℕ, List, Result, Ok, Err, refl, sym, inl, inr, subst, ap}
use Rattle.std.specs.Prelude.{Some}
use Rattle.ps_game.specs.Games.{NamedGameData, ParityGame, IsGame}
use Rattle.ps_pgsolver.specs.Causes as game
use Rattle.ps_pgsolver.specs.Reading.{Answer}
use Rattle.ps_certificate.specs.Certificates.{CertificateData, Fits}
use Rattle.ps_certificate.specs.Faults as certificate
use Rattle.ps_certificate.specs.Texts.{ReadsCertificate}
use Rattle.ps_automaton.specs.Answers.{IsAdmitted}
use Rattle.ps_automaton.specs.declared.fault.AutomatonFault.{AutomatonFault}
use Rattle.ps_automaton.specs.declared.fault.AutomatonFault.TheVariants as automaton
use Rattle.ps_hoa.specs.CauseNames as hoa_names
use Rattle.ps_hoa.specs.Causes as hoa
use Rattle.ps_hoa.specs.Files.{FileData}
use Rattle.ps_hoa.specs.Sound.{IsSoundFile}
use Rattle.ps_hoa.specs.Texts.{ReadsFile}
use Rattle.ps_machine.specs.declared.key.Order.{Order}
use Rattle.ps_certificate.specs.Written.{text_in}
use Rattle.ps_solution.specs.Reading.{ReadsSolution}
use Rattle.ps_solution.specs.Solved.{SolutionData}
use Rattle.ps_program.specs.Automata.{Builds, ReadsAutomaton, ReadsHoaText}
use Rattle.ps_program.specs.Outcomes.{Then}
use Rattle.ps_program.specs.Commands.Judging.{AnswersJudge, Judges, ReadsSolutionText, ReadsSolved, cycle_text}
use Rattle.ps_program.specs.Commands.Checks.{Tests}
use Rattle.ps_program.specs.Commands.Games.{MakesGame, ReadsGameOf}
use Rattle.ps_program.specs.Replies.{line_reply, text_reply}
use Rattle.ps_program.specs.StageFaults.{automaton_line}
use Rattle.ps_program.specs.Texts.{CutsInTwo, ReadsCertificateText, ReadsCertified, ReadsGameText, flaw_text}
use Rattle.ps_program.proofs.AtMostOne.OneStep.{ok_or}
use Rattle.ps_program.proofs.AtLeastOne.SomeCut.{two_some}
use Rattle.ps_program.proofs.AtLeastOne.SomeLaws.{Below, GoodOrFlawed}
use Rattle.ps_program.proofs.AtLeastOne.SomeStep.{HasSome, HasOnly, ended_some, reading_some, then_only, then_some}

-- ---- games and certificates

module _ (below : Below) where
  pub game_text_some : (text : List ℕ) → HasSome (ReadsGameText text)
  game_text_some text = reading_some game.cause_number game.cause_name (Answer text) (below.some_game text)

  pub certified_some : (texts : List ℕ) → HasSome (ReadsCertified texts)
  certified_some texts = then_some _ _ (two_some texts) (λ parts cut.
      then_some (ReadsGameText parts.0) _ (game_text_some parts.0) (λ named reads.
      then_some (ReadsCertificateText named parts.1) _ (reading_some certificate.cause_number certificate.cause_name
      (ReadsCertificate named parts.1) (below.some_certificate named parts.1))
      (λ given read. ended_some (Ok (named, given)))))

  abbrev IsFitting : NamedGameData × CertificateData → Type 0
  IsFitting both = IsGame both.0.game × Fits both.0.game both.1

  -- parses a certificate of the game, and returns the game and the certificate
  abbrev WithCertificate : List ℕ → NamedGameData → Result (NamedGameData × CertificateData) (List ℕ) → Type 0
  WithCertificate text named =
      Then (ReadsCertificateText named text) (λ given outcome. outcome ≡ Ok (named, given))

  pub certified_is : (texts : List ℕ) → HasOnly (ReadsCertified texts) IsFitting
  certified_is texts = then_only (CutsInTwo texts)
      (λ (parts : List ℕ × List ℕ). Then (ReadsGameText parts.0) (WithCertificate parts.1)) IsFitting (λ parts cut.
      then_only (ReadsGameText parts.0) (WithCertificate parts.1) IsFitting (λ named reads.
      let sound = below.game_sound parts.0 named reads in
      then_only (ReadsCertificateText named parts.1) (λ given outcome. outcome ≡ Ok (named, given)) IsFitting
      (λ given read both e. let same : both ≡ (named, given) = ap (ok_or {E = List ℕ} both) e in
      subst IsFitting (sym same) (sound.0, below.fitting named parts.1 given sound.1 read))))

pub tests_some : (IsGood : ParityGame → CertificateData → Type 0) (word : List ℕ) (named : NamedGameData)
    (given : CertificateData) → IsGame named.game → GoodOrFlawed IsGood named.game given →
    HasSome (Tests IsGood word named given)
tests_some IsGood word named given is_game (inl good) = (Ok (line_reply word), (good, refl))
tests_some IsGood word named given is_game (inr (bad, (flaw, first))) =
    (Err (flaw_text named flaw), (is_game, bad, (flaw, first, refl)))

-- ---- solutions

module _ (below : Below) where
  solved_some : (texts : List ℕ) → HasSome (ReadsSolved texts)
  solved_some texts = then_some _ _ (two_some texts) (λ parts cut.
      then_some (ReadsGameText parts.0) _ (game_text_some below parts.0) (λ named reads.
      then_some (ReadsSolutionText named parts.1) _ (reading_some certificate.cause_number certificate.cause_name
      (ReadsSolution named.ids parts.1) (below.some_solution named.ids parts.1))
      (λ given read. ended_some (Ok (named, given)))))

  abbrev OfGame : NamedGameData × SolutionData → Type 0
  OfGame both = IsGame both.0.game

  -- parses a solution of the game, and returns the game and the solution
  abbrev WithSolution : List ℕ → NamedGameData → Result (NamedGameData × SolutionData) (List ℕ) → Type 0
  WithSolution text named = Then (ReadsSolutionText named text) (λ given outcome. outcome ≡ Ok (named, given))

  solved_is : (texts : List ℕ) → HasOnly (ReadsSolved texts) OfGame
  solved_is texts = then_only (CutsInTwo texts)
      (λ (parts : List ℕ × List ℕ). Then (ReadsGameText parts.0) (WithSolution parts.1)) OfGame (λ parts cut.
      then_only (ReadsGameText parts.0) (WithSolution parts.1) OfGame (λ named reads.
      then_only (ReadsSolutionText named parts.1) (λ given outcome. outcome ≡ Ok (named, given)) OfGame
      (λ given read both e. let same : both ≡ (named, given) = ap (ok_or {E = List ℕ} both) e in
      subst OfGame (sym same) (below.game_sound parts.0 named reads).0)))

  judges_some : (compact : Bool) (named : NamedGameData) (given : SolutionData) → IsGame named.game →
      HasSome (Judges compact named given)
  judges_some compact named given is_game = elim (below.judged named.game given.won given.moves given.moves is_game) [
    | inl (holds, (c, of)) ↦ (Ok (text_reply (text_in compact named c)), (holds, (c, of, refl)))
    | inr (inl (flaw, first)) ↦ (Err (flaw_text named flaw), (is_game, inl (flaw, first, refl)))
    | inr (inr (player, cycle, lost)) ↦
        (Err (cycle_text named cycle), (is_game, inr (player, cycle, lost, refl)))
  ]

  pub judge_some : (compact : Bool) (texts : List ℕ) → HasSome (AnswersJudge compact texts)
  judge_some compact texts = then_some (ReadsSolved texts) _ (solved_some texts)
      (λ both reads. judges_some compact both.0 both.1 (solved_is texts both reads))

-- ---- automata

-- each fault except `OutOfMemory` has a line that reports it
told_some : (fault : AutomatonFault) → fault ≢ automaton.OutOfMemory →
    (line : List ℕ) × (automaton_line fault ≡ Some line)
told_some automaton.ComplementedSet known = (_, refl)
told_some automaton.NonParity known = (_, refl)
told_some (automaton.Nondeterministic state first second) known = (_, refl)
told_some automaton.OutOfMemory known = absurd (known refl)

module _ (below : Below) where
  builds_some : (file : FileData) → HasSome (Builds file)
  builds_some file = elim (below.some_refusal file) [
    | inl admitted ↦ (Ok file, (admitted, refl))
    | inr (fault, known, refused) ↦
        let (line, told) = told_some fault known in (Err line, (fault, refused, told))
  ]

  pub automaton_some : (text : List ℕ) → HasSome (ReadsAutomaton text)
  automaton_some text =
      then_some _ _ (reading_some hoa.cause_number hoa_names.cause_name (ReadsFile text) (below.some_file text))
      (λ file reads. builds_some file)

  abbrev IsGood : FileData → Type 0
  IsGood file = IsSoundFile file × IsAdmitted file

  pub automaton_is : (text : List ℕ) → HasOnly (ReadsAutomaton text) IsGood
  automaton_is text = then_only (ReadsHoaText text) Builds IsGood (λ read reads file built.
      subst IsGood (sym built.1) (below.file_sound text read reads, built.0))

  pub game_of_some : (order : Order) (text : List ℕ) → HasSome (ReadsGameOf order text)
  game_of_some order text =
      then_some _ _ (automaton_some text) (λ file reads. makes_some file (automaton_is text file reads))
    where
      makes_some : (file : FileData) → IsSoundFile file × IsAdmitted file → HasSome (MakesGame order file)
      makes_some file is = let (named, is_game) = below.file_game order file is.0 is.1 in (Ok named, is_game)
