-- The winner and the winner's circuit of a text, from those of the text's file, and of a file from those of the mixed
-- file.
use Rattle.std.proofs.Common.{◌≡◌, ℕ, List, Ok, Err, Result, refl}
use Rattle.std.specs.Prelude.{IfErr, IfOk, IfSome, Option, Some, None}
use Rattle.ps_certificate.specs.Certificates.{CertificateData, Fits, IsValid}
use Rattle.ps_certificate.specs.Regions.{BothHold, NoneWinsOutside}
use Rattle.ps_circuit.specs.Circuits.{CircuitData}
use Rattle.ps_aiger.specs.Encoded.{Encodes}
use Rattle.ps_game.specs.Games.{IsGame, NamedGameData, ParityGame}
use Rattle.ps_hoa.specs.Files.{FileData}
use Rattle.ps_hoa.specs.Sound.{IsSoundFile}
use Rattle.ps_hoa.specs.Texts.{ReadsFile}
use Rattle.ps_machine.specs.Behaviours.{Behaviour, IsMachine}
use Rattle.ps_machine.specs.Extracting.{HasPropositions, IsMachineOf}
use Rattle.ps_machine.specs.FileGames.{IsGameOfFile, board_of_file}
use Rattle.ps_machine.specs.Keys.{mover_of}
use Rattle.ps_solver.specs.Solvers.{Answered, MayAnswer, SolverData}
use Rattle.ps_solver.specs.Solving.{AnswersLeast, IsFree, winner_at_start}
use Rattle.ps_machine.specs.declared.key.Order.{Order}
use Rattle.ps_mixing.specs.MixedFiles.{IsMixingOf, mixed_file}
use Rattle.ps_mixing.specs.Mixings.{Mixing}
use Rattle.ps_mixing.proofs.MixedAnswers.{admitted_alike, refused_alike}
use Rattle.ps_traces.specs.Answers.{IsWitness}
use Rattle.ps_synthesis.specs.ShortAnswers.{IsShortOf}
use Rattle.ps_synthesis.specs.ShortFiles.{IsFaultOfFile, IsShortOfFile}
use Rattle.ps_synthesis.specs.SynthFaults.{IsTooLarge}
use Rattle.ps_synthesis.specs.declared.fault.SynthFault.{SynthFault}
use Rattle.ps_synthesis.specs.declared.fault.SynthFault.TheVariants.{Text, Automaton, BadCycle, Certificate}
use Rattle.ps_synthesis.specs.declared.fault.SynthFault.TheVariants.{NotCertified, CircuitTooLarge, OutOfMemory}
use Rattle.ps_synthesis.specs.declared.short.Short.{Short}
use Rattle.ps_synthesis.proofs.MixedWinners.{circuit_back, too_large_back}

-- laws of other crates, which a lemma of this file takes as an argument
pub record Laws : Type 0 where
  pub is_game : (order : Order) (file : FileData) (game : NamedGameData) → IsGameOfFile order file game →
      IsGame game.game
  pub both_hold : (game : ParityGame) (certificate : CertificateData) → Fits game certificate →
      IsValid game certificate → BothHold game certificate
  pub none_outside : (game : ParityGame) (certificate : CertificateData) → IsGame game → Fits game certificate →
      IsValid game certificate → NoneWinsOutside game certificate
  pub answers : (order : Order) (file : FileData) (game : NamedGameData) (is_game : IsGameOfFile order file game)
      (certificate : CertificateData) (m : Behaviour) (c : CircuitData) → Fits game.game certificate →
      IsValid game.game certificate → IsMachine m →
      HasPropositions file.names (board_of_file order file is_game.auto) m →
      IsMachineOf (board_of_file order file is_game.auto) (mover_of order) is_game.keys game.game certificate m →
      Encodes m c → IsWitness order file (winner_at_start certificate) c

-- ## From a file to its text

module _ (May : MayAnswer) (order : Order) (text : List ℕ) (file : FileData) (reads : ReadsFile text (Ok file)) where
  pub short_of_text : Laws → (short : Short) → IsShortOfFile May order file short → IsShortOf May order text short
  short_of_text laws short is = record {
    made = record { game = is.game; certificate = is.certificate; circuit = short.circuit };
    winners = record {
      synthesis = record {
        file = file;
        accepted = record { reads = reads; admitted = is.admitted };
        is_game = is.is_game;
        answered = is.answered;
        certified = is.certified;
        both_hold = laws.both_hold is.game.game is.certificate is.certified.fits is.certified.valid;
        none_wins_outside = laws.none_outside is.game.game is.certificate (laws.is_game order file is.game is.is_game)
            is.certified.fits is.certified.valid;
        answers = laws.answers order file is.game is.is_game is.certificate is.circuit.machine short.circuit
            is.certified.fits is.certified.valid is.circuit.winners.is_machine is.circuit.winners.propositions
            is.circuit.winners.machine_of is.circuit.encodes;
      };
      circuit = is.circuit;
    };
    realizable = is.realizable;
    circuit_is = refl;
  }

-- ## From a mixed file to the file

module _ (May : MayAnswer) (order : Order) (file : FileData) (mixing : Mixing) (is : IsMixingOf file mixing)
    (sound : IsSoundFile file) where
  abbrev mixed : FileData
  mixed = mixed_file mixing file

  short_back : (short : Short) → IsShortOfFile May order mixed short → IsShortOfFile May order file short
  short_back short made =
      let back = circuit_back order file mixing is sound made.game made.is_game made.certificate short.circuit
      made.circuit in
      record {
        admitted = (admitted_alike file mixing is).1 made.admitted;
        game = made.game;
        is_game = back.0;
        certificate = made.certificate;
        answered = made.answered;
        certified = made.certified;
        realizable = made.realizable;
        circuit = back.1;
      }

  fault_back : (fault : SynthFault) → IsFaultOfFile May order mixed fault → IsFaultOfFile May order file fault
  fault_back (Automaton fault) h = (h.0, (refused_alike file mixing is fault).1 h.1)
  fault_back CircuitTooLarge h =
      ((admitted_alike file mixing is).1 h.0, h.1, too_large_back May order file mixing is sound h.1 h.2)
  fault_back OutOfMemory h = tt
  fault_back (Text cause offset) h = absurd h
  fault_back (BadCycle ids) h = absurd h
  fault_back (Certificate cause offset) h = absurd h
  fault_back NotCertified h = absurd h

  pub found_back : (r : Result (Option Short) SynthFault) →
      IfOk r (λ found. IfSome found (IsShortOfFile May order mixed)) →
      IfOk r (λ found. IfSome found (IsShortOfFile May order file))
  found_back (Ok (Some short)) h = short_back short h
  found_back (Ok None) h = tt
  found_back (Err fault) h = tt

  pub refused_back : (r : Result (Option Short) SynthFault) → IfErr r (IsFaultOfFile May order mixed) →
      IfErr r (IsFaultOfFile May order file)
  refused_back (Ok found) h = tt
  refused_back (Err fault) h = fault_back fault h

-- ## A free solver

-- a free solver may give each answer that psyn's own solver may give
module _ (solver : SolverData) (free : IsFree solver) (order : Order) (file : FileData) where
  abbrev Free : MayAnswer
  Free = Answered solver solver

  short_more : (short : Short) → IsShortOfFile AnswersLeast order file short → IsShortOfFile Free order file short
  short_more short is = record {
    admitted = is.admitted;
    game = is.game;
    is_game = is.is_game;
    certificate = is.certificate;
    answered = free is.game (Ok is.certificate) is.answered;
    certified = is.certified;
    realizable = is.realizable;
    circuit = is.circuit;
  }

  large_more : (game : NamedGameData) → IsTooLarge AnswersLeast order file game → IsTooLarge Free order file game
  large_more game is = record {
    certificate = is.certificate;
    answered = free game (Ok is.certificate) is.answered;
    certified = is.certified;
    is_game = is.is_game;
    machine = is.machine;
    winners = is.winners;
    out_of_literals = is.out_of_literals;
  }

  cause_more : (fault : SynthFault) → IsFaultOfFile AnswersLeast order file fault → IsFaultOfFile Free order file fault
  cause_more (Automaton fault) h = h
  cause_more CircuitTooLarge h = (h.0, h.1, large_more h.1 h.2)
  cause_more OutOfMemory h = tt
  cause_more (Text cause offset) h = absurd h
  cause_more (BadCycle ids) h = absurd h
  cause_more (Certificate cause offset) h = absurd h
  cause_more NotCertified h = absurd h

  pub free_short : (r : Result (Option Short) SynthFault) →
      IfOk r (λ found. IfSome found (IsShortOfFile AnswersLeast order file)) →
      IfOk r (λ found. IfSome found (IsShortOfFile Free order file))
  free_short (Ok (Some short)) h = short_more short h
  free_short (Ok None) h = tt
  free_short (Err fault) h = tt

  pub free_fault : (r : Result (Option Short) SynthFault) → IfErr r (IsFaultOfFile AnswersLeast order file) →
      IfErr r (IsFaultOfFile Free order file)
  free_fault (Ok found) h = tt
  free_fault (Err fault) h = cause_more fault h
