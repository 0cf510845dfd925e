-- Two answers to `synth` for one text have the same winner and the same game. Two valid certificates of the same game
-- assign the same winner to each vertex.
use Rattle.std.proofs.Common.{◌≡◌, ◌<◌, ℕ, Bool, List, Result, Ok, sym, subst, arith}
use Rattle.std.proofs.lemmas.Option.{slice_get_within}
use Rattle.ps_text.specs.Answers.{Found}
use Rattle.ps_certificate.specs.Certificates.{CertificateData, Fits, IsValid, winner_of}
use Rattle.ps_certificate.specs.Texts as certificate_text
use Rattle.ps_certificate.specs.Written.{text_in}
use Rattle.ps_certificate.specs.declared.fault.CertCause.{CertCause}
use Rattle.ps_game.specs.Games.{ParityGame, NamedGameData, owner_of, vertex_count}
use Rattle.ps_hoa.specs.Files.{FileData}
use Rattle.ps_hoa.specs.Texts.{ReadsFile}
use Rattle.ps_hoa.specs.declared.fault.HoaCause.{HoaCause}
use Rattle.ps_machine.specs.FileGames.{IsGameOfFile}
use Rattle.ps_machine.specs.Keys.{mover_of, owner_of_key}
use Rattle.ps_solver.specs.Solving.{IsCertified, winner_at_start}
use Rattle.ps_machine.specs.declared.key.Key.{Key}
use Rattle.ps_machine.specs.declared.key.Order.{Order}
use Rattle.ps_solver.specs.Solvers.{MayAnswer}
use Rattle.ps_synthesis.specs.Promises.{IsSynthesis, SynthesisData}
use Rattle.ps_program.specs.Laws.Determined.{AgreeInWinners}
use Rattle.ps_program.specs.Replies.{Reply, text_reply}

-- the laws of other crates on which the proofs in this file rely
abbrev pub OneFile : Type 0
OneFile = (text : List ℕ) (a b : Result FileData (Found HoaCause)) → ReadsFile text a → ReadsFile text b → a ≡ b

abbrev pub OneFileGame : Type 0
OneFileGame = (order : Order) (file : FileData) (game other : NamedGameData) → IsGameOfFile order file game →
    IsGameOfFile order file other → game ≡ other

abbrev pub OneWinner : Type 0
OneWinner =
    (game : ParityGame) (one other : CertificateData) → ((v : ℕ) → v < vertex_count game → owner_of game v < 2) →
    Fits game one → IsValid game one → Fits game other → IsValid game other → (v : ℕ) → v < vertex_count game →
    winner_of one v ≡ winner_of other v

abbrev pub OneCertificate : Type 0
OneCertificate = (named : NamedGameData) (text : List ℕ) (a b : Result CertificateData (Found CertCause)) →
    certificate_text.ReadsCertificate named text a
    → certificate_text.ReadsCertificate named text b → a ≡ b

abbrev pub ok_of : {V E : Type 0} → V → Result V E
ok_of v = Ok v

pub ok_same : {V E : Type 0} (v w : V) → ok_of {V = V} {E = E} v ≡ Ok w → v ≡ w
ok_same v w e = cc

-- each vertex of a file's game is owned by player 0 or player 1
owner_below : (order : Order) (key : Key) → owner_of_key (mover_of order) key < 2
owner_below order key = grind arith

owners_below : (order : Order) (file : FileData) (game : NamedGameData) → IsGameOfFile order file game → (v : ℕ) →
    v < vertex_count game.game → owner_of game.game v < 2
owners_below order file game is v within =
    let vertex = is.is_game.by_keys.vertices v within in
    subst (λ owner. owner < 2) (sym vertex.owner) (owner_below order vertex.key)

pub first_there : (order : Order) (file : FileData) (game : NamedGameData) → IsGameOfFile order file game →
    0 < vertex_count game.game
first_there order file game is = grind (arith, slice_get_within)

module _ (files : OneFile) (file_games : OneFileGame) (winners : OneWinner) where
  module _ (May : MayAnswer) (order : Order) (text : List ℕ) (s t : SynthesisData)
      (one : IsSynthesis May order text s) (other : IsSynthesis May order text t) where
    same_file : one.file ≡ other.file
    same_file = ok_same one.file other.file (files text (Ok one.file) (Ok other.file) one.accepted.reads
        other.accepted.reads)

    -- both answers have the game of the automaton
    pub syntheses-game : s.game ≡ t.game
    syntheses-game = file_games order other.file s.game t.game
        (subst (λ file. IsGameOfFile order file s.game) same_file one.is_game) other.is_game

    -- both answers have the same winner
    pub syntheses-winner : winner_at_start s.certificate ≡ winner_at_start t.certificate
    syntheses-winner =
        let certified : IsCertified s.game t.certificate =
        subst (λ game. IsCertified game t.certificate) (sym syntheses-game) other.certified in
        winners s.game.game s.certificate t.certificate (owners_below order one.file s.game one.is_game)
        one.certified.fits one.certified.valid certified.fits certified.valid 0
        (first_there order one.file s.game one.is_game)

  -- any two valid certificates of the same game assign the same winner to each vertex
  pub certificates_agree : (compact : Bool) (game : NamedGameData) (one other : CertificateData) (a b : Reply) →
      IsCertified game one → IsCertified game other → a ≡ text_reply (text_in compact game one) →
      b ≡ text_reply (text_in compact game other) → AgreeInWinners compact game a b
  certificates_agree compact game one other a b c d is_one is_other = record {
    one = one;
    other = other;
    one_certified = c;
    other_certified = d;
    is_one = is_one;
    is_other = is_other;
    winners = λ is_game v within. winners game.game one other is_game.owners c.fits c.valid d.fits d.valid v within;
  }
