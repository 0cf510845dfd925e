-- Parsing what `synth` prints gives the printed values again, if their numbers fit in 64 bits.
use Rattle.std.proofs.Common.{◌<◌, Bool, true, false}
use Rattle.ps_certificate.specs.Certificates.{CertificateData, Fits}
use Rattle.ps_certificate.specs.Written.{HasWords, text_in}
use Rattle.ps_circuit.specs.Circuits.{CircuitData, IsCircuit}
use Rattle.ps_circuit.specs.Written.{text_of}
use Rattle.ps_game.specs.Games.{IsNamedGame, NamedGameData, vertex_count}
use Rattle.ps_pgsolver.specs.Written.{game_text}
use Rattle.ps_synthesis.specs.Printing.{HasCircuitWords, HasGameWords, PrintsCertificate, PrintsCircuit, PrintsGame}
use Rattle.ps_synthesis.specs.Promises.{SynthesisData}
use Rattle.ps_program.specs.Laws.Answered.{FitsInWords}
use Rattle.ps_program.specs.Commands.Synthesis.{IsPrinted}

-- the laws of the crate `ps_synthesis` on which the proofs in this file rely
pub record Rereads : Type 0 where
  pub game : (game : NamedGameData) → 0 < vertex_count game.game → IsNamedGame game → HasGameWords game →
      PrintsGame (game_text game) game
  pub certificate : (compact : Bool) (game : NamedGameData) (certificate : CertificateData) → IsNamedGame game →
      Fits game.game certificate → HasWords game.ids certificate →
      PrintsCertificate compact (text_in compact game certificate) game certificate
  pub circuit : (circuit : CircuitData) → IsCircuit circuit → HasCircuitWords circuit →
      PrintsCircuit (text_of circuit) circuit

pub texts_printed : Rereads → (full compact : Bool) (s : SynthesisData) → 0 < vertex_count s.game.game →
    Fits s.game.game s.certificate → IsCircuit s.circuit → FitsInWords s → IsPrinted full compact s
texts_printed rereads true compact s some fits is words = (
  rereads.circuit s.circuit is words.circuit,
  rereads.game s.game some words.well_formed words.game,
  rereads.certificate compact s.game s.certificate words.well_formed fits words.certificate,
)
texts_printed rereads false compact s some fits is words = rereads.circuit s.circuit is words.circuit
