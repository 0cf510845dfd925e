-- The texts of a report. Each text is what psyn writes for a value, and parsing the text gives the value again. The
-- text of a game can be parsed again only if it is not longer than the parser accepts.
-- - `PrintsGame text game`: `text` is the text that psyn writes for the game
-- - `PrintsCertificate compact text game certificate`: `text` is the plain or the compact text of the certificate
-- - `PrintsCircuit text circuit`: `text` is the text that psyn writes for the circuit
-- - `HasGameWords game`, `HasCircuitWords circuit`: the numbers in the text of a game, or of the header of a circuit,
--   fit in 64 bits
use Rattle.std.specs.Prelude.{◌≡◌, ℕ, ◌≤◌, Bool, List, length, Ok}
use Rattle.std.specs.List.{All}
use Rattle.ps_circuit.specs.Circuits.{CircuitData}
use Rattle.ps_circuit.specs.Texts as circuits
use Rattle.ps_circuit.specs.Written.{text_of}
use Rattle.ps_certificate.specs.Certificates.{CertificateData}
use Rattle.ps_certificate.specs.Texts as certificates
use Rattle.ps_certificate.specs.Written.{IsWord, text_in}
use Rattle.ps_game.specs.Games.{NamedGameData}
use Rattle.ps_pgsolver.specs.Reading as games
use Rattle.ps_pgsolver.specs.Written.{game_text}

-- the text that psyn writes for a game; parsing it gives the game again, if it is not longer than the parser accepts
pub record PrintsGame (text : List ℕ) (game : NamedGameData) : Type 0 where
  pub written : text ≡ game_text game
  pub read_again : length text ≤ games.text_limit → games.Answer text (Ok game)

pub record PrintsCertificate (compact : Bool) (text : List ℕ) (game : NamedGameData)
    (certificate : CertificateData) : Type 0 where
  pub written : text ≡ text_in compact game certificate
  pub read_again : certificates.ReadsCertificate game text (Ok certificate)

pub record PrintsCircuit (text : List ℕ) (circuit : CircuitData) : Type 0 where
  pub written : text ≡ text_of circuit
  pub read_again : circuits.ReadsCircuit text (Ok circuit)

-- each id and each priority of the game fits in 64 bits
pub record HasGameWords (game : NamedGameData) : Type 0 where
  pub ids : All IsWord game.ids
  pub priorities : All (λ vertex. IsWord vertex.priority) game.game

-- the numbers of inputs, latches, outputs and gates fit in 64 bits
pub record HasCircuitWords (circuit : CircuitData) : Type 0 where
  pub inputs : IsWord (length circuit.inputs)
  pub latches : IsWord (length circuit.latches)
  pub outputs : IsWord (length circuit.outputs)
  pub gates : IsWord (length circuit.gates)
