use Rattle.std.proofs.Common.{refl}
use Rattle.ps_certificate.proofs.Rereading.WrittenEntries as certificate
use Rattle.ps_circuit.proofs.CircuitRereading.RereadText as circuit
use Rattle.ps_pgsolver.proofs.WrittenGames as game
use Rattle.ps_synthesis.proofs.GreatestWord.{greatest_word}
use Rattle.ps_synthesis.proofs.laws.written_texts_are_read.Goals as goal

pub returns : goal.returns
returns c = record {
  game = λ named some well_formed words. record {
    written = refl;
    read_again = game.reads_again named well_formed some words.ids words.priorities (greatest_word named.ids words.ids);
  };
  certificate = λ compact named given well_formed fits words. record {
    written = refl;
    read_again = certificate.reads_again compact named given well_formed fits words;
  };
  circuit = λ given is words. record {
    written = refl;
    read_again = circuit.reads_again is words.inputs words.latches words.outputs words.gates;
  };
}
