use Rattle.ps_program.proofs.AtMostOne.Agreeing.{first_there}
use Rattle.ps_program.proofs.AtLeastOne.FittingTexts.{Rereads, texts_printed}
use Rattle.ps_program.proofs.laws.fitting_texts_are_printed.Goals as goal

pub returns : goal.returns
returns g c =
    let laws = c.written_texts_are_read.ensures in
    let rereads : Rereads = record { game = laws.game; certificate = laws.certificate; circuit = laws.circuit } in
    λ asked text fit file s is_game accepted answered certified winners.
    let answers = c.certified_circuit_of_file_answers.ensures asked.order file s.game is_game s.certificate
    winners.machine s.circuit certified.fits certified.valid winners.winners.is_machine winners.winners.propositions
    winners.winners.machine_of winners.encodes in
    texts_printed rereads asked.full asked.compact s (first_there asked.order file s.game is_game) certified.fits
    answers.is_circuit (fit file s is_game accepted answered certified winners)
