use Rattle.ps_game.specs.Games.{NamedGameData}
use Rattle.ps_pgsolver.specs.Causes.{cause_number, cause_name}
use Rattle.ps_pgsolver.specs.Reading.{Answer}
use Rattle.ps_program.proofs.ByCommand.OutcomeLemmas.{gives_parsed}
use Rattle.ps_program.proofs.texts.read_game.Goals as goal

pub returns-in_err-read : goal.returns-in_err-read
returns-in_err-read c = gives_parsed {X = NamedGameData} {V = NamedGameData} cause_number cause_name
    (Answer c.args.text.now) (λ game. game) c.in_err-read.field-0.0 c.from_residual.result
    c.in_err-read.ensures.answer c.from_residual.ensures.1
