use Rattle.std.proofs.Common.{ap, ◌∙◌}
use Rattle.ps_text.specs.Answers.{next_of}
use Rattle.ps_pgsolver.specs.Inner.Answered.{number_answer}
use Rattle.ps_pgsolver.proofs.TokensOfGames.SingleSigns.{reads_number}
use Rattle.ps_pgsolver.proofs.reader.number.Goals as goal

pub returns : goal.returns
returns c = reads_number _ c.any_number_at.ensures.rest
    (c.any_number_at.ensures.answer ∙ ap (λ at. number_answer (next_of c.args.tokens.now) at) c.start-start.ensures)
