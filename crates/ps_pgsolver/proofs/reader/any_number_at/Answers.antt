use Rattle.std.proofs.Common.{arith, ap, ◌∙◌}
use Rattle.ps_text.specs.Answers.{Stream}
use Rattle.ps_text.specs.Readers.{tail}
use Rattle.ps_pgsolver.specs.Signs.{Sign}
use Rattle.ps_pgsolver.proofs.TokensOfGames.NumberTokens.{number_small}
use Rattle.ps_pgsolver.proofs.reader.any_number_at.Goals as goal

pub returns-in-Some-clause-answer : goal.returns-in-Some-clause-answer
returns-in-Some-clause-answer c = grind (arith, number_small)

pub returns-in-None-clause-answer : goal.returns-in-None-clause-answer
returns-in-None-clause-answer c = grind arith

pub returns-in-None-clause-rest : goal.returns-in-None-clause-rest
returns-in-None-clause-rest c = c.next.ensures.rest ∙ ap (λ (s : Stream Sign). tail s) c.in-None.ensures.none
