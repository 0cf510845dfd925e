use Rattle.ps_referee.proofs.SomeJudgement.{some_judgement}
use Rattle.ps_referee.proofs.laws.solution_is_judged.Goals as goal

pub returns : goal.returns
returns c game won first second is_game =
    some_judgement c.first_flaw_is_there.ensures.closed c.counts_are_there.ensures.either game is_game won first second
