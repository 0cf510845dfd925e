use Rattle.std.proofs.Common.{subst}
use Rattle.ps_game.specs.Games.{ParityGame}
use Rattle.ps_referee.specs.Solutions.{IsRefusal}
use Rattle.ps_solution.specs.Solved.{SolutionData}
use Rattle.ps_program.proofs.ByCommand.JudgeLemmas.{refusal_names, refusal_told}
use Rattle.ps_program.proofs.commands.judge.judged.Goals as goal

pub refused-requires : goal.refused-requires
refused-requires c =
    let named = c.args.game.now in
    let inside = c.solution.inside in
    let fault = c.in-Err.fault in
    refusal_names named c.args.solution.now c.game.ensures.well_formed.is_game c.requires fault
    (subst (λ (given : SolutionData). IsRefusal named.game given.won given.moves given.moves fault) c.solution.view_is
    (subst (λ (arena : ParityGame). IsRefusal arena inside.won inside.moves inside.moves fault) c.game.ensures.game
    c.in-Err.ensures.refused))

pub returns-in-Err : goal.returns-in-Err
returns-in-Err c =
    let named = c.args.game.now in
    let inside = c.solution.inside in
    let fault = c.in-Err.fault in
    refusal_told named c.args.solution.now c.game.ensures.well_formed.is_game c.requires c.args.compact fault
    c.refused.result
    (subst (λ (given : SolutionData). IsRefusal named.game given.won given.moves given.moves fault) c.solution.view_is
    (subst (λ (arena : ParityGame). IsRefusal arena inside.won inside.moves inside.moves fault) c.game.ensures.game
    c.in-Err.ensures.refused))
    c.refused.ensures
