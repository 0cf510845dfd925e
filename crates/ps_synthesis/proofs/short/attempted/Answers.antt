use Rattle.ps_solver.specs.Solvers.{Answered, MayAnswer}
use Rattle.ps_synthesis.proofs.ShortTexts.{Laws, short_of_text}
use Rattle.ps_synthesis.proofs.short.attempted.Goals as goal

pub returns-in-Short-clause-attempt : goal.returns-in-Short-clause-attempt
returns-in-Short-clause-attempt g c =
    let may : MayAnswer = Answered (g.S.Solver.known c.args.solver.now) (g.S.Solver.known c.args.solver.now) in
    let laws : Laws = record {
      is_game = c.game_of_file_is_game.ensures;
      both_hold = c.valid_regions_are_held.ensures;
      none_outside = c.no_strategy_wins_outside.ensures;
      answers = c.certified_circuit_of_file_answers.ensures;
    } in
    short_of_text may c.args.order c.args.text.now c.in_ok-file.file c.in_ok-file.ensures.answer laws
    c.in-Short.short (rw c.in-Short.is at c.in_ok-short.ensures.begun)

pub returns-in_ok-problem-in-Automaton-clause-attempt : goal.returns-in_ok-problem-in-Automaton-clause-attempt
returns-in_ok-problem-in-Automaton-clause-attempt g c =
    let begun = rw c.in-Automaton.is at c.in_ok-short.ensures.begun in
    c.in_ok-problem-in-Automaton.ensures.problem c.args.text.now (record {
      file = c.in_ok-file.file;
      accepted = record { reads = c.in_ok-file.ensures.answer; admitted = begun.0 };
      chain = begun.1.0;
      built = begun.1.1;
    })
