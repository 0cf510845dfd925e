use Rattle.ps_program.specs.Finders.{Finders}
use Rattle.ps_program.proofs.AtLeastOne.SomeAnswer.{plain_some, solved_some, synthesis_some}
use Rattle.ps_program.proofs.AtLeastOne.SomeLaws.{Below}
use Rattle.ps_program.proofs.AtLeastOne.SomeLine.{is_line_some}
use Rattle.ps_program.proofs.laws.some_answer.Goals as goal

pub returns : goal.returns
returns g c =
    let finders : Finders = g.F.KnownFinders.finders in
    let below : Below = record {
      some_game = c.some_answer.ensures;
      game_sound = c.read_game_is_game.ensures;
      some_certificate = c.certificate_text_has_some_answer.ensures;
      fitting = c.read_certificate_fits.ensures;
      closed_or = c.first_flaw_is_there.ensures.closed;
      valid_or = c.first_flaw_is_there.ensures.valid;
      held = c.valid_regions_are_held.ensures;
      none_outside = c.no_strategy_wins_outside.ensures;
      some_solution = c.some_answer-2.ensures;
      judged = c.solution_is_judged.ensures;
      some_file = c.some_answer-3.ensures;
      file_sound = c.sound_files.ensures;
      some_refusal = c.refusal_is_one.ensures.some;
      file_game = c.game_is_there.ensures;
      file_game_sound = c.game_of_file_is_game.ensures;
      some_circuit = c.some_answer-4.ensures;
      circuit_sound = c.read_circuit_is_circuit.ensures;
      some_stimulus = c.stimulus_text_has_some_answer.ensures;
      values = c.circuit_has_one_values.ensures;
      symbols_or = c.symbols_are_decided.ensures;
      verdict = c.verdict_is_there.ensures;
      names_differ = c.names_differ.ensures.distinct;
      word = c.word_is_there.ensures;
      decided = c.lasso_truths.ensures.decided;
      winners_circuit = c.winners_circuit_is_there.ensures;
      circuit_answers = c.certified_circuit_of_file_answers.ensures;
    } in
    record {
      line = is_line_some;
      answer = plain_some below finders;
      solved = solved_some below finders;
      synthesis = synthesis_some below finders;
    }
