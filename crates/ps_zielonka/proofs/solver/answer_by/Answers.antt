use Rattle.std.proofs.Common.{rules}
use Rattle.ps_zielonka.proofs.PendingCalls.Ending.{played_first, played_second}
use Rattle.ps_zielonka.proofs.solver.answer_by.Goals as goal

pub returns : goal.returns
returns g c =
    let region = c.in_ok-region.ensures in
    let first = c.in_ok-first.ensures in
    let second = c.in_ok-second.ensures in
    let plays_first =
    played_first c.deref.ensures.value c.deref-2.ensures.value c.requires.solved region.won first.given in
    let plays_second =
    played_second c.deref.ensures.value c.deref-3.ensures.value c.requires.solved region.won second.given in
    record {
      answer = record {
        region_places = search rules;
        first_places = search rules;
        second_places = search rules;
        first_holds = plays_first.holds;
        second_holds = plays_second.holds;
        first_moves = plays_first.moves;
        second_moves = plays_second.moves;
      };
      is_depth = c.requires.depth;
    }
