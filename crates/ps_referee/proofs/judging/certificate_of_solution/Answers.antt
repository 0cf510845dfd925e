-- A correct solution is closed: no move is wrong, and no remaining edge leads to a vertex with the other winner. The
-- only fault that judging a correct solution can return is out of memory.
use Rattle.ps_referee.proofs.Judged.{solution_closed, judged_err, only_memory}
use Rattle.ps_referee.proofs.judging.certificate_of_solution.Goals as goal

pub counting-requires : goal.counting-requires
counting-requires g c =
    solution_closed (g.A.Arena.game c.args.arena.now) c.args.won.now c.args.first.now c.args.second.now
    c.count-vertices.ensures.well_formed c.requires.holds

pub unreachable-requires : goal.unreachable-requires
unreachable-requires g c =
    let memory = judged_err (g.A.Arena.game c.args.arena.now) c.args.won.now c.args.first.now c.args.second.now
    c.counting.result c.count-vertices.ensures.well_formed c.requires.holds c.counting.ensures.refused in
    rw c.in-Err-Unclosed.field-0-is at (only_memory c.in-Err-Unclosed.is memory)

pub unreachable-requires-in-Err-BadCycle : goal.unreachable-requires-in-Err-BadCycle
unreachable-requires-in-Err-BadCycle g c =
    let memory = judged_err (g.A.Arena.game c.args.arena.now) c.args.won.now c.args.first.now c.args.second.now
    c.counting.result c.count-vertices.ensures.well_formed c.requires.holds c.counting.ensures.refused in
    rw c.in-Err-BadCycle.field-0-is at (only_memory c.in-Err-BadCycle.is memory)
