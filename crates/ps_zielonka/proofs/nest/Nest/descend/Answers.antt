use Rattle.std.proofs.Common.{arith, rules}
use Rattle.ps_zielonka.proofs.PendingCalls.Done.{done_nest}
use Rattle.ps_zielonka.proofs.PendingCalls.Measure.{falls_done}
use Rattle.ps_zielonka.proofs.PendingCalls.Deep.{depth_done}
use Rattle.ps_zielonka.proofs.nest.Nest.descend.Goals as goal

pub returns-else-cursor-len : goal.returns-else-cursor-len
returns-else-cursor-len g c =
    let nest = done_nest c.requires.searches c.requires.stack
    (λ j after within. c.first_unplaced-cursor.ensures.placed j after (omega (arith, c.len.ensures))) in
    record { stack = nest; falls = search (rules, falls_done); deep = λ so_far. depth_done nest so_far }
