use Rattle.std.proofs.Common.{rules}
use Rattle.std.proofs.lemmas.List.{get_or-replicate}
use Rattle.ps_verify.proofs.WholeRegion.{lost_round, wins_loops}
use Rattle.ps_verify.proofs.TurnedCycles.{lost_turned}
use Rattle.ps_verify.proofs.cycle.lost_cycle.Goals as goal

pub returns-in-Ok-clause-none : goal.returns-in-Ok-clause-none
returns-in-Ok-clause-none c =
    wins_loops (rw c.number-number.ensures.number at c.number-number.ensures.player) c.count.ensures.well_formed
    c.requires.owners c.in_ok-region.region
    (search (rules, get_or-replicate)) c.in-Ok.ensures.ranks

pub returns-in-Err-BadCycle-clause-cycle : goal.returns-in-Err-BadCycle-clause-cycle
returns-in-Err-BadCycle-clause-cycle c =
    lost_round (lost_turned (rw c.in-Err-BadCycle.field-0-is at c.in-Err-BadCycle.ensures.cycle) c.turned.ensures)
