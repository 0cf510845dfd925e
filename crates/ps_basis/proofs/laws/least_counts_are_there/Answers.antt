use Rattle.ps_basis.proofs.LeastCounts.{least_there}
use Rattle.ps_basis.proofs.laws.least_counts_are_there.Goals as goal

pub returns : goal.returns
returns c = least_there c.valid_regions_are_held.ensures c.solution_is_judged.ensures c.one_verdict.ensures.no_flaw
    c.one_verdict.ensures.no_cycle
