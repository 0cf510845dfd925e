use Rattle.ps_fairness.proofs.WalkLemmas.{fair_by, none_fair}
use Rattle.ps_fairness.proofs.cycles.fair_cycle_within.Goals as goal

pub returns-in_default-clause-none : goal.returns-in_default-clause-none
returns-in_default-clause-none g c = none_fair c.requires.components c.requires.met
    (rw c.in_default.is at c.in_ok-full.ensures)

pub returns-clause-found : goal.returns-clause-found
returns-clause-found g c =
    fair_by (rw c.in-Some.is at c.in_ok-full.ensures) (rw c.deref.ensures.value at c.in_ok-closed_walk.ensures)
