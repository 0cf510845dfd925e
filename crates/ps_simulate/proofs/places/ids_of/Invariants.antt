use Rattle.std.proofs.Common.{◌≡◌, take}
use Rattle.ps_simulate.proofs.places.ids_of.Given as goal

abbrev pub invariant-loop-variable : goal.invariant-loop-variable
invariant-loop-variable l = l.ids ≡ take l.variable-index l.variables
