use Rattle.std.proofs.lemmas.Grind.{common_steps}
use Rattle.std.proofs.Common.{arith, rules}
use Rattle.std.proofs.lemmas.Bool.{eqb-true}
use Rattle.ps_measure.proofs.CountRows.Rows.{filled_none}
use Rattle.ps_measure.proofs.measuring.fill.Goals as goal

pub returns-then-is_empty-clause-filled : goal.returns-then-is_empty-clause-filled
returns-then-is_empty-clause-filled g c = search (rules, eqb-true, filled_none)

pub cycle_of-requires : goal.cycle_of-requires
cycle_of-requires g c = grind (arith, common_steps)
