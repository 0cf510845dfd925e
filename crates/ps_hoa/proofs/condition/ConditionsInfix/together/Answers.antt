use Rattle.std.proofs.Common.{arith}
use Rattle.ps_hoa.proofs.Reading.CondRows.{condition_of-All, condition_of-Any}
use Rattle.ps_hoa.proofs.condition.ConditionsInfix.together.Goals as goal

pub returns-in-And : goal.returns-in-And
returns-in-And c = grind (arith, condition_of-All)

pub returns-in-Or : goal.returns-in-Or
returns-in-Or c = grind (arith, condition_of-Any)
