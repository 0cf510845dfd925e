-- The abstract value of a stored acceptance condition.
use Rattle.std.specs.Prelude.{true, false}
use Rattle.ps_hoa.specs.Grammar.Conditions.{SetData, Condition, Conditions, constant, infinitely, finitely, all_hold}
use Rattle.ps_hoa.specs.Grammar.Conditions.{any_holds}
use Rattle.ps_hoa.specs.Grammar.Conditions.{last, more}
use Rattle.ps_hoa.specs.declared.condition.Set.{Set}
use Rattle.ps_hoa.specs.declared.condition.Cond.{Cond, Always, Never, Inf, Fin, All', Any', Row_of-Cond, end_of-Cond}
use Rattle.ps_hoa.specs.declared.condition.Cond.{more_of-Cond}

abbrev mutual
  pub condition_of : Cond → Condition
  condition_of Always = constant true
  condition_of Never = constant false
  condition_of (Inf set complemented) = infinitely (record { number = set; complemented = complemented })
  condition_of (Fin set complemented) = finitely (record { number = set; complemented = complemented })
  condition_of (All' shape row) = all_hold (conditions_of row)
  condition_of (Any' shape row) = any_holds (conditions_of row)

  pub conditions_of : {m : _} → Row_of-Cond m → Conditions
  conditions_of end_of-Cond = last
  conditions_of (more_of-Cond c row) = more (condition_of c) (conditions_of row)

abbrev pub set_data : Set → SetData
set_data set = record { number = set.number; complemented = set.complemented }
