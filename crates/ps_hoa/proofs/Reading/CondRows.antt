-- The operands of an acceptance condition are the abstract values of the entries of the `Vec` that stores them.
use Rattle.std.proofs.Common.{◌≡◌, List, map, refl, ap, ◌∙◌}
use Rattle.std.specs.declared.vec.Vec.{Vec}
use Rattle.std.specs.declared.alloc.Global.{Global}
use Rattle.ps_hoa.specs.declared.condition.Cond.{Cond, All, Any, Row_of-Cond, end_of-Cond, more_of-Cond}
use Rattle.ps_hoa.specs.declared.condition.Cond.{items-the_row-Cond, items_hidden-the_row-Cond-0}
use Rattle.ps_hoa.specs.declared.condition.Cond.TheBlock.{hidden-the_row-Cond-0}
use Rattle.ps_hoa.specs.Grammar.Conditions.{more, all_hold, any_holds, operands_in}
use Rattle.ps_hoa.specs.Values.{condition_of, conditions_of}

conditions_of-items : {n : _} (k : Row_of-Cond n) →
    conditions_of k ≡ operands_in (map condition_of (items-the_row-Cond n k))
conditions_of-items end_of-Cond = refl
conditions_of-items (more_of-Cond l k) = ap (more (condition_of l)) (conditions_of-items k)

conditions_of-vec : (v : Vec Cond Global) →
    conditions_of (hidden-the_row-Cond-0 v) ≡ operands_in (map condition_of v.items)
conditions_of-vec v = conditions_of-items (hidden-the_row-Cond-0 v)
    ∙ ap (λ (ls : List Cond). operands_in (map condition_of ls)) (items_hidden-the_row-Cond-0 v)

-- the abstract value of a stored conjunction is the conjunction of its operands' abstract values
pub condition_of-All : (v : Vec Cond Global) → condition_of (All v) ≡ all_hold (operands_in (map condition_of v.items))
condition_of-All v = ap all_hold (conditions_of-vec v)

-- the abstract value of a stored disjunction is the disjunction of its operands' abstract values
pub condition_of-Any : (v : Vec Cond Global) → condition_of (Any v) ≡ any_holds (operands_in (map condition_of v.items))
condition_of-Any v = ap any_holds (conditions_of-vec v)
