use Rattle.std.proofs.Common.{length}
use Rattle.ps_formula.proofs.Tables.{is_added_normal, table_with}
use Rattle.ps_formula.proofs.normal_formulas.NormalFormulas.add.Goals as goal
use Rattle.ps_formula.specs.NormalForms.{IsNormalOver}

pub invariant_of-self-2 : goal.invariant_of-self-2
invariant_of-self-2 c =
    let over : IsNormalOver (length c.self.inside.nodes) c.args.node = rw c.self.view_is c.requires in
    table_with c.self.invariant over (is_added_normal c.in_ok-index.ensures.0)

pub returns-clause-ok : goal.returns-clause-ok
returns-clause-ok c = rw (← c.self.view_is) (is_added_normal c.in_ok-index.ensures.0)

pub returns-clause-table : goal.returns-clause-table
returns-clause-table c = invariant_of-self-2 c
