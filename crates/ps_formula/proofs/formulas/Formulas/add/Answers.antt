use Rattle.std.proofs.Common.{length}
use Rattle.ps_formula.proofs.Tables.{is_added, table_with}
use Rattle.ps_formula.proofs.formulas.Formulas.add.Goals as goal
use Rattle.ps_formula.specs.Formulas.{IsOver}

pub invariant_of-self-2 : goal.invariant_of-self-2
invariant_of-self-2 c =
    let over : IsOver (length c.self.inside.nodes) c.args.node = rw c.self.view_is c.requires in
    table_with c.self.invariant over (is_added c.in_ok-index.ensures.0)

pub returns-clause-ok : goal.returns-clause-ok
returns-clause-ok c = rw (← c.self.view_is) (is_added c.in_ok-index.ensures.0)

pub returns-clause-table : goal.returns-clause-table
returns-clause-table c = invariant_of-self-2 c
