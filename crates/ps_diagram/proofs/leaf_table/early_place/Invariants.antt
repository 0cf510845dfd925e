use Rattle.ps_diagram.specs.Inner.LeafTables.{LacksBefore}
use Rattle.ps_diagram.proofs.leaf_table.early_place.Given as goal

abbrev pub invariant-loop-place : goal.invariant-loop-place
invariant-loop-place l = LacksBefore l.place l.pairs l.leaf
