use Rattle.std.proofs.Common.{arith, rules}
use Rattle.ps_referee.proofs.ClaimLists.{claims_start, claims_more}
use Rattle.ps_referee.proofs.NonzeroRows.{nonzero_row, row_of_nonzero}
use Rattle.ps_referee.proofs.building.entries_of.Goals as goal

pub loop-vertex-init : goal.loop-vertex-init
loop-vertex-init g c = search (rules, claims_start)

pub of-requires : goal.of-requires
of-requires g c = nonzero_row c.winner_rows-rows.result.now c.loop-vertex.vertex c.width.result c.deref.result.now
    (grind arith) c.width.ensures (grind arith)

pub loop-vertex-preserved : goal.loop-vertex-preserved
loop-vertex-preserved g c = grind (
  arith,
  claims_more,
  row_of_nonzero c.winner_rows-rows.result.now c.loop-vertex.vertex c.width.result c.deref.result.now (grind arith)
      c.width.ensures (grind arith),
)
