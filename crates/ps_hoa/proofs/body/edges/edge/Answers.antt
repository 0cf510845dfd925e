use Rattle.std.proofs.Common.{rules}
use Rattle.std.proofs.lemmas.Bool.{iff_false}
use Rattle.ps_hoa.specs.Grammar.Header.{header_data}
use Rattle.ps_hoa.specs.Views.{row_data}
use Rattle.ps_hoa.proofs.Reading.BodyReading.{bracket_serves, int_serves}
use Rattle.ps_hoa.proofs.Reading.HoaExits.{serves_meets}
use Rattle.ps_hoa.proofs.body.edges.edge.Goals as goal

pub returns-then-is_at : goal.returns-then-is_at
returns-then-is_at c = serves_meets _ _ c.labelled_edge.result
    (bracket_serves (header_data c.args.header.now) c.args.before (row_data c.args.row.now) _
    (c.is_at.ensures.0 c.if-is_at.true)) c.labelled_edge.ensures

pub returns-else-is_at : goal.returns-else-is_at
returns-else-is_at c = search (rules, serves_meets, int_serves, iff_false)
