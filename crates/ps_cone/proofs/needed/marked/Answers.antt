use Rattle.std.proofs.Common.{arith}
use Rattle.std.specs.Prelude.{is_some}
use Rattle.ps_cone.proofs.SourceLemmas.{map_more}
use Rattle.ps_cone.proofs.needed.marked.Goals as goal

pub loop-vertex-preserved : goal.loop-vertex-preserved
loop-vertex-preserved c =
    let more = map_more is_some c.args.components.now.numbers c.loop-vertex.vertex c.number.result c.number.ensures in
    grind (arith, more)
