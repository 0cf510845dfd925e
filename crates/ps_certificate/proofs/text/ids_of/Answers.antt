use Rattle.std.proofs.Common.{arith}
use Rattle.std.proofs.lemmas.List.{take_more}
use Rattle.std.proofs.Math.Seq.{take-length}
use Rattle.ps_ids.proofs.Members.{absent_before}
use Rattle.ps_certificate.proofs.text.ids_of.Goals as goal

pub push-requires : goal.push-requires
push-requires c = λ has. absent_before c.args.game.now.ids c.loop-vertex.vertex c.game.ensures.well_formed.ids_differ
    (grind arith) (grind arith)

pub loop-vertex-preserved : goal.loop-vertex-preserved
loop-vertex-preserved c = grind (arith, take_more)

pub returns : goal.returns
returns c = grind (arith, take-length c.args.game.now.ids)
