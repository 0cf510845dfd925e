use Rattle.std.proofs.Common.{rules}
use Rattle.std.proofs.Math.Nat.{le_refl}
use Rattle.std.proofs.lemmas.Bool.{false≢true}
use Rattle.std.proofs.lemmas.List.{get_or-set_same, get_or-set_other, length-set}
use Rattle.ps_attractor.proofs.LaidOut.{laid_placed, laid_kept}
use Rattle.ps_attractor.proofs.attractor.laid_out.Goals as goal

pub loop-vertex-preserved : goal.loop-vertex-preserved
loop-vertex-preserved g c =
    search (rules, length-set, laid_placed, laid_kept, get_or-set_other, get_or-set_same, false≢true, le_refl)
