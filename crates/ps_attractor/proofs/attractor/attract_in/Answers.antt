use Rattle.std.proofs.lemmas.Result.{IfOk-weaker}
use Rattle.ps_attractor.proofs.LaidOut.{attractor_of}
use Rattle.ps_attractor.proofs.attractor.attract_in.Goals as goal

pub returns : goal.returns
returns g c =
    let made = rw c.in_ok-edges.ensures at c.in_ok-tables.ensures.attracted in
    IfOk-weaker c.read_off.result _ _
    (λ a read. attractor_of c.requires.goal.is_subgame c.requires.goal.target_within made read)
    c.read_off.ensures
