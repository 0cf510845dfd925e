use Rattle.std.proofs.Common.{arith}
use Rattle.ps_components.proofs.Entering.{sound-entered, kept-entered, fewer-entered}
use Rattle.ps_components.proofs.search.Search.enter.Goals as goal

pub returns : goal.returns
returns g c =
    let r = c.requires in
    grind (
      arith,
      sound-entered r.sound r.reached.within r.reached.unseen r.reached.lead,
      fewer-entered r.sound r.reached.within r.reached.unseen r.reached.lead,
      kept-entered r.sound r.reached.within r.reached.unseen r.reached.lead,
    )
