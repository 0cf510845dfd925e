use Rattle.ps_product.proofs.CircuitFunctions.Stamps.{put_in}
use Rattle.ps_product.proofs.known.Known.put.Goals as goal

pub returns : goal.returns
returns c =
    rw (← c.self.view_is) (put_in c.self.inside.stamp c.self.inside.entries.items c.args.place c.args.truth)
