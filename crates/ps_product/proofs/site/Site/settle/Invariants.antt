use Rattle.std.proofs.Common.{◌++◌, ◌∷◌, []}
use Rattle.ps_product.specs.Inner.Knowing.{Learns}
use Rattle.ps_product.proofs.CircuitFunctions.Settling.{Waits, left}
use Rattle.ps_product.proofs.site.Site.settle.Given as goal

abbrev pub invariant-loop-lower : goal.invariant-loop-lower
invariant-loop-lower l = record {
  learns : Learns l.self l.fn.truths l.truths l.known;
  waits : Waits l.self.net.now l.order l.known l.place (l.stack.items ++ l.top ∷ []);
}

abbrev pub decreases-loop-lower : goal.decreases-loop-lower
decreases-loop-lower l = left l.self.net.now l.order l.known (l.stack.items ++ l.top ∷ [])
