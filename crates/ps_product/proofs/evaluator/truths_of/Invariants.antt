use Rattle.std.proofs.Common.{take}
use Rattle.ps_product.specs.Inner.Knowing.{AreTruthsAlong, Learns}
use Rattle.ps_product.proofs.evaluator.truths_of.Given as goal

abbrev pub invariant-loop-wire : goal.invariant-loop-wire
invariant-loop-wire l = record {
  learns : Learns l.site l.fn.truths l.truths l.known;
  made : AreTruthsAlong l.site l.truths (take l.wire-index l.wires) l.made.items;
}
