use Rattle.std.proofs.Common.{◌≡◌, take}
use Rattle.ps_product.specs.Truths.{bits_of}
use Rattle.ps_product.proofs.nodes.bits_of.Given as goal

abbrev pub invariant-loop-truth : goal.invariant-loop-truth
invariant-loop-truth l = l.bits.items ≡ bits_of l.store (take l.truth-index l.truths) l.letter
