use Rattle.std.proofs.Common.{◌≡◌, take}
use Rattle.ps_product.specs.Truths.{bits_at}
use Rattle.ps_tableau_product.proofs.graph.ModelGraph.inputs.Given as goal

abbrev pub invariant-loop-proposition : goal.invariant-loop-proposition
invariant-loop-proposition l = l.bits.items ≡ bits_at (take l.proposition-index l.proposition-items) l.letter
