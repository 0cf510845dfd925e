use Rattle.std.proofs.Common.{◌≡◌, map, take}
use Rattle.ps_tableau_product.specs.JointGraphs.{letter_along}
use Rattle.ps_tableau_product.proofs.joint.JointGraph.letters.Given as goal

abbrev pub invariant-loop-edge : goal.invariant-loop-edge
invariant-loop-edge l = l.letters.items ≡ map (letter_along l.self) (take l.edge-index l.walk)
