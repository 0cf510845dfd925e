use Rattle.std.proofs.Common.{◌≡◌, map, take}
use Rattle.ps_simulate.specs.Stimuli.{letters_of}
use Rattle.ps_tableau_product.specs.Graphs.{inputs_along}
use Rattle.ps_tableau_product.proofs.readings.letters_along.Given as goal

abbrev pub invariant-loop-edge : goal.invariant-loop-edge
invariant-loop-edge l =
    letters_of l.letters.items ≡ map (inputs_along l.graph) (take l.edge-index l.walk)
