-- SeesNoInput c: the outputs of a circuit depend only on the latches, not on the inputs.
use Rattle.std.specs.Prelude.{◌≡◌, Bool, List}
use Rattle.ps_circuit.specs.Circuits.{CircuitData}
use Rattle.ps_circuit.specs.Values.{Steps}

abbrev pub SeesNoInput : CircuitData → Type 0
SeesNoInput c =
    (latches inputs others outputs other_outputs next other_next : List Bool) →
    Steps c latches inputs outputs next → Steps c latches others other_outputs other_next → outputs ≡ other_outputs
