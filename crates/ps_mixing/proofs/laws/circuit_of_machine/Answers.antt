use Rattle.std.specs.Prelude.{◌≡◌, ◌<◌, length, map}
use Rattle.std.specs.List.{AllPairs}
use Rattle.ps_mixing.proofs.MixedCircuits.{encodes_moved, wired_moved}
use Rattle.ps_mixing.proofs.MixedMachineParts.{inputs_there, many}
use Rattle.ps_mixing.proofs.laws.circuit_of_machine.Goals as goal

pub returns : goal.returns
returns c board mixing is names m machine has circuit encodes wired =
    let count : length m.names ≡ board.propositions = many board mixing is m machine names has in
    let rise : AllPairs (λ p q. p < q) (map mixing.to m.inputs) = inputs_there board mixing is m machine names has in (
      encodes_moved is m count machine.inputs_rise rise circuit encodes,
      wired_moved is m count machine.inputs_rise rise circuit wired,
    )
