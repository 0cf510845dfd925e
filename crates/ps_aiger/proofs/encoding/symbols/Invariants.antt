use Rattle.std.proofs.Common.{◌≡◌, map, take}
use Rattle.ps_circuit.specs.Drafts.{name_bytes}
use Rattle.ps_aiger.specs.Inner.Functions.{behaviour_of}
use Rattle.ps_aiger.specs.Encoded.{symbols_of}
use Rattle.ps_aiger.proofs.encoding.symbols.Given as goal

abbrev pub invariant-loop-proposition : goal.invariant-loop-proposition
invariant-loop-proposition l =
    map name_bytes l.names.items ≡ symbols_of (behaviour_of l.machine).names (take l.proposition-index l.propositions)
