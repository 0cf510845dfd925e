use Rattle.std.proofs.Common.{◌≡◌, map, take}
use Rattle.ps_tlsf.specs.Names.{outputs_in}
use Rattle.ps_tlsf.specs.NameViews.{name_data}
use Rattle.ps_tlsf.proofs.names.outputs_of.Given as goal

abbrev pub invariant-loop-number : goal.invariant-loop-number
invariant-loop-number l = l.outputs.items ≡ outputs_in (map name_data (take l.number l.propositions))
