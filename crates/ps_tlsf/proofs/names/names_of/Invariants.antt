use Rattle.std.proofs.Common.{◌≡◌, map, take}
use Rattle.ps_tlsf.specs.Names.{names_in}
use Rattle.ps_tlsf.specs.NameViews.{name_data}
use Rattle.ps_tlsf.proofs.names.names_of.Given as goal

abbrev pub invariant-loop-proposition : goal.invariant-loop-proposition
invariant-loop-proposition l =
    map (λ name. name.items) l.names.items ≡ names_in (map name_data (take l.proposition-index l.propositions))
