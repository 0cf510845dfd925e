use Rattle.std.proofs.Common.{map}
use Rattle.std.specs.Option.{option_copied}
use Rattle.ps_hoa.specs.Memory.{bytes_of}
use Rattle.ps_product.specs.Inner.Roles.{IsListing}
use Rattle.ps_product.proofs.roles.propositions_of.Given as goal

abbrev pub invariant-loop-symbol : goal.invariant-loop-symbol
invariant-loop-symbol l = IsListing (map bytes_of l.names) l.controllable l.wanted (map option_copied l.symbols)
    l.symbol-index l.list.items
