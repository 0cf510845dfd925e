use Rattle.std.proofs.Common.{map}
use Rattle.std.specs.Option.{option_copied}
use Rattle.ps_hoa.specs.Memory.{bytes_of}
use Rattle.ps_simulate.specs.Inner.Namings.{ArePut}
use Rattle.ps_simulate.proofs.naming.put_places.Given as goal

abbrev pub invariant-loop-k : goal.invariant-loop-k
invariant-loop-k l =
    ArePut (map bytes_of l.names) l.controllable l.wanted (map option_copied l.symbols) l.k l.places.items
