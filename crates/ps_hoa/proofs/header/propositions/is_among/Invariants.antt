use Rattle.std.proofs.Common.{◌≡◌, drop, map}
use Rattle.ps_hoa.specs.Grammar.Header.{is_name_among}
use Rattle.ps_hoa.specs.Memory.{bytes_of}
use Rattle.ps_hoa.proofs.header.propositions.is_among.Given as goal

abbrev pub invariant-loop-other : goal.invariant-loop-other
invariant-loop-other l =
    is_name_among l.name (map bytes_of (drop l.other-index l.names)) ≡ is_name_among l.name (map bytes_of l.names)
