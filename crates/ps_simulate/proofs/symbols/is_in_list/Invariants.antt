use Rattle.std.proofs.Common.{◌≡◌, drop}
use Rattle.ps_hoa.specs.Files.{is_among}
use Rattle.ps_simulate.proofs.symbols.is_in_list.Given as goal

abbrev pub invariant-loop-other : goal.invariant-loop-other
invariant-loop-other l =
    is_among l.proposition (drop l.other-index l.list) ≡ is_among l.proposition l.list
