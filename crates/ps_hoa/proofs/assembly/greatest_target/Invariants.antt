use Rattle.std.proofs.Common.{◌≡◌, map, drop}
use Rattle.ps_hoa.specs.Files as files
use Rattle.ps_hoa.specs.Views.{edge_data}
use Rattle.ps_hoa.proofs.assembly.greatest_target.Given as goal

abbrev pub invariant-loop-edge : goal.invariant-loop-edge
invariant-loop-edge l =
    files.greatest_target l.greatest (map edge_data (drop l.edge-index l.edges)) ≡ files.greatest_target l.named
    (map edge_data l.edges)
