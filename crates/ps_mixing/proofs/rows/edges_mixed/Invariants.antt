use Rattle.std.proofs.Common.{◌≡◌, ℕ, map, take}
use Rattle.ps_hoa.specs.Views.{edge_data}
use Rattle.ps_mixing.specs.MixedFiles.{mixed_edge}
use Rattle.ps_mixing.specs.Orders.{mixing_of}
use Rattle.ps_mixing.proofs.rows.edges_mixed.Given as goal

abbrev pub invariant-loop-edge : goal.invariant-loop-edge
invariant-loop-edge l = (n : ℕ) →
    map edge_data l.made.items ≡ map (mixed_edge n (mixing_of l.order)) (map edge_data (take l.edge-index l.edges))
