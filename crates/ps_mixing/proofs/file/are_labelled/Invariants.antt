use Rattle.std.proofs.Common.{map, take}
use Rattle.std.specs.List.{All}
use Rattle.ps_hoa.specs.Views.{edge_data}
use Rattle.ps_mixing.specs.MixedFiles.{IsWithLabel}
use Rattle.ps_mixing.proofs.file.are_labelled.Given as goal

abbrev pub invariant-loop-edge : goal.invariant-loop-edge
invariant-loop-edge l = All IsWithLabel (map edge_data (take l.edge-index l.edges))
