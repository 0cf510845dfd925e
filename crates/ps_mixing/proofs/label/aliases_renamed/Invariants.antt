use Rattle.std.proofs.Common.{◌≡◌, map, take, length}
use Rattle.ps_label.specs.Truth.{expressions}
use Rattle.ps_mixing.specs.MixedFiles.{renamed}
use Rattle.ps_mixing.specs.Orders.{place_in}
use Rattle.ps_mixing.proofs.label.aliases_renamed.Given as goal

abbrev pub invariant-loop-label : goal.invariant-loop-label
invariant-loop-label l = record {
  count : length l.made ≡ l.label-index;
  same : expressions l.made ≡ map (renamed (place_in l.to)) (expressions (take l.label-index l.labels));
}
