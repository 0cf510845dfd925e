use Rattle.std.proofs.Common.{◌≡◌, map, take}
use Rattle.ps_label.specs.Truth.{expressions}
use Rattle.ps_mixing.specs.MixedFiles.{renamed}
use Rattle.ps_mixing.specs.Orders.{place_in}
use Rattle.ps_mixing.proofs.label.+renamed.Given as goal

abbrev pub invariant-each_renamed-loop-label : goal.invariant-each_renamed-loop-label
invariant-each_renamed-loop-label l =
    expressions l.made.items ≡ map (renamed (place_in l.to)) (expressions (take l.label-index l.labels))
