use Rattle.std.proofs.Common.{◌≡◌, map, take, length}
use Rattle.ps_label.specs.Expression.{literal_expressions}
use Rattle.ps_mixing.specs.MixedFiles.{renamed}
use Rattle.ps_mixing.specs.Orders.{place_in}
use Rattle.ps_mixing.proofs.label.literals_renamed.Given as goal

abbrev pub invariant-loop-literal : goal.invariant-loop-literal
invariant-loop-literal l = record {
  count : length l.made ≡ l.literal-index;
  same : literal_expressions l.made ≡ map (renamed (place_in l.to)) (literal_expressions (take l.literal-index l.literals));
}
