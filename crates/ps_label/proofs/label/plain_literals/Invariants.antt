use Rattle.std.proofs.Common.{◌≡◌, take}
use Rattle.std.specs.List.{All}
use Rattle.ps_label.specs.Expression.{IsPlainLabel, literal_expressions}
use Rattle.ps_label.specs.Truth.{expressions}
use Rattle.ps_label.proofs.label.plain_literals.Given as goal

-- the labels of the literals so far were made, and are plain
abbrev pub invariant-loop-literal : goal.invariant-loop-literal
invariant-loop-literal l = record {
  same : expressions l.made.items ≡ literal_expressions (take l.literal-index l.literals);
  plain : All IsPlainLabel l.made.items;
}
