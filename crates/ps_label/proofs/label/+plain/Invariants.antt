use Rattle.std.proofs.Common.{◌≡◌, take}
use Rattle.std.specs.List.{All}
use Rattle.ps_label.specs.Expression.{IsPlainLabel}
use Rattle.ps_label.specs.Truth.{expressions}
use Rattle.ps_label.proofs.label.+plain.Given as goal

-- the labels so far were written again, and are plain
abbrev pub invariant-each_plain-loop-label : goal.invariant-each_plain-loop-label
invariant-each_plain-loop-label l = record {
  same : expressions l.made.items ≡ expressions (take l.label-index l.labels);
  plain : All IsPlainLabel l.made.items;
}
