use Rattle.std.proofs.Common.{◌≡◌, length, drop}
use Rattle.ps_label.specs.Expression.{AreOverFrom}
use Rattle.ps_label.specs.Truth.{alias_truths, expressions}
use Rattle.ps_diagram.specs.Labels.{HaveTruths}
use Rattle.ps_diagram.specs.Table.{Keeps}
use Rattle.ps_diagram.proofs.store.Store.of_aliases.Given as goal

-- the nodes made so far are the diagrams of the first aliases, in order
abbrev pub invariant-loop-alias : goal.invariant-loop-alias
invariant-loop-alias l = record {
  keeps : Keeps l.fn.self l.self;
  count : length l.nodes.items ≡ l.alias-index;
  within : AreOverFrom l.alias-index l.self.propositions (expressions (drop l.alias-index l.alias-items));
  truths : HaveTruths l.self l.nodes.items (alias_truths (expressions l.labels));
}
