use Rattle.std.proofs.Common.{◌≡◌, ◌+◌, ◌*◌, ◌≤◌, length}
use Rattle.ps_formula.specs.Formulas.{formulas_of}
use Rattle.ps_formula.specs.Inner.Forms.{AreKnown}
use Rattle.ps_formula.proofs.normal_form.forms_of_nodes.Given as goal

abbrev pub invariant-loop-node : goal.invariant-loop-node
invariant-loop-node l = record {
  few : length l.table ≤ length l.initial.table + 6 * l.node-index;
  known : AreKnown l.table l.known.items (formulas_of l.nodes);
  count : length l.known.items ≡ l.node-index;
}
