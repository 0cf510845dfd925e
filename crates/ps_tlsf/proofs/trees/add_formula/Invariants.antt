use Rattle.std.proofs.Common.{◌≡◌, [], take}
use Rattle.ps_tlsf.specs.Trees.{built}
use Rattle.ps_tlsf.specs.Inner.Building.{AreIn, Keeps, stack_of}
use Rattle.ps_tlsf.proofs.trees.add_formula.Given as goal

abbrev pub invariant-loop-op : goal.invariant-loop-op
invariant-loop-op l = record {
  keeps : Keeps l.fn.table l.table;
  valid : AreIn l.table l.stack.items;
  stack : stack_of l.table l.stack.items ≡ built [] (take l.op-index l.ops);
}
