use Rattle.std.proofs.Common.{arith}
use Rattle.ps_automaton.proofs.draft.label_node.Goals as goal

pub of_label_by-requires-clause-within : goal.of_label_by-requires-clause-within
of_label_by-requires-clause-within c = grind arith
