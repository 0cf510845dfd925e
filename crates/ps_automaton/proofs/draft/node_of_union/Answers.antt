use Rattle.std.proofs.Common.{arith}
use Rattle.ps_automaton.proofs.draft.node_of_union.Goals as goal

pub relabel_or-requires-clause-within : goal.relabel_or-requires-clause-within
relabel_or-requires-clause-within c = grind arith

pub returns-clause-within : goal.returns-clause-within
returns-clause-within c = grind arith

pub returns-clause-leaf : goal.returns-clause-leaf
returns-clause-leaf c = grind arith
