use Rattle.std.proofs.Common.{arith}
use Rattle.std.proofs.lemmas.Grind.{common_steps}
use Rattle.ps_automaton.proofs.draft.opened.Goals as goal

pub overflow_cast-names : goal.overflow_cast-names
overflow_cast-names c = grind (arith, common_steps)

pub new-requires : goal.new-requires
new-requires c = grind (arith, common_steps)
