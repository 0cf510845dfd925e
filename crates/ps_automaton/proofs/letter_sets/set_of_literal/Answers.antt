use Rattle.std.proofs.Common.{arith}
use Rattle.std.proofs.lemmas.Grind.{common_steps}
use Rattle.ps_automaton.proofs.ChainsOfSets.Bits.{in_not}
use Rattle.ps_automaton.proofs.letter_sets.set_of_literal.Goals as goal

pub returns-then-is_negated : goal.returns-then-is_negated
returns-then-is_negated c = grind (arith, common_steps, in_not)
