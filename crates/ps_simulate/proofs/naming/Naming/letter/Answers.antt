use Rattle.std.proofs.Common.{arith}
use Rattle.std.proofs.lemmas.Nat.{or_lt}
use Rattle.ps_automaton.proofs.ChainsOfSets.Bits.{in_or}
use Rattle.ps_simulate.proofs.naming.Naming.letter.Goals as goal

pub returns-clause-few : goal.returns-clause-few
returns-clause-few c = grind (arith, or_lt)

pub returns-clause-bits : goal.returns-clause-bits
returns-clause-bits c = grind (arith, in_or)
