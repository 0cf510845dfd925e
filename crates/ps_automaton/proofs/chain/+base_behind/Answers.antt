use Rattle.std.proofs.Common.{arith}
use Rattle.ps_automaton.proofs.ChainsOfSets.Gatherings.{behind_any, behind_all, but_gathered}
use Rattle.ps_automaton.proofs.chain.+base_behind.Goals as goal

pub returns-in-All-2 : goal.returns-in-All-2
returns-in-All-2 t c = grind (arith, behind_any)

pub returns-in-AllBut : goal.returns-in-AllBut
returns-in-AllBut t c = grind (arith, behind_any, but_gathered)

pub returns-in-TooFew : goal.returns-in-TooFew
returns-in-TooFew t c = grind (arith, behind_any)

pub returns-in-All-3 : goal.returns-in-All-3
returns-in-All-3 t c = grind (arith, behind_all)

pub returns-in-AllBut-2 : goal.returns-in-AllBut-2
returns-in-AllBut-2 t c = grind (arith, behind_all, but_gathered)

pub returns-in-TooFew-2 : goal.returns-in-TooFew-2
returns-in-TooFew-2 t c = grind (arith, behind_all)
