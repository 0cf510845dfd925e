use Rattle.std.proofs.Common.{arith}
use Rattle.std.proofs.lemmas.List.{length-map}
use Rattle.ps_simulate.proofs.LapsOfRuns.LassoLemmas.{not_empty}
use Rattle.ps_simulate.proofs.lassos.trace_word.Goals as goal

pub returns-clause-sound : goal.returns-clause-sound
returns-clause-sound c = grind (arith, not_empty, length-map)
