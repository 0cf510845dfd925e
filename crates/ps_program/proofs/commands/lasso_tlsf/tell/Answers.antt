use Rattle.ps_simulate.proofs.LapsOfRuns.WordLemmas.{some_in_lap}
use Rattle.ps_program.proofs.commands.lasso_tlsf.tell.Goals as goal

pub told-requires-clause-some : goal.told-requires-clause-some
told-requires-clause-some c = some_in_lap c.in-Ok.ensures.word
