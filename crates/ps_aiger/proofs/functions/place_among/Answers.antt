use Rattle.std.proofs.Common.{arith}
use Rattle.ps_aiger.proofs.FunctionLemmas.{not_among}
use Rattle.ps_aiger.proofs.functions.place_among.Goals as goal

pub returns-clause-none : goal.returns-clause-none
returns-clause-none c = grind (arith, not_among)
