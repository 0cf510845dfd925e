use Rattle.std.proofs.Common.{arith}
use Rattle.ps_synthesis.proofs.CertifyingLemmas.{solver_fault}
use Rattle.ps_synthesis.proofs.certifying.certified.Goals as goal

pub returns-in-Ok-clause-both_hold : goal.returns-in-Ok-clause-both_hold
returns-in-Ok-clause-both_hold g c = c.is_certified.ensures.both_hold c.if-is_certified.true

pub returns-in-Ok-clause-none_wins_outside : goal.returns-in-Ok-clause-none_wins_outside
returns-in-Ok-clause-none_wins_outside g c = c.is_certified.ensures.none_wins_outside c.if-is_certified.true

pub returns-in-Err-clause-refused : goal.returns-in-Err-clause-refused
returns-in-Err-clause-refused g c = grind (arith, solver_fault)
