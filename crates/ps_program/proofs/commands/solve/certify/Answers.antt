use Rattle.std.proofs.Common.{arith}
use Rattle.ps_synthesis.proofs.CertifyingLemmas.{fault_might}
use Rattle.ps_program.proofs.ByCommand.OutcomeLemmas.{gives_failed, gives_handed}
use Rattle.ps_program.proofs.ByCommand.SolverLemmas.{certifies_refused}
use Rattle.ps_program.proofs.commands.solve.certify.Goals as goal

pub returns-in_err-certificate-clause-answer : goal.returns-in_err-certificate-clause-answer
returns-in_err-certificate-clause-answer g c = grind (arith, gives_handed, gives_failed, certifies_refused, fault_might)

pub returns-in_err-certificate_text-clause-answer : goal.returns-in_err-certificate_text-clause-answer
returns-in_err-certificate_text-clause-answer g c = grind arith

pub returns-clause-answer : goal.returns-clause-answer
returns-clause-answer g c = grind arith
