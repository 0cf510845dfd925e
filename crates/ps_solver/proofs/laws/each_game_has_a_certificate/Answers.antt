use Rattle.ps_solver.proofs.CertificateThere.{certificate_there}
use Rattle.ps_solver.proofs.laws.each_game_has_a_certificate.Goals as goal

pub returns : goal.returns
returns c = certificate_there c.each_game_is_divided.ensures c.solution_is_judged.ensures c.one_verdict.ensures.no_flaw
    c.one_verdict.ensures.no_cycle
