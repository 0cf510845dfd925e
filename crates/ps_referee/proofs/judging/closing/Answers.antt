use Rattle.std.proofs.Common.{◌∙◌, ap, length}
use Rattle.ps_certificate.specs.Certificates.{CertificateData}
use Rattle.ps_referee.proofs.Claims.{entry_each}
use Rattle.ps_referee.proofs.judging.closing.Goals as goal

pub closed-requires : goal.closed-requires
closed-requires g c =
    ap (λ (d : CertificateData). length d.entries) c.in_ok-claim.ensures
    ∙ entry_each (g.A.Arena.game c.args.solution.now.arena.now) c.args.solution.now.won.now
    c.args.solution.now.first.now c.args.solution.now.second.now
