use Rattle.std.proofs.Common.{rules}
use Rattle.ps_certificate.proofs.FlawsAndValidity.FirstFlaws.{first_move}
use Rattle.ps_certificate.proofs.closing.unsound_at.Goals as goal

pub returns-then-not-has_right_move-clause-some : goal.returns-then-not-has_right_move-clause-some
returns-then-not-has_right_move-clause-some g c = search (rules, first_move)
