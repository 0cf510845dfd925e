use Rattle.ps_verify.proofs.OneJudgement.{verdict_is_wrong}
use Rattle.ps_verify.proofs.laws.losing_verdict_is_wrong.Goals as goal

pub returns : goal.returns
returns c = λ order role file circuit s verdict loses is. verdict_is_wrong loses verdict is
