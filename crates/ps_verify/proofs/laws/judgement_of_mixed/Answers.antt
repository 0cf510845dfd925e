use Rattle.ps_verify.proofs.MixedJudgements.{judgement_back}
use Rattle.ps_verify.proofs.laws.judgement_of_mixed.Goals as goal

pub returns : goal.returns
returns c file mixing is order role circuit judgement =
    judgement_back file mixing is circuit order role judgement
