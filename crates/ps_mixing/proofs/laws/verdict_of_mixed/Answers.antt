use Rattle.ps_mixing.proofs.MixedTraces.{verdict_back, verdict_there}
use Rattle.ps_mixing.proofs.laws.verdict_of_mixed.Goals as goal

pub returns : goal.returns
returns c file mixing is circuit stem lap verdict =
    (verdict_there file mixing is circuit stem lap verdict, verdict_back file mixing is circuit stem lap verdict)
