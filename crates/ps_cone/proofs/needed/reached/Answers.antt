use Rattle.std.proofs.lemmas.Result.{IfOk-weaker}
use Rattle.ps_cone.proofs.OutputNeeds.{flags_of}
use Rattle.ps_cone.proofs.needed.reached.Goals as goal

pub returns : goal.returns
returns c = IfOk-weaker c.marked.result _ _ (λ flags e. flags_of c.in_ok-components.ensures.components
    c.in_ok-components.ensures.met e) c.marked.ensures
