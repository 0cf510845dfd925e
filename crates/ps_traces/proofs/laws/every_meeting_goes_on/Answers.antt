use Rattle.ps_traces.proofs.Meetings.{in_lasso}
use Rattle.ps_traces.proofs.laws.every_meeting_goes_on.Goals as goal

pub returns : goal.returns
returns c = λ order d k is. in_lasso order d k (c.circuit_has_one_values.ensures d is)
