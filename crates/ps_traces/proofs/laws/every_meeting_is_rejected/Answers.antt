use Rattle.ps_traces.proofs.Rejected.{meeting_is_rejected}
use Rattle.ps_traces.proofs.laws.every_meeting_is_rejected.Goals as goal

pub returns : goal.returns
returns c = λ order file d k names is. meeting_is_rejected order file d k names (c.circuit_has_one_values.ensures d is)
