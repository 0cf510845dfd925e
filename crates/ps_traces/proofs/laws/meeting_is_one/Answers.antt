use Rattle.std.proofs.Common.{arith}
use Rattle.ps_traces.proofs.OneMeeting.{meeting_is_one}
use Rattle.ps_traces.proofs.laws.meeting_is_one.Goals as goal

pub returns : goal.returns
returns c = grind (arith, meeting_is_one)
