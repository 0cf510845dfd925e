use Rattle.ps_traces.proofs.Reached.{in_time_where_reached}
use Rattle.ps_traces.proofs.laws.in_time_where_reached.Goals as goal

pub returns : goal.returns
returns c = in_time_where_reached
