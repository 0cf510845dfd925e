use Rattle.ps_traces.proofs.ShapeOf.{has_shape}
use Rattle.ps_traces.proofs.laws.circuit_has_shape.Goals as goal

pub returns : goal.returns
returns c = has_shape
