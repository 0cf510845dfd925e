use Rattle.ps_traces.proofs.Inputs.{each_goes_on}
use Rattle.ps_traces.proofs.laws.every_input_goes_on.Goals as goal

pub returns : goal.returns
returns c = λ d is. each_goes_on d (c.circuit_has_one_values.ensures d is)
