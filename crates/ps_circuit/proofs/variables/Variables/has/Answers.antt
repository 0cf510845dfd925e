use Rattle.std.proofs.Common.{◌∙◌, arith}
use Rattle.ps_circuit.proofs.variables.Variables.has.Goals as goal

pub returns : goal.returns
returns c = rw (← c.self.view_is) (c.has.ensures ∙ c.self.invariant.above c.args.variable
    (omega (arith, c.if-variable-len.false, c.len.ensures, c.self.inside.near.ok.0)))
