use Rattle.std.proofs.Common.{arith}
use Rattle.ps_aiger.specs.Inner.Functions.{behaviour_of}
use Rattle.ps_aiger.proofs.EncodeLemmas.{few_inputs}
use Rattle.ps_aiger.proofs.functions.input_literals.Goals as goal

pub input_literal-requires : goal.input_literal-requires
input_literal-requires c =
    grind (arith, few_inputs (behaviour_of c.args.machine.now) c.inputs.ensures.machine)
