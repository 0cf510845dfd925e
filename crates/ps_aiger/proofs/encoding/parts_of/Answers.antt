use Rattle.std.proofs.Common.{arith, rules}
use Rattle.ps_aiger.specs.Inner.Functions.{behaviour_of}
use Rattle.ps_aiger.proofs.EncodeLemmas.{few_inputs, inputs_within, outputs_within}
use Rattle.ps_aiger.proofs.encoding.parts_of.Goals as goal

pub overflow_cast-first_latch : goal.overflow_cast-first_latch
overflow_cast-first_latch c =
    grind (arith, few_inputs (behaviour_of c.args.machine.now) c.inputs-inputs.ensures.machine)

pub overflow_add-first_latch : goal.overflow_add-first_latch
overflow_add-first_latch c =
    grind (arith, few_inputs (behaviour_of c.args.machine.now) c.inputs-inputs.ensures.machine)

pub symbols-requires : goal.symbols-requires
symbols-requires c =
    let m = c.args.machine.now in
    grind (arith, inputs_within (behaviour_of m) c.inputs-inputs.ensures.machine)

pub symbols-requires-2 : goal.symbols-requires-2
symbols-requires-2 c =
    let m = c.args.machine.now in
    grind (arith, outputs_within (behaviour_of m) c.outputs.ensures.machine)

pub returns-clause-machine : goal.returns-clause-machine
returns-clause-machine c = search rules
