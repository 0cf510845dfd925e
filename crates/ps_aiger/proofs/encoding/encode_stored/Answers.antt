use Rattle.std.proofs.Common.{sym, ap, arith}
use Rattle.ps_aiger.specs.Inner.Functions.{behaviour_of}
use Rattle.ps_aiger.specs.Wires.{Wired}
use Rattle.ps_circuit.proofs.GatesAndLinks.GateLemmas.{passed}
use Rattle.ps_aiger.proofs.EncodeLemmas.{few_inputs}
use Rattle.ps_aiger.proofs.WiredLemmas.{above-outputs, out_of_literals}
use Rattle.ps_aiger.proofs.encoding.encode_stored.Goals as goal

pub overflow_cast-inputs : goal.overflow_cast-inputs
overflow_cast-inputs c = grind (arith, few_inputs (behaviour_of c.args.machine.now) c.memories.ensures.machine)

pub overflow_add-inputs : goal.overflow_add-inputs
overflow_add-inputs c = grind (arith, few_inputs (behaviour_of c.args.machine.now) c.memories.ensures.machine)

pub new-builder-requires : goal.new-builder-requires
new-builder-requires c = grind (arith, few_inputs (behaviour_of c.args.machine.now) c.memories.ensures.machine)

pub next_literals-requires-clause-given : goal.next_literals-requires-clause-given
next_literals-requires-clause-given c = grind arith

pub output_literals-requires-clause-behind : goal.output_literals-requires-clause-behind
output_literals-requires-clause-behind c = sym (ap (λ (n : Wired). n.draft) c.in_ok-next.ensures.made)

pub circuit_of-requires-clause-given : goal.circuit_of-requires-clause-given
circuit_of-requires-clause-given c = grind arith

pub circuit_of-requires-clause-enough : goal.circuit_of-requires-clause-enough
circuit_of-requires-clause-enough c = grind arith

pub circuit_of-requires-clause-least : goal.circuit_of-requires-clause-least
circuit_of-requires-clause-least c = grind arith

pub circuit_of-requires-clause-next_wired : goal.circuit_of-requires-clause-next_wired
circuit_of-requires-clause-next_wired c = grind arith

pub returns-in_err-next-clause-too_large : goal.returns-in_err-next-clause-too_large
returns-in_err-next-clause-too_large c e = grind (arith, out_of_literals, above-outputs, passed)

pub returns-in_err-outputs-clause-too_large : goal.returns-in_err-outputs-clause-too_large
returns-in_err-outputs-clause-too_large c e = grind (arith, out_of_literals, passed)
