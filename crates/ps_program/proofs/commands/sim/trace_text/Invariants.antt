use Rattle.std.proofs.Common.{◌≡◌, ◌≤◌, length, take, vec_len}
use Rattle.ps_program.specs.Commands.Simulating.{HasPrinted}
use Rattle.ps_program.proofs.commands.sim.trace_text.Given as goal

abbrev pub invariant-loop-place : goal.invariant-loop-place
invariant-loop-place l = record {
  printed : HasPrinted l.circuit (take l.place l.letters) l.text.items l.simulator.latches;
  within : l.place ≤ length l.letters;
  same : l.simulator.circuit ≡ l.circuit;
  outputs_fit : vec_len l.outputs ≡ length l.circuit.outputs;
}
