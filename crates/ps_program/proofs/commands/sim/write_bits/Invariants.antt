use Rattle.std.proofs.Common.{◌≡◌, ◌+◌, ◌++◌, ◌≤◌, length, take}
use Rattle.std.specs.Prelude.{vec_capacity, vec_len}
use Rattle.ps_simulate.specs.StimulusTexts.{digits_of}
use Rattle.ps_program.proofs.commands.sim.write_bits.Given as goal

abbrev pub invariant-loop-bit : goal.invariant-loop-bit
invariant-loop-bit l = record {
  written : l.text.items ≡ l.initial.text.items ++ digits_of (take l.bit-index l.bits);
  room : vec_len l.text + length l.bits + 1 ≤ vec_capacity l.text + l.bit-index;
}
