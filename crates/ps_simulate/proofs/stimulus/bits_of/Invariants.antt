use Rattle.std.proofs.Common.{◌≡◌, ◌+◌, ◌≤◌, length, take}
use Rattle.std.specs.Prelude.{vec_capacity, vec_len}
use Rattle.ps_simulate.specs.StimulusTexts.{digits_of}
use Rattle.ps_simulate.proofs.stimulus.bits_of.Given as goal

abbrev pub invariant-loop-byte : goal.invariant-loop-byte
invariant-loop-byte l = record {
  done : digits_of l.bits.items ≡ take l.byte-index l.line;
  room : vec_len l.bits + length l.line ≤ vec_capacity l.bits + l.byte-index;
}
