use Rattle.std.proofs.Common.{◌-◌, ◌+◌, ◌≡◌, false, ◌≤◌, vec_len}
use Rattle.std.specs.Io.KnownBytes.{Consumes}
use Rattle.ps_program.specs.Input.{input_limit}
use Rattle.ps_program.proofs.reading.read_input.Given as goal

-- the buffer has the bytes read so far, no call has failed, and the limit on the input's length is not exceeded
abbrev pub invariant-chunks : goal.invariant-chunks
invariant-chunks g l = record {
  within : vec_len l.input ≤ input_limit;
  sound : g.R.Source.has_failed l.reader ≡ false;
  consumed : Consumes (g.R.Source.remaining l.initial.reader) (g.R.Source.remaining l.reader) l.input.items;
}

abbrev pub decreases-chunks : goal.decreases-chunks
decreases-chunks g l = input_limit + 1 - vec_len l.input
