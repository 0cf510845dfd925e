use Rattle.std.proofs.Common.{take, flat_map}
use Rattle.std.specs.Fmt.{HasWritten, IsPlainFormatter}
use Rattle.ps_program.specs.Faults.{spaced}
use Rattle.ps_program.proofs.fault_text.IdsDisplay.fmt.Given as goal

abbrev pub invariant-loop-id : goal.invariant-loop-id
invariant-loop-id g l = IsPlainFormatter l.initial.f
    → HasWritten g.W.Write.write_str_gives l.initial.f (flat_map spaced (take l.id-index l.id-items)) l.f
