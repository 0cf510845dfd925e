use Rattle.std.proofs.Common.{sym, arith, length-take}
use Rattle.ps_program.proofs.StreamLemmas.{ConsumesAtMost-next, IsTooLong-next}
use Rattle.ps_program.proofs.reading.read_input.Goals as goal

pub returns-then-len-count-clause-read : goal.returns-then-len-count-clause-read
returns-then-len-count-clause-read g c = grind (arith, IsTooLong-next)

pub returns-then-len-count-clause-bounded : goal.returns-then-len-count-clause-bounded
returns-then-len-count-clause-bounded g c = ConsumesAtMost-next _ _ _ c.chunks.input.items _ _ _
    c.chunks.invariant.consumed c.in-Ok.ensures.bytes.0 (sym c.in-Ok.ensures.bound.1) (grind (arith, length-take))

pub returns-in_err-extend_from_slice-clause-bounded : goal.returns-in_err-extend_from_slice-clause-bounded
returns-in_err-extend_from_slice-clause-bounded g c = ConsumesAtMost-next _ _ _ c.chunks.input.items _ _ _
    c.chunks.invariant.consumed c.in-Ok.ensures.bytes.0 (sym c.in-Ok.ensures.bound.1) (omega arith)
