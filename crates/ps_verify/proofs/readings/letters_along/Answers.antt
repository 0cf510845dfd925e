use Rattle.std.proofs.Common.{arith}
use Rattle.ps_verify.proofs.PathReadings.{letters_push, reads_more}
use Rattle.ps_verify.proofs.readings.letters_along.Goals as goal

pub loop-place-preserved : goal.loop-place-preserved
loop-place-preserved c = rw (c.in_ok-push.ensures.items, letters_push)
    (reads_more c.args.path.now (omega arith) (omega arith) c.loop-place.invariant c.in_ok-inputs_of.ensures)
