-- Moving operators from the stack to the list, one at a time.
use Rattle.std.proofs.Common.{◌≡◌, List, [], ◌∷◌, ◌++◌, None, Some, rules, refl}
use Rattle.ps_tlsf.specs.Machines.{taken_top, tail_of, unwound}
use Rattle.ps_tlsf.specs.declared.stack.Frame.{Frame}
use Rattle.ps_tlsf.specs.declared.stack.Op.{Op}
use Rattle.ps_tlsf.specs.declared.stack.Sweep.{Sweep}

pub unwinds : (sweep : Sweep) (frames : List Frame) (ops : List Op) (op : Op) → taken_top sweep frames ≡ Some op →
    unwound sweep frames ops ≡ unwound sweep (tail_of frames) (ops ++ op ∷ [])
unfolding unwound
unwinds sweep [] ops op e = search rules
unwinds sweep (frame ∷ frames) ops op e = rw (e, unwound) refl

pub unwinds_no_more : (sweep : Sweep) (frames : List Frame) (ops : List Op) → taken_top sweep frames ≡ None →
    unwound sweep frames ops ≡ record { frames = frames; ops = ops }
unfolding unwound
unwinds_no_more sweep [] ops e = refl
unwinds_no_more sweep (frame ∷ frames) ops e = rw (e, unwound) refl
