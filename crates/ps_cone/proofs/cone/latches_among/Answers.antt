use Rattle.std.proofs.Common.{◌∙◌, arith, sym}
use Rattle.ps_cone.proofs.SelectedLemmas.{selected_kept, selected_lost, selected_none}
use Rattle.ps_cone.proofs.cone.latches_among.Goals as goal
use Rattle.ps_cone.proofs.cone.latches_among.Goals.{then-needed-number+in_ok-push, else-needed-number}

pub loop-number-init : goal.loop-number-init
loop-number-init c = c.new-latches.ensures.items ∙ sym (selected_none c.args.needed.now)

pub loop-number-preserved : goal.loop-number-preserved
loop-number-preserved c = elim c.if-needed-number.branch [
  | then-needed-number+in_ok-push w ↦ grind (arith, selected_kept)
  | else-needed-number w ↦ grind (arith, selected_lost)
]
