use Rattle.std.proofs.Common.{◌∙◌, ap, subst, below_more, not, ◌%◌, ℕ}
use Rattle.std.specs.List.{Contains}
use Rattle.ps_certificate.proofs.FlawsAndValidity.Windows.{Contains-found}
use Rattle.ps_certificate.proofs.fitted.is_complete.Goals as goal
use Rattle.ps_certificate.proofs.fitted.is_complete.Goals.{else-priority-parity-via-then-priority-parity+else-is_none}
use Rattle.ps_certificate.proofs.fitted.is_complete.Goals.{else-priority-parity-via-else-priority-parity}

pub loop-vertex-preserved : goal.loop-vertex-preserved
loop-vertex-preserved g c = below_more _ _ c.loop-vertex.invariant (λ has. elim c.else-priority-parity.branch [
  | else-priority-parity-via-then-priority-parity+else-is_none w ↦
      (let P : ℕ → Type 0 = λ p. Contains c.args.rising.list.now
      p in subst P c.priority-priority.ensures (Contains-found c.args.rising.list.now c.priority-priority.result
      w.place_of.result w.place_of.ensures.some (w.is_none.ensures ∙ ap not w.if-is_none.false)))
  | else-priority-parity-via-else-priority-parity w ↦ absurd (w.if-priority-parity.false
      (ap (λ p. p % 2) c.priority-priority.ensures ∙ has))
])
