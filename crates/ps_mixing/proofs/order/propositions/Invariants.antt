use Rattle.std.proofs.Common.{◌≡◌}
use Rattle.ps_hoa.specs.Files.{is_among}
use Rattle.ps_mixing.specs.Inner.Merging.{is_by, owned_below}
use Rattle.ps_mixing.proofs.order.propositions.Given as goal

abbrev pub invariant-loop-p : goal.invariant-loop-p
invariant-loop-p l = l.list.items ≡ owned_below (λ p. is_by l.wanted (is_among p l.controllable)) l.p
