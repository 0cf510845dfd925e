use Rattle.std.proofs.Common.{ℕ, List, subst}
use Rattle.ps_hoa.specs.Files.{is_among}
use Rattle.ps_mixing.specs.Inner.Merging.{ArePlaces}
use Rattle.ps_mixing.proofs.MovedPropositions.OrderMixings.{order_is_mixing}
use Rattle.ps_mixing.proofs.order.even_order.Goals as goal

pub returns : goal.returns
returns c = order_is_mixing c.args.count (λ p. is_among p c.args.controllable.now) c.in_ok-from.from.items
    c.in_ok-to.to.items c.in_ok-from.ensures
    (subst (λ (l : List ℕ). ArePlaces l c.in_ok-to.to.items) c.deref.ensures.value c.in_ok-to.ensures)
