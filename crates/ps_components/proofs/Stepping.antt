-- The last entry of `bounds`, at which the last segment of the search path begins, is the greatest entry. If the last
-- pending link starts in the last segment, all vertices on the search path can reach the link's target.
use Rattle.std.proofs.Common.{◌≡◌, ℕ, ◌-◌, ◌<◌, ◌≤◌, inl, List, length, refl, arith, Some, slice_get}
use Rattle.std.proofs.lemmas.Option.{slice_get_within}
use Rattle.ps_components.specs.declared.statuses.Status.{Status}
use Rattle.ps_components.specs.declared.search.Pending.{Pending}
use Rattle.ps_components.specs.Graphs.{Digraph, Link, Way}
use Rattle.ps_components.specs.Searching.{IsSoundSearch}
use Rattle.ps_components.proofs.Ways.{across}

module _ {g : Digraph} {statuses : List Status} {active bounds : List ℕ} {pending : List Pending} {order : List ℕ}
    (s : IsSoundSearch g statuses active bounds pending order) where
  pub at_most_last : {bound : ℕ} → slice_get bounds (length bounds - 1) ≡ Some bound → (k b : ℕ) →
      slice_get bounds k ≡ Some b → b ≤ bound
  at_most_last {bound} last k b h =
      grind (arith, s.bounds_rise k (length bounds - 1) b bound, slice_get_within bounds k b h)

  module _ {e : Pending} (is_last : slice_get pending (length pending - 1) ≡ Some e) where
    pub pending_within : e.to < length statuses
    pending_within = (let l = s.pending_links _ e is_last in omega (arith, s.within l.0 e.to l.2, s.marked))

    pub all_lead : {bound : ℕ} → slice_get bounds (length bounds - 1) ≡ Some bound → bound ≤ e.from → (p v : ℕ) →
        slice_get active p ≡ Some v → Way (Link g) v e.to
    all_lead last le p v h =
        let l = s.pending_links _ e is_last in
        across (s.together p e.from v l.0 h l.1 (λ k b hb _. omega (arith, at_most_last last k b hb))) l.2 (inl refl)
