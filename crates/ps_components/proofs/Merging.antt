-- Merging the last segments of the search path, or removing a pending link, preserves the invariant of the search.
use Rattle.std.proofs.Common.{◌≡◌, ℕ, ◌-◌, ◌≤◌, ◌⊎◌, inl, inr, List, length, take, arith, Some, slice_get}
use Rattle.std.proofs.lemmas.Bool.{cases_lt}
use Rattle.ps_components.specs.declared.statuses.Status.{Status}
use Rattle.ps_components.specs.declared.statuses.Status.TheVariants.{Active}
use Rattle.ps_components.specs.declared.search.Pending.{Pending}
use Rattle.ps_components.specs.Graphs.{Digraph, Link}
use Rattle.ps_components.specs.Searching.{IsSettled, closed, active as settled_active, IsPending, IsSoundSearch}
use Rattle.ps_components.specs.Searching.{IsCutAt}
use Rattle.ps_components.proofs.Places.{slice_get-take_back, slice_get-but_last}
use Rattle.ps_components.proofs.Ways.{across}

module _ {g : Digraph} {statuses : List Status} {active bounds : List ℕ} {pending : List Pending} {order : List ℕ}
    (s : IsSoundSearch g statuses active bounds pending order) where
  -- if the last segment of the search path has a link to a vertex w on the path, the segment of w and all later
  -- segments can be merged
  pub sound-merged : {from place v w : ℕ} {fewer : List ℕ} → slice_get active from ≡ Some v → Link g v w →
      slice_get statuses w ≡ Some (Active place) → ((k b : ℕ) → slice_get bounds k ≡ Some b → b ≤ from) →
      IsCutAt bounds place fewer → IsSoundSearch g statuses active fewer pending order
  sound-merged {from} {place} {v} {w} {fewer} hv l hw last cut = record {
    within = s.within;
    marked = s.marked;
    active_marked = s.active_marked;
    marked_active = s.marked_active;
    bounds_rise = λ i j b c hi hj. s.bounds_rise i j b c (cut.part i b hi) (cut.part j c hj);
    bounds_within = λ i b h. s.bounds_within i b (cut.part i b h);
    bounds_start = λ h. cut.kept 0 0 (s.bounds_start h) (omega arith);
    pending_links = s.pending_links;
    pending_rise = s.pending_rise;
    together = λ p q a b hp hq later. elim (cases_lt place p) [
      | inl lt ↦ inr (across (s.together p from a v hp hv (λ k c h _. last k c h)) l (s.together place q w b
          (s.marked_active place w hw) hq (λ k c h le. later k c (cut.kept k c h le) (omega arith))))
      | inr le ↦ s.together p q a b hp hq (λ k c h lc. later k c (cut.kept k c h (omega arith)) lc)
    ];
    looked_at = λ p a b h m. elim (s.looked_at p a b h m) [ inl y ↦ inl y | inr y ↦ inr (still p b y) ];
    closed_links = s.closed_links;
    same = s.same;
    numbered = s.numbered;
    begins = s.begins;
    starts = s.starts;
    listed = s.listed;
    ordered = s.ordered;
    rises = s.rises;
    once = s.once;
  }
    where
      still : (p w : ℕ) → IsSettled statuses bounds p w → IsSettled statuses fewer p w
      still p w (closed k c) = closed k c
      still p w (settled_active q a later) = settled_active q a (λ k b h. later k b (cut.part k b h))

  -- a pending link can be removed if its target is finished, or is on the search path, either in the segment of the
  -- link's start or in a later segment
  pub sound-taken : {e : Pending} → slice_get pending (length pending - 1) ≡ Some e →
      IsSettled statuses bounds e.from e.to →
      IsSoundSearch g statuses active bounds (take (length pending - 1) pending) order
  sound-taken {e} last settled = record {
    within = s.within;
    marked = s.marked;
    active_marked = s.active_marked;
    marked_active = s.marked_active;
    bounds_rise = s.bounds_rise;
    bounds_within = s.bounds_within;
    bounds_start = s.bounds_start;
    pending_links = λ i f h. s.pending_links i f (back i f h);
    pending_rise = λ i j f g hi hj. s.pending_rise i j f g (back i f hi) (back j g hj);
    together = s.together;
    looked_at = λ p v w h l. elim (s.looked_at p v w h l) [ inl y ↦ still p w y | inr y ↦ inr y ];
    closed_links = s.closed_links;
    same = s.same;
    numbered = s.numbered;
    begins = s.begins;
    starts = s.starts;
    listed = s.listed;
    ordered = s.ordered;
    rises = s.rises;
    once = s.once;
  }
    where
      back : (i : ℕ) (f : Pending) → slice_get (take (length pending - 1) pending) i ≡ Some f →
          slice_get pending i ≡ Some f
      back i f h = slice_get-take_back (length pending - 1) pending i f h

      still : (p w : ℕ) → IsPending pending p w → IsPending (take (length pending - 1) pending) p w ⊎
          IsSettled statuses bounds p w
      still p w y = elim (slice_get-but_last pending last y.at y.step y.is) [
        | inl k ↦ inl (record { at = y.at; step = y.step; is = k; from_is = y.from_is; to_is = y.to_is })
        | inr k ↦ inr (rw (← y.from_is, ← y.to_is, ← k) settled)
      ]
