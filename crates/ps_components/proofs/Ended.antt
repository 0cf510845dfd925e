-- The components that a search has finished are strongly connected components; once the search path is empty, every
-- seen vertex has a component.
use Rattle.std.proofs.Common.{◌≡◌, ◌∙◌, ℕ, ◌<◌, ◌⊎◌, inl, inr, List, length, map, refl, ap, arith, Some}
use Rattle.std.proofs.Common.{get_or, slice_get}
use Rattle.std.specs.Option.{option_map}
use Rattle.std.proofs.lemmas.Option.{slice_get_within, slice_get-get_or, slice_get-map}
use Rattle.std.proofs.lemmas.List.{length-map}
use Rattle.ps_components.specs.declared.statuses.Status.{Status}
use Rattle.ps_components.specs.declared.statuses.Status.TheVariants.{Unseen, Active, Closed}
use Rattle.ps_components.specs.declared.search.Pending.{Pending}
use Rattle.ps_components.specs.Graphs.{Digraph, IsReached}
use Rattle.ps_components.specs.ComponentLists.{ComponentsData, IsIn, AreComponents, AreMet, AreAllMet}
use Rattle.ps_components.specs.Searching.{IsSoundSearch, AreListed, component_of}
use Rattle.ps_components.proofs.Reaching.{met_is_reached}

module _ {g : Digraph} {statuses : List Status} {active bounds : List ℕ} {pending : List Pending} {order : List ℕ}
    (s : IsSoundSearch g statuses active bounds pending order) where
  abbrev found : ComponentsData
  found = record { numbers = map component_of statuses; order = order }

  closed-in : (v k : ℕ) → slice_get statuses v ≡ Some (Closed k) → IsIn found v k
  closed-in v k h = slice_get-map component_of statuses v ∙ ap (option_map component_of) h

  in-closed : (v k : ℕ) → IsIn found v k → slice_get statuses v ≡ Some (Closed k)
  in-closed v k h = grind (arith, slice_get-map)

  pub components-sound : AreComponents g found
  components-sound = record {
    counted = length-map statuses component_of ∙ s.marked;
    falls = λ v k w h l. (let m = s.closed_links v k w (in-closed v k h) l in (m.0, closed-in w m.0 m.1, m.2));
    same = λ v w k hv hw. s.same v w k (in-closed v k hv) (in-closed w k hw);
    below = λ v k h. s.numbered v k (in-closed v k h);
    begins = λ v k h. (let b = s.begins v k (in-closed v k h) in (b.0, b.1, closed-in b.0 k b.2));
    starts = λ i v k h hv. s.starts i v k h (in-closed v k hv);
    listed = λ v k h. s.listed v k (in-closed v k h);
    ordered = λ i v h. (let c = s.ordered i v h in (c.0, closed-in v c.0 c.1));
    rises = λ i j v w k m lt hi hj hv hw. s.rises i j v w k m lt hi hj (in-closed v k hv) (in-closed w m hw);
    once = s.once;
  }

  -- if the search path is empty, no vertex has the status `Active`
  none_active : length bounds ≡ 0 → (p v : ℕ) → slice_get statuses v ≡ Some (Active p) → ⊥
  none_active none p v at =
      let start = s.bounds_start (omega (arith, slice_get_within active p v (s.marked_active p v at))) in
      omega (arith, none, slice_get_within bounds 0 0 start)

  -- if the search path is empty, every seen vertex is in the list of finished vertices
  pub all_listed : length bounds ≡ 0 → AreListed statuses order
  all_listed none = grind (arith, slice_get_within, which)
    where
      which : (v : ℕ) (m : Status) → slice_get statuses v ≡ Some m →
          (m ≡ Unseen) ⊎ ((i : ℕ) × (slice_get order i ≡ Some v))
      which v Unseen at = inl refl
      which v (Active p) at = absurd (none_active none p v at)
      which v (Closed k) at = inr (s.listed v k at)

  -- if the search path is empty, every seen vertex has a component
  met : length bounds ≡ 0 → (v : ℕ) → v < g.count → (slice_get statuses v ≡ Some Unseen → ⊥) → (k : ℕ) × IsIn found v k
  met none v lt seen = which (get_or statuses v Unseen) (slice_get-get_or statuses v Unseen (omega (arith, s.marked)))
    where
      which : (m : Status) → slice_get statuses v ≡ Some m → (k : ℕ) × IsIn found v k
      which m h = grind (arith, none_active, closed-in)

  pub all_met : length bounds ≡ 0 → ((v : ℕ) → v < g.count → slice_get statuses v ≡ Some Unseen → ⊥) → AreAllMet g found
  all_met none seen v lt = met none v lt (seen v lt)

  pub roots_met : length bounds ≡ 0 → (roots : List ℕ) → ((i v : ℕ) → slice_get roots i ≡ Some v → v < g.count) →
      ((i v : ℕ) → slice_get roots i ≡ Some v → slice_get statuses v ≡ Some Unseen → ⊥) →
      ((v k : ℕ) → slice_get statuses v ≡ Some (Closed k) → IsReached g roots v) → AreMet g roots found
  roots_met none roots within seen only = met_is_reached roots components-sound
      (λ i v h. met none v (within i v h) (seen i v h)) (λ v k h. only v k (in-closed v k h))
