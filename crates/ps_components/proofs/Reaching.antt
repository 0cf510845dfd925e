-- The search visits only the vertices on its initial search path and the vertices reachable from them.
use Rattle.std.proofs.Common.{◌≡◌, ◌∙◌, ℕ, ◌⊎◌, drop, inl, inr, List, [], ◌∷◌, ◌++◌, length, refl, sym}
use Rattle.std.proofs.Common.{arith, Some, slice_get, set}
use Rattle.std.proofs.lemmas.Option.{slice_get_within}
use Rattle.std.proofs.lemmas.List.{nil_from_length}
use Rattle.ps_components.specs.declared.statuses.Status.{Status}
use Rattle.ps_components.specs.declared.search.Pending.{Pending}
use Rattle.ps_components.specs.Graphs.{Digraph, IsReached}
use Rattle.ps_components.specs.ComponentLists.{ComponentsData, IsIn, AreComponents, AreMet}
use Rattle.ps_components.specs.Searching.{IsSoundSearch, ChangesReached, close_all}
use Rattle.ps_components.proofs.Ways.{SameOrWay-join}
use Rattle.ps_components.proofs.Knots.{way_falls}
use Rattle.ps_components.proofs.Places.{slice_get-set_cases, slice_get-drop}
use Rattle.ps_components.proofs.Closing.{close_all_cases}

-- when the last segment is finished, only the statuses of vertices on the search path change
pub reached-closed : (g : Digraph) (statuses : List Status) (active : List ℕ) (bound k : ℕ) →
    ChangesReached g active statuses (close_all statuses (drop bound active) k)
reached-closed g statuses active bound k v = grind (arith, close_all_cases, slice_get-drop)

-- appending a vertex to the search path changes only the status of this vertex, which is reachable from the path
pub reached-entered : {g : Digraph} (statuses : List Status) (active : List ℕ) {item : ℕ} (m : Status) →
    IsReached g active item → ChangesReached g active statuses (set statuses item m)
reached-entered statuses active {item} m r v = grind (arith, slice_get-set_cases)

-- a vertex reachable from one of the roots is reachable from the list of roots
pub reached-root : {g : Digraph} (roots : List ℕ) (k : ℕ) {root v : ℕ} → slice_get roots k ≡ Some root →
    IsReached g (root ∷ []) v → IsReached g roots v
reached-root {g} roots k {root} {v} at r = grind arith

module _ {g : Digraph} {statuses : List Status} {active bounds : List ℕ} {pending : List Pending} {order : List ℕ}
    (s : IsSoundSearch g statuses active bounds pending order) where
  -- after one more step of the search, it still holds that only the statuses of vertices reachable from the initial
  -- search path have changed
  pub reached-more : {statuses' : List Status} {active' bounds' : List ℕ} {pending' : List Pending}
      {order' : List ℕ} (statuses'' : List Status) → IsSoundSearch g statuses' active' bounds' pending' order' →
      ChangesReached g active statuses statuses' → ChangesReached g active' statuses' statuses'' →
      ChangesReached g active statuses statuses''
  reached-more {active' = active'} statuses'' s' before now v = grind (arith, on_path, SameOrWay-join)
    where
      on_path : (p a : ℕ) → slice_get active' p ≡ Some a → IsReached g active a
      on_path p a h = elim (before a) [ inl f ↦ (p, a, grind arith, inl refl) | inr r ↦ r ]

  no_path : length bounds ≡ 0 → active ≡ []
  no_path none = nil_from_length active (grind (arith, s.bounds_start, slice_get_within bounds 0 0))

  -- a search that begins at one vertex changes only the statuses of vertices reachable from this vertex
  pub reached-begun : length bounds ≡ 0 → (item : ℕ) (m : Status) (statuses' : List Status) →
      ChangesReached g (active ++ item ∷ []) (set statuses item m) statuses' →
      ChangesReached g (item ∷ []) statuses statuses'
  reached-begun none item m statuses' now v = here (rw (no_path none) at (now v))
    where
      here : (slice_get statuses' v ≡ slice_get (set statuses item m) v) ⊎ IsReached g (item ∷ []) v →
          (slice_get statuses' v ≡ slice_get statuses v) ⊎ IsReached g (item ∷ []) v
      here (inl e) = elim (slice_get-set_cases statuses item v m) [
        | inl same ↦ inr (0, item, refl, inl (sym same.0))
        | inr n ↦ inl (e ∙ n.1)
      ]
      here (inr r) = inr r

-- after each root is visited, the visited vertices are those reachable from the roots
pub met_is_reached : {g : Digraph} (roots : List ℕ) {c : ComponentsData} → AreComponents g c →
    ((i v : ℕ) → slice_get roots i ≡ Some v → (k : ℕ) × IsIn c v k) → ((v k : ℕ) → IsIn c v k → IsReached g roots v) →
    AreMet g roots c
met_is_reached {g} roots {c} a met only v = grind (arith, way_falls)
