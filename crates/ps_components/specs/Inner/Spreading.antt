-- The invariants of the breadth-first search for a path between two vertices.
use Rattle.std.specs.Prelude.{◌≡◌, ℕ, ◌+◌, ◌<◌, ◌≤◌, List, [], ◌∷◌, length, slice_get, Bool, true, false, Some, suc}
use Rattle.ps_components.specs.Graphs.{Digraph, Link, LinksStayWithin}
use Rattle.ps_components.specs.declared.trail.Step.{Step}

-- the vertex of each step except the first was reached by a link from the vertex of an earlier step
abbrev pub ComeBack : Digraph → List Step → Type 0
ComeBack g steps = (i : ℕ) (s : Step) → 0 < i → slice_get steps i ≡ Some s →
    (t : Step) × (s.from < i) × (slice_get steps s.from ≡ Some t) × Link g t.item s.item

-- no vertex was reached by two steps of the breadth-first search
abbrev pub AreApart : List Step → Type 0
AreApart steps =
    (i j : ℕ) (s t : Step) → slice_get steps i ≡ Some s → slice_get steps j ≡ Some t → s.item ≡ t.item → i ≡ j

-- A vertex is seen exactly if a step reached it. If a step before index `place` reached a vertex, the targets of the
-- vertex's links are seen.
pub record IsSpread (g : Digraph) (seen : List Bool) (steps : List Step) (place : ℕ) : Type 0 where
  pub within : LinksStayWithin g
  pub counted : length seen ≡ g.count
  pub back : ComeBack g steps
  pub apart : AreApart steps
  pub reached : (v : ℕ) → slice_get seen v ≡ Some true → (i : ℕ) × (s : Step) ×
      (slice_get steps i ≡ Some s) × (s.item ≡ v)
  pub seen_steps : (i : ℕ) (s : Step) → slice_get steps i ≡ Some s → slice_get seen s.item ≡ Some true
  pub looked : (i w : ℕ) (s : Step) → i < place → slice_get steps i ≡ Some s → Link g s.item w →
      slice_get seen w ≡ Some true

-- a link leads from the vertex of step `place` to the vertex v
pub record LeadsTo (g : Digraph) (v place : ℕ) (seen : List Bool) (steps : List Step) : Type 0 where
  pub to : v < length seen
  pub linked : (s : Step) × (slice_get steps place ≡ Some s) × Link g s.item v
  pub spread : IsSpread g seen steps place

-- the list of the new steps of the breadth-first search begins with the old steps
abbrev pub KeepsSteps : List Step → List Step → Type 0
KeepsSteps old new = (i : ℕ) (s : Step) → slice_get old i ≡ Some s → slice_get new i ≡ Some s

-- each vertex that the breadth-first search saw before is still recorded as seen
abbrev pub KeepsSeen : List Bool → List Bool → Type 0
KeepsSeen old new = (v : ℕ) → slice_get old v ≡ Some true → slice_get new v ≡ Some true

-- the number of vertices that the breadth-first search has not seen
abbrev pub unseen : List Bool → ℕ
unseen [] = 0
unseen (true ∷ bs) = unseen bs
unseen (false ∷ bs) = suc (unseen bs)

-- The vertex `to` is seen now, and the search keeps its invariant (`IsSpread`). The new list of steps begins with the
-- old one, and no seen vertex was forgotten. The number of added steps is at most the number of newly seen vertices.
pub record Reaches (g : Digraph) (to place : ℕ) (old_seen : List Bool) (old_steps : List Step) (seen : List Bool)
    (steps : List Step) : Type 0 where
  pub spread : IsSpread g seen steps place
  pub kept : KeepsSteps old_steps steps
  pub seen_kept : KeepsSeen old_seen seen
  pub reached : slice_get seen to ≡ Some true
  pub fewer : unseen seen + length steps ≤ unseen old_seen + length old_steps
