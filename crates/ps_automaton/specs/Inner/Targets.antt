-- The target of an edge: the state that the edge leads to, and the edge's acceptance sets as a bit mask. The edge's
-- sets include those of the state that the edge leaves. (For private functions.)
use Rattle.std.specs.Prelude.{◌≡◌, ℕ, ◌^◌, ◌<◌}
use Rattle.ps_label.specs.Truth.{is_in}
use Rattle.ps_hoa.specs.Files.{EdgeData, RowData}
use Rattle.ps_hoa.specs.Edges.{is_marked}
use Rattle.ps_automaton.specs.declared.targets.Target.{Target}

pub record IsTargetOf (row : RowData) (edge : EdgeData) (target : Target) : Type 0 where
  pub state : target.state ≡ edge.target
  pub few : target.sets < 2 ^ 64
  pub sets : (set : ℕ) → set < 64 → is_in set target.sets ≡ is_marked row edge set
