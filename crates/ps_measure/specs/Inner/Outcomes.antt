-- For one priority, a link that shows that no counts keep the rule of counts (`KeepsRule`): it leads to a vertex of
-- this priority, and lies on a cycle.
use Rattle.std.specs.Prelude.{◌≡◌, ℕ}
use Rattle.ps_components.specs.Graphs.{Digraph, Link, SameOrWay}

-- a link that leads to a vertex of weight 1 and lies on a cycle: the link's source is reachable from its target
pub record IsClosing (g : Digraph) (weight : ℕ → ℕ) (from to : ℕ) : Type 0 where
  pub link : Link g from to
  pub heavy : weight to ≡ 1
  pub back : SameOrWay g to from
