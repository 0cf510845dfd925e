use Rattle.ps_components.specs.Searching.{KeepsStatuses, ChangesReached}
use Rattle.ps_components.specs.Searches.{IsSound, turns_left}
use Rattle.ps_components.proofs.search.Search.run.Given as goal

abbrev pub invariant-loop-bound : goal.invariant-loop-bound
invariant-loop-bound g l = record {
  sound : IsSound (g.G.Graph.graph l.graph) l.self;
  kept : KeepsStatuses l.initial.self.statuses l.self.statuses;
  reached : ChangesReached (g.G.Graph.graph l.graph) l.initial.self.active.items l.initial.self.statuses
      l.self.statuses;
}

abbrev pub decreases-loop-bound : goal.decreases-loop-bound
decreases-loop-bound g l = turns_left (g.G.Graph.graph l.graph) l.self
