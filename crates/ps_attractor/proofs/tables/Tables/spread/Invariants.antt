use Rattle.std.proofs.Common.{◌≡◌, ◌+◌, ◌≤◌, length, get_or}
use Rattle.ps_attractor.specs.Sources.{sources_of}
use Rattle.ps_attractor.specs.Tables.{TablesData, FitsGame}
use Rattle.ps_attractor.specs.Steps.{Reaching, From, FromSource, free_count}
use Rattle.ps_attractor.proofs.tables.Tables.spread.Given as goal

abbrev pub invariant-loop-source : goal.invariant-loop-source
invariant-loop-source g l = record {
  fits : FitsGame (g.A.Arena.game l.edges.arena.now) l.self;
  longer : length l.initial.self.trail ≤ length l.self.trail;
  frees : free_count l.aim l.self + length l.self.trail ≡ free_count l.aim l.initial.self + length l.initial.self.trail;
  here : get_or l.self.trail l.place 0 ≡ l.reached;
  reaching : (start : TablesData) → l.aim.begin ≤ length start.trail →
      Reaching (g.A.Arena.game l.edges.arena.now) l.aim start l.initial.self (From l.place) →
      Reaching (g.A.Arena.game l.edges.arena.now) l.aim start l.self
      (FromSource l.place (sources_of l.edges.sources l.reached)
      l.source-index);
}
