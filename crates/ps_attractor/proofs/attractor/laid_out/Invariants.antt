use Rattle.std.proofs.Common.{◌≡◌, length}
use Rattle.ps_attractor.specs.Results.{AreLaidOut}
use Rattle.ps_attractor.proofs.attractor.laid_out.Given as goal

abbrev pub invariant-loop-vertex : goal.invariant-loop-vertex
invariant-loop-vertex g l = record {
  levels : length l.tables.level ≡ l.count;
  moves : length l.tables.moves ≡ l.count;
  laid_out : AreLaidOut l.subgame l.target l.vertex l.tables;
}
