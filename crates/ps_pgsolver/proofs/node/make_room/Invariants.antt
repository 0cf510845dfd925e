use Rattle.std.proofs.Common.{◌≡◌, ◌≤◌, ◌-◌, length, map, vec_len}
use Rattle.ps_game.specs.Names.{name_bytes, with_none}
use Rattle.ps_pgsolver.proofs.node.make_room.Given as goal

abbrev pub invariant-pad : goal.invariant-pad
invariant-pad l = record {
  few : length l.names.items ≤ l.count;
  same : with_none l.count (map name_bytes l.names.items) ≡ with_none l.count (map name_bytes l.fn.names.items);
}

abbrev pub decreases-pad : goal.decreases-pad
decreases-pad l = l.count - vec_len l.names
