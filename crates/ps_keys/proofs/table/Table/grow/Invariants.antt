use Rattle.std.proofs.Common.{◌≡◌, length}
use Rattle.ps_keys.specs.Inner.Tables.{HasKeys}
use Rattle.ps_keys.proofs.table.Table.grow.Given as goal

abbrev pub invariant-loop-place : goal.invariant-loop-place
invariant-loop-place g l = record {
  keys : HasKeys g.K.Hashed.hash l.list l.place l.table;
  size : length l.table.slots.items ≡ l.size;
}
