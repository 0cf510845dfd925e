use Rattle.std.proofs.Common.{◌≡◌, length, map, take, vec_len, vec_capacity}
use Rattle.ps_game.proofs.numbers.Numbers.in_width.Given as goal

abbrev pub invariant-loop-item : goal.invariant-loop-item
invariant-loop-item g l = record {
  copied : map g.V.Width.value l.items.items ≡ take l.item-index l.self;
  count : vec_len l.items ≡ l.item-index;
  room : vec_capacity l.items ≡ length l.item-items;
}
