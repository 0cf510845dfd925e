use Rattle.std.proofs.Common.{◌≡◌, take}
use Rattle.ps_game.proofs.builder.listed_vertex.Given as goal

abbrev pub invariant-loop-successor : goal.invariant-loop-successor
invariant-loop-successor l = l.list.items ≡ take l.successor-index l.successors
