use Rattle.std.proofs.Common.{◌≡◌, take}
use Rattle.ps_certificate.proofs.text.ids_of.Given as goal

abbrev pub invariant-loop-vertex : goal.invariant-loop-vertex
invariant-loop-vertex l = l.ids ≡ take l.vertex l.game.ids
