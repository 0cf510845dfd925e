use Rattle.std.proofs.Common.{◌≡◌, map, take, slice_index}
use Rattle.ps_synthesis.proofs.certifying.ids_of.Given as goal

-- the list has the ids of the vertices that the `for` loop has already read
abbrev pub invariant-loop-vertex : goal.invariant-loop-vertex
invariant-loop-vertex l = l.ids.items ≡ map (λ v. slice_index l.game.ids v) (take l.vertex-index l.vertices)
