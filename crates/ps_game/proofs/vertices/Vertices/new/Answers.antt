use Rattle.std.proofs.Common.{[], ◌∷◌, ◌++◌, ap, ◌∙◌, arith, rules}
use Rattle.ps_game.proofs.StoredGames.VertexArrays.{StandFor, stand_for, tell_none}
use Rattle.ps_game.proofs.vertices.Vertices.new.Goals as goal
use Rattle.ps_game.proofs.vertices.Vertices.new.Goals.{After-new-3}

none : (c : After-new-3) →
    StandFor [] c.push.new.self.items c.new.result.items c.new-2.result.items c.new-3.result.items
none c =
    let first = c.in_ok-push.ensures.items ∙ ap (λ xs. xs ++ 0 ∷ []) c.new-offsets.ensures.items in
    rw (first, c.new.ensures.items, c.new-2.ensures.items, c.new-3.ensures.items)
    (stand_for tell_none (λ k d lt. absurd (omega arith)))

pub invariant_of-result : goal.invariant_of-result
invariant_of-result c = search (rules, none)

pub returns : goal.returns
returns c = search (rules, none)
