use Rattle.std.proofs.Common.{ℕ, List, [], ◌∷◌, ◌++◌, ◌∙◌, ap, arith}
use Rattle.ps_game.specs.Games.{vertex_count}
use Rattle.ps_certificate.proofs.ReadCertificates.Loops.{fails, entry_fails, entry_next, entries_end}
use Rattle.ps_certificate.proofs.text.entries.Goals as goal

pub returns-in_err-won : goal.returns-in_err-won
returns-in_err-won c =
    fails _ _ _ _ _ _ (entry_fails _ _ _ _ _ _ _ _ _ c.loop-vertex.invariant (grind arith) c.id.ensures _
    c.in_err-won.ensures) c.from_residual-in_err-won.ensures.1

pub loop-vertex-preserved : goal.loop-vertex-preserved
loop-vertex-preserved c =
    entry_next _ _ _ _ _ _ _ _ _ c.loop-vertex.invariant (omega (
      arith,
      c.count-vertices.ensures.vertices,
      ap vertex_count c.game.ensures.game,
      c.game.ensures.well_formed.id_each,
    )) c.id.ensures c.in_ok-won.ensures (c.in_ok-push_row.ensures.ok
    ∙ ap (λ (counts : List ℕ). c.loop-vertex.entries ++ record
    { winner = c.in_ok-won.won.winner; choice = c.in_ok-won.won.choice; counts = counts } ∷ []) c.row.ensures)

pub returns : goal.returns
returns c = grind (arith, entries_end)
