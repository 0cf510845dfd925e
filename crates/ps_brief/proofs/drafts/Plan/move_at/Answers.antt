use Rattle.std.proofs.Common.{ℕ, ◌<◌, subst, sym}
use Rattle.ps_brief.proofs.DraftedMoves.MovesAt.{chosen_below, noted_move}
use Rattle.ps_brief.proofs.drafts.Plan.move_at.Goals as goal

pub choice-requires : goal.choice-requires
choice-requires c =
    let n = c.requires.next in
    let playable = c.requires.ready.1.playable in
    subst (λ (m : ℕ). c.args.vertex < m) (sym playable.entries)
    (playable.next n.0 c.args.state n.1 c.args.vertex n.2 n.3)

pub leaf_at-requires : goal.leaf_at-requires
leaf_at-requires c =
    let n = c.requires.next in
    chosen_below c.args.self.now c.requires.ready.1 c.requires.turn n.0 c.args.state n.1 c.args.vertex n.2 n.3
    c.in-Some.chosen (sym c.in-Some.ensures)

pub returns : goal.returns
returns c =
    let n = c.requires.next in
    noted_move c.args.self.now c.requires.ready.1 c.requires.turn n.0 c.args.state n.1 c.args.vertex n.2 n.3
    c.in-Some.chosen (sym c.in-Some.ensures) c.leaf_at.result c.leaf_at.ensures
