use Rattle.ps_game.specs.Games.{successors_of}
use Rattle.ps_brief.proofs.DraftedMoves.Drafted.{second_drafted}
use Rattle.ps_brief.proofs.drafts.Plan.second_draft.Goals as goal

pub least_bits-requires : goal.least_bits-requires
least_bits-requires c = record { held = c.in_ok-moves.ensures.tried.making_held }

pub returns-clause-draft : goal.returns-clause-draft
returns-clause-draft c =
    let plan = c.args.self.now in
    let q = c.args.step.state in
    let ready = c.requires.at.ready in
    second_drafted plan plan.arena.now ready.playable c.requires.turn ready.fits q c.args.step.priority
    c.requires.at.reached.comes (successors_of plan.arena.now c.args.vertex)
    (ready.playable.tried c.args.vertex q c.args.step.priority c.requires.at.reached.stands) c.in_ok-moves.moves
    c.moves_at.ensures.keeps c.in_ok-moves.ensures.tried c.least_bits.ensures.keeps c.in_ok-bits.bits
    c.in_ok-bits.ensures.bits
