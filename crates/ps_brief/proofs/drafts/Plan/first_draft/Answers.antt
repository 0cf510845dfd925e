use Rattle.std.proofs.Common.{ℕ, subst}
use Rattle.ps_diagram.specs.Hidden.{IsBehind}
use Rattle.ps_brief.specs.Settings.{board_in}
use Rattle.ps_brief.proofs.DraftedMoves.Drafted.{first_drafted}
use Rattle.ps_brief.proofs.ListedStates.LeastPlaces.{first_over}
use Rattle.ps_brief.proofs.drafts.Plan.first_draft.Goals as goal

pub behind-requires-clause-over : goal.behind-requires-clause-over
behind-requires-clause-over c =
    let setting = c.args.self.now.setting.now in
    first_over (board_in setting) setting.first c.requires.at.ready.fits.fit.is_mask c.letter_at-letter.result
    c.letter_at-letter.ensures.is_letter

pub returns-clause-draft : goal.returns-clause-draft
returns-clause-draft c =
    let plan = c.args.self.now in
    let q = c.args.step.state in
    let ready = c.requires.at.ready in
    let steps = c.in_ok-steps.ensures in
    let behind = subst (λ (node : ℕ). IsBehind c.args.store.now c.behind.new.self node plan.setting.now.first
    c.letter_at-letter.result c.in_ok-steps.steps) c.node-node.ensures.node steps.leaf in
    first_drafted plan plan.arena.now ready.playable c.requires.turn ready.fits q c.args.step.priority c.args.vertex
    c.letter_at-letter.result (ready.states c.args.vertex q c.args.step.priority c.requires.at.reached.stands)
    c.requires.at.reached.stands c.letter_at-letter.ensures c.in_ok-steps.steps c.in_ok-bits.bits behind
    c.letter_bits.ensures.keeps steps.held c.in_ok-bits.ensures.bits
