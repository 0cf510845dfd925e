use Rattle.ps_brief.proofs.DraftedMoves.DraftsMade.{joined_is}
use Rattle.ps_brief.proofs.drafts.joined.Goals as goal

pub returns-clause-joined : goal.returns-clause-joined
returns-clause-joined c =
    let steps = c.in_ok-steps.ensures in
    let making = c.in_ok-making.ensures in
    joined_is c.args.first c.args.second c.in_ok-steps.steps c.in_ok-making.making c.choose.ensures.keeps
    c.choose-2.ensures.keeps c.requires.first.0 c.requires.first.1 c.requires.second.1 steps.held making.held steps.leaf
    making.leaf
