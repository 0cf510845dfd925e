use Rattle.std.proofs.Common.{rules}
use Rattle.std.proofs.lemmas.Result.{IfOk-weaker}
use Rattle.ps_brief.specs.Inner.Drafts.{NeverMoves}
use Rattle.ps_brief.proofs.DraftedMoves.Drafting.{never_more, tries_more}
use Rattle.ps_brief.proofs.drafts.Plan.with_move.Goals as goal

pub returns-in_default-clause-tried : goal.returns-in_default-clause-tried
returns-in_default-clause-tried c =
    let never : NeverMoves c.args.self.now c.args.state c.args.vertex = search rules in
    λ vertices k at tries.
    never_more c.args.self.now c.args.state vertices k c.args.vertex at c.args.moves never tries

pub returns-clause-tried : goal.returns-clause-tried
returns-clause-tried c = IfOk-weaker c.joined.result _ _ (λ made joined vertices k at tries.
    tries_more c.args.self.now c.args.state vertices k c.args.vertex at c.in-Some.leaf c.in-Some.ensures
    c.requires.ready.fits c.args.moves c.in_ok-made.made made c.single.ensures.keeps c.joined.ensures.keeps
    c.in_ok-made.ensures.single joined tries)
    c.joined.ensures.joined
