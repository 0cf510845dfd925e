use Rattle.std.proofs.Common.{◌≡◌, ℕ, subst}
use Rattle.ps_diagram.specs.Hidden.{one_for}
use Rattle.ps_diagram.specs.Table.{leaf_of}
use Rattle.ps_brief.proofs.DraftedMoves.Drafted.{single_is}
use Rattle.ps_brief.proofs.drafts.Plan.single.Goals as goal

pub returns-clause-single : goal.returns-clause-single
returns-clause-single c =
    let making = c.in_ok-making.ensures in
    let behind = c.in_ok-behind.ensures in
    let steps = c.in_ok-steps.ensures in
    let selects = subst (λ (node : ℕ). (z : ℕ) → leaf_of c.selected.new.self c.in_ok-making.making z
    ≡ one_for c.args.leaf (leaf_of c.args.store.now node z)) c.node-node.ensures.node making.leaf in
    single_is c.args.self.now.setting.now c.requires.ready.fits c.args.state c.requires.state c.args.leaf
    c.requires.leaf c.in_ok-making.making c.in_ok-behind.behind c.in_ok-steps.steps c.selected.ensures.keeps
    c.projected.ensures.keeps c.guard.ensures.keeps making.held selects behind.leaf steps.held steps.leaf
