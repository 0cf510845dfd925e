use Rattle.ps_diagram.proofs.NodeTables.KnownLemmas.{keeps_three, keeps_trans}
use Rattle.ps_brief.proofs.ListedStates.KeptTargets.{fits_kept}
use Rattle.ps_brief.proofs.ListedStates.MadeTargets.{made_answered, made_place, made_some, made_target, named_leaf}
use Rattle.ps_brief.proofs.steps.target_of.Goals as goal

pub pair-step-requires : goal.pair-step-requires
pair-step-requires c = named_leaf c.args.setting.now c.requires.fits c.args.state c.args.leaf c.requires.leaf.0
    c.requires.state c.requires.leaf.1

pub selected-requires : goal.selected-requires
selected-requires c = record {
  held = c.requires.fits.fit.keeps.held c.node-node.result c.node-node.ensures.held;
}

pub returns-in_err-behind-clause-keeps : goal.returns-in_err-behind-clause-keeps
returns-in_err-behind-clause-keeps c = keeps_trans c.in_ok-making.ensures.keeps c.in_err-behind.ensures.keeps

pub least_place-requires-clause-fits : goal.least_place-requires-clause-fits
least_place-requires-clause-fits c = fits_kept c.args.setting.now
    (keeps_trans c.in_ok-making.ensures.keeps c.in_ok-behind.ensures.keeps) c.requires.fits

pub least_place-requires-clause-making : goal.least_place-requires-clause-making
least_place-requires-clause-making c =
    c.in_ok-behind.ensures.keeps.held c.in_ok-making.making c.in_ok-making.ensures.held

pub least_place-requires-clause-some : goal.least_place-requires-clause-some
least_place-requires-clause-some c =
    made_some c.args.setting.now c.requires.fits c.args.state c.requires.state c.args.leaf c.requires.leaf.0
    c.requires.leaf.1 c.node-node.result c.node-node.ensures.node c.pair-step.result c.pair-step.ensures.pair
    c.in_ok-making.making c.in_ok-behind.behind c.in_ok-making.ensures.keeps c.in_ok-behind.ensures.keeps
    c.in_ok-making.ensures.held c.in_ok-making.ensures.leaf c.in_ok-behind.ensures.leaf

pub least_place-requires-clause-answered : goal.least_place-requires-clause-answered
least_place-requires-clause-answered c =
    made_answered c.args.setting.now c.requires.fits c.args.state c.requires.state c.args.leaf c.requires.leaf.0
    c.requires.leaf.1 c.node-node.result c.node-node.ensures.node c.pair-step.result c.pair-step.ensures.pair
    c.in_ok-making.making c.in_ok-behind.behind c.in_ok-making.ensures.keeps c.in_ok-behind.ensures.keeps
    c.in_ok-making.ensures.held c.in_ok-making.ensures.leaf c.in_ok-behind.ensures.leaf

pub returns-in_err-place-clause-keeps : goal.returns-in_err-place-clause-keeps
returns-in_err-place-clause-keeps c =
    keeps_three c.in_ok-making.ensures.keeps c.in_ok-behind.ensures.keeps c.least_place.ensures.keeps

pub returns-clause-keeps : goal.returns-clause-keeps
returns-clause-keeps c =
    keeps_three c.in_ok-making.ensures.keeps c.in_ok-behind.ensures.keeps c.least_place.ensures.keeps

pub returns-clause-target : goal.returns-clause-target
returns-clause-target c =
    made_target c.args.setting.now c.requires.fits c.args.state c.requires.state c.args.leaf c.requires.leaf.0
    c.requires.leaf.1 c.node-node.result c.node-node.ensures.node c.pair-step.result c.pair-step.ensures.pair
    c.in_ok-making.making c.in_ok-behind.behind c.in_ok-making.ensures.keeps c.in_ok-behind.ensures.keeps
    c.in_ok-making.ensures.held c.in_ok-making.ensures.leaf c.in_ok-behind.ensures.leaf
    c.least_place.ensures.keeps c.in_ok-behind.ensures.held c.in_ok-place.place

pub returns-clause-placed : goal.returns-clause-placed
returns-clause-placed c =
    made_place c.args.setting.now c.requires.fits c.args.state c.requires.state c.args.leaf c.requires.leaf.0
    c.requires.leaf.1 c.node-node.result c.node-node.ensures.node c.pair-step.result c.pair-step.ensures.pair
    c.in_ok-making.making c.in_ok-behind.behind c.in_ok-making.ensures.keeps c.in_ok-behind.ensures.keeps
    c.in_ok-making.ensures.held c.in_ok-making.ensures.leaf c.in_ok-behind.ensures.leaf
    c.in_ok-place.place c.in_ok-place.ensures.place
