use Rattle.std.proofs.Common.{◌∙◌}
use Rattle.ps_diagram.proofs.NodeTables.KnownLemmas.{keeps_trans}
use Rattle.ps_machine.proofs.AutomatonGames.GameKeys.Exploring.{both_ok}
use Rattle.ps_brief.proofs.ListedStates.KeptTargets.{leaf_kept, target_kept}
use Rattle.ps_brief.proofs.BasesOfLetters.Lowering.{low_kept, low_more, low_stays, low_without, not_both}
use Rattle.ps_brief.proofs.bases.without.Goals as goal

pub choose-requires-clause-truth : goal.choose-requires-clause-truth
choose-requires-clause-truth c = c.in_ok-none.ensures.keeps.held c.args.target.behind c.requires.target.held

pub choose-requires-clause-other : goal.choose-requires-clause-other
choose-requires-clause-other c = c.in_ok-none.ensures.keeps.held c.args.low c.requires.low.held

pub returns-clause-keeps : goal.returns-clause-keeps
returns-clause-keeps c = keeps_trans c.in_ok-none.ensures.keeps c.choose.ensures.keeps

pub returns-clause-low : goal.returns-clause-low
returns-clause-low c =
    let s = c.args.setting.now in
    let q = c.args.targets.now.state in
    let keeps = c.in_ok-none.ensures.keeps in
    both_ok _ _ _ c.choose.result c.choose.ensures.held c.choose.ensures.leaf (λ made held leaf.
    low_more s q c.choose.new.self c.args.target (target_kept s q keeps c.requires.target) c.args.low made
    c.in_ok-none.none
    (low_kept s q c.args.low keeps c.requires.low) held c.in_ok-none.ensures.leaf leaf)

pub returns-clause-stays : goal.returns-clause-stays
returns-clause-stays c =
    let s = c.args.setting.now in
    let q = c.args.targets.now.state in
    let keeps = c.in_ok-none.ensures.keeps in
    both_ok _ _ _ c.choose.result c.choose.ensures.held c.choose.ensures.leaf (λ made held leaf x k missing at.
    low_stays s q c.choose.new.self c.args.target (target_kept s q keeps c.requires.target) c.args.low made
    c.in_ok-none.none
    (low_kept s q c.args.low keeps c.requires.low) held c.in_ok-none.ensures.leaf leaf x k
    (not_both _ (leaf_kept c.args.target.behind x keeps c.requires.target.held ∙ missing))
    (leaf_kept c.args.low x keeps c.requires.low.held ∙ at))

pub returns-clause-without : goal.returns-clause-without
returns-clause-without c =
    let s = c.args.setting.now in
    let q = c.args.targets.now.state in
    let keeps = c.in_ok-none.ensures.keeps in
    both_ok _ _ _ c.choose.result c.choose.ensures.held c.choose.ensures.leaf (λ made held leaf.
    low_without s q c.choose.new.self c.args.target (target_kept s q keeps c.requires.target) c.args.low made
    c.in_ok-none.none
    (low_kept s q c.args.low keeps c.requires.low) held c.in_ok-none.ensures.leaf leaf keeps c.requires.low.held)
