use Rattle.std.proofs.Common.{◌∙◌}
use Rattle.ps_diagram.proofs.NodeTables.KnownLemmas.{keeps_trans}
use Rattle.ps_machine.proofs.AutomatonGames.GameKeys.Exploring.{both_ok}
use Rattle.ps_brief.proofs.BasesOfLetters.Lowering.{chosen_kept}
use Rattle.ps_brief.proofs.bases.within.Goals as goal

pub choose-requires-clause-truth : goal.choose-requires-clause-truth
choose-requires-clause-truth c = c.in_ok-none.ensures.keeps.held c.args.behind c.requires.behind

pub choose-requires-clause-one : goal.choose-requires-clause-one
choose-requires-clause-one c = c.in_ok-none.ensures.keeps.held c.args.covered c.requires.covered

pub returns-clause-keeps : goal.returns-clause-keeps
returns-clause-keeps c = keeps_trans c.in_ok-none.ensures.keeps c.choose.ensures.keeps

pub returns-clause-leaf : goal.returns-clause-leaf
returns-clause-leaf c = both_ok _ _ _ c.choose.result c.choose.ensures.held c.choose.ensures.leaf (λ made held leaf x.
    leaf x ∙ chosen_kept c.args.behind c.args.covered c.in_ok-none.none x c.in_ok-none.ensures.keeps c.requires.behind
    c.requires.covered (c.in_ok-none.ensures.leaf x))
