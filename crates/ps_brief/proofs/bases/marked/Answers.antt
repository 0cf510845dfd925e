use Rattle.ps_diagram.proofs.NodeTables.KnownLemmas.{keeps_three, keeps_trans}
use Rattle.ps_machine.proofs.AutomatonGames.GameKeys.Exploring.{both_ok}
use Rattle.ps_brief.proofs.BasesOfLetters.Marking.{mark_here, mark_other}
use Rattle.ps_brief.proofs.bases.marked.Goals as goal

pub returns-in_err-leaf-clause-keeps : goal.returns-in_err-leaf-clause-keeps
returns-in_err-leaf-clause-keeps c = keeps_trans c.in_ok-here.ensures.keeps c.in_err-leaf.ensures.keeps

pub choose-requires-clause-truth : goal.choose-requires-clause-truth
choose-requires-clause-truth c = c.in_ok-leaf.ensures.keeps.held c.in_ok-here.here c.in_ok-here.ensures.held

pub choose-requires-clause-other : goal.choose-requires-clause-other
choose-requires-clause-other c =
    (keeps_trans c.in_ok-here.ensures.keeps c.in_ok-leaf.ensures.keeps).held c.args.basis c.requires.basis

pub returns-clause-keeps : goal.returns-clause-keeps
returns-clause-keeps c =
    keeps_three c.in_ok-here.ensures.keeps c.in_ok-leaf.ensures.keeps c.choose.ensures.keeps

pub returns-clause-here : goal.returns-clause-here
returns-clause-here c = both_ok _ _ _ c.choose.result c.choose.ensures.held c.choose.ensures.leaf (λ made held leaf.
    mark_here c.choose.new.self c.in_ok-here.here c.in_ok-leaf.leaf c.args.basis made c.args.letter
    c.in_ok-here.ensures.keeps
    c.in_ok-leaf.ensures.keeps c.in_ok-here.ensures.held c.requires.basis c.in_ok-leaf.ensures.leaf leaf
    (c.in_ok-here.ensures.leaf c.args.letter c.requires.within))

pub returns-clause-others : goal.returns-clause-others
returns-clause-others c = both_ok _ _ _ c.choose.result c.choose.ensures.held c.choose.ensures.leaf
    (λ made held leaf x within differ. mark_other c.choose.new.self c.in_ok-here.here c.in_ok-leaf.leaf c.args.basis
    made c.args.letter
    c.in_ok-here.ensures.keeps c.in_ok-leaf.ensures.keeps c.in_ok-here.ensures.held c.requires.basis
    c.in_ok-leaf.ensures.leaf leaf x differ (c.in_ok-here.ensures.leaf x within))
