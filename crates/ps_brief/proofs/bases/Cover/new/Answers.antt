use Rattle.std.proofs.Common.{◌∙◌}
use Rattle.ps_diagram.proofs.NodeTables.KnownLemmas.{keeps_trans}
use Rattle.ps_brief.proofs.BasesOfLetters.Coverings.{covering_begun}
use Rattle.ps_brief.proofs.BasesOfLetters.FoundLetters.{found_begun}
use Rattle.ps_brief.proofs.ListedStates.KeptTargets.{leaf_kept}
use Rattle.ps_brief.proofs.bases.Cover.new.Goals as goal

pub returns-in_err-basis-clause-keeps : goal.returns-in_err-basis-clause-keeps
returns-in_err-basis-clause-keeps c = keeps_trans c.in_ok-uncovered.ensures.keeps c.in_err-basis.ensures.keeps

pub returns-clause-keeps : goal.returns-clause-keeps
returns-clause-keeps c = keeps_trans c.in_ok-uncovered.ensures.keeps c.in_ok-basis.ensures.keeps

pub returns-clause-covering : goal.returns-clause-covering
returns-clause-covering c = λ board q.
    covering_begun board q c.in_ok-uncovered.uncovered c.in_ok-basis.basis
    (c.in_ok-basis.ensures.keeps.held c.in_ok-uncovered.uncovered c.in_ok-uncovered.ensures.held)
    c.in_ok-basis.ensures.held
    (λ x. leaf_kept c.in_ok-uncovered.uncovered x c.in_ok-basis.ensures.keeps c.in_ok-uncovered.ensures.held
    ∙ c.in_ok-uncovered.ensures.leaf x) c.in_ok-basis.ensures.leaf

pub returns-clause-found : goal.returns-clause-found
returns-clause-found c = λ setting q.
    found_begun setting q c.in_ok-uncovered.uncovered
    (λ x. leaf_kept c.in_ok-uncovered.uncovered x c.in_ok-basis.ensures.keeps c.in_ok-uncovered.ensures.held
    ∙ c.in_ok-uncovered.ensures.leaf x)
