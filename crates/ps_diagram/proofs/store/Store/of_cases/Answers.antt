use Rattle.std.proofs.Common.{◌∙◌}
use Rattle.ps_diagram.proofs.NodeTables.MadeDiagrams.{if_made}
use Rattle.ps_diagram.proofs.TreesFromData.SplitCases.{at_letter}
use Rattle.ps_diagram.proofs.store.Store.of_cases.Goals as goal

pub split_cases-requires-clause-constant : goal.split_cases-requires-clause-constant
split_cases-requires-clause-constant c = (_, c.in_ok-other.ensures.leaf)

pub returns-clause-leaf : goal.returns-clause-leaf
returns-clause-leaf c =
    let same = c.split_cases.ensures.keeps.propositions ∙ c.in_ok-other.ensures.keeps.propositions in
    if_made c.split_cases.result (λ node by. at_letter by same c.in_ok-other.ensures.leaf) c.split_cases.ensures.made
