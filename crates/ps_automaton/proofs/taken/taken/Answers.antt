use Rattle.std.proofs.Common.{arith, ℕ}
use Rattle.ps_hoa.specs.Edges.{IsEnabled}
use Rattle.ps_hoa.specs.Files.{of_state}
use Rattle.ps_hoa.specs.Views.{row_data}
use Rattle.ps_diagram.specs.Table.{IsNode, leaf_of}
use Rattle.ps_automaton.specs.Inner.Drafts.{IsWhere}
use Rattle.ps_diagram.proofs.NodeTables.MadeDiagrams.{gives}
use Rattle.ps_automaton.proofs.EdgesAtLetters.Meeting.{label_shows}
use Rattle.ps_automaton.proofs.taken.taken.Goals as goal

shown : (c : goal.In-Some) → IsNode c.args.store.now c.in-Some.node ×
    ((letter : ℕ) → IsWhere (leaf_of c.args.store.now c.in-Some.node letter) 1
    (IsEnabled c.args.guards.now.file.now.aliases (row_data c.args.guards.now.row.now).label of_state letter))
shown c = grind (arith, label_shows)

pub returns-in-Some : goal.returns-in-Some
returns-in-Some c = gives (shown c).0 (grind (arith, shown))
