use Rattle.std.proofs.Common.{rules}
use Rattle.ps_diagram.proofs.ClassesOfLetters.Dividing.{divided_here}
use Rattle.ps_diagram.proofs.NodeTables.MadeDiagrams.{by-last}
use Rattle.ps_diagram.proofs.store.Store.place_of_leaf.Goals as goal

pub returns : goal.returns
returns c = by-last c.constant.ensures.keeps (search (rules, divided_here)) c.intern.ensures
