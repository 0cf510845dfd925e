use Rattle.std.proofs.Common.{ap, ◌∙◌}
use Rattle.std.specs.Prelude.{Some}
use Rattle.ps_diagram.specs.Tree.{leaf_at}
use Rattle.ps_diagram.specs.Table.{tree_of}
use Rattle.ps_diagram.proofs.ClassesOfLetters.Dividing.{names_of, place_of, tested_between}
use Rattle.ps_diagram.proofs.NodeTables.MadeDiagrams.{by-last}
use Rattle.ps_diagram.proofs.store.Store.tested_leaves.Goals as goal

pub node_at-one-requires-clause-names : goal.node_at-one-requires-clause-names
node_at-one-requires-clause-names c = names_of _ _ _ c.requires.leading.low_leads

pub node_at-other-requires-clause-names : goal.node_at-other-requires-clause-names
node_at-other-requires-clause-names c = names_of _ _ _ c.requires.leading.high_leads

pub test-requires-clause-low_held : goal.test-requires-clause-low_held
test-requires-clause-low_held c = (place_of _ _ _ c.requires.leading.low_leads _ c.node_at-one.ensures).0

pub test-requires-clause-high_held : goal.test-requires-clause-high_held
test-requires-clause-high_held c = (place_of _ _ _ c.requires.leading.high_leads _ c.node_at-other.ensures).0

pub test-requires-clause-low_later : goal.test-requires-clause-low_later
test-requires-clause-low_later c = (place_of _ _ _ c.requires.leading.low_leads _ c.node_at-one.ensures).1

pub test-requires-clause-high_later : goal.test-requires-clause-high_later
test-requires-clause-high_later c = (place_of _ _ _ c.requires.leading.high_leads _ c.node_at-other.ensures).1

pub returns : goal.returns
returns c =
    let named = c.made.view_is in
    by-last c.test.ensures.keeps (λ node e. tested_between c.test.ensures.keeps c.intern.ensures.keeps
    c.args.proposition (tree_of c.args.self.now c.args.low) (tree_of c.args.self.now c.args.high)
    (tree_of c.intern.new.self node) c.node_at-one.ensures c.node_at-other.ensures
    (λ f. ap (λ x. leaf_at x f) e ∙ ap (λ k. Some k) named) (place_of _ _ _ c.requires.leading.low_leads _
    c.node_at-one.ensures).0 (place_of _ _ _ c.requires.leading.high_leads _ c.node_at-other.ensures).0
    c.in_ok-made.ensures.held c.in_ok-made.ensures.leaf) c.intern.ensures
