use Rattle.std.proofs.Common.{◌≡◌, ◌-◌, ◌∙◌, None, arith, refl}
use Rattle.ps_diagram.specs.Inner.Rows.{HasLeaf}
use Rattle.ps_diagram.proofs.TreesFromData.Halving.{first_row, first_leads, has_leaf_kept}
use Rattle.ps_diagram.proofs.NodeTables.KnownLemmas.{keeps_trans}
use Rattle.ps_diagram.proofs.NodeTables.MadeDiagrams.{by-last}
use Rattle.ps_diagram.proofs.store.Store.of_leaves.Goals as goal

pub joined-requires-clause-row : goal.joined-requires-clause-row
joined-requires-clause-row c =
    let none = c.in_ok-none.none in
    let nothing : HasLeaf c.leaf_nodes.new.self none None =
    has_leaf_kept c.leaf_nodes.ensures.keeps none None (c.in_ok-none.ensures.held, c.in_ok-none.ensures.leaf) in
    first_row none nothing c.in_ok-nodes.ensures.nodes _

pub returns : goal.returns
returns c =
    let none = c.in_ok-none.none in
    let nothing : HasLeaf c.leaf_nodes.new.self none None =
    has_leaf_kept c.leaf_nodes.ensures.keeps none None (c.in_ok-none.ensures.held, c.in_ok-none.ensures.leaf) in
    let keeps = keeps_trans c.constant.ensures.keeps c.leaf_nodes.ensures.keeps in
    let all : c.leaf_nodes.new.self.propositions - 0 ≡ c.args.self.now.propositions =
    omega (arith, keeps.propositions) in
    by-last keeps
    (λ node joined letter. joined.leaf letter ∙ first_leads none nothing c.in_ok-nodes.ensures.nodes _ letter ∙
    rw all refl) c.joined.ensures
