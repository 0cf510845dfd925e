use Rattle.std.proofs.Common.{◌<◌, ◌≤◌, ap, arith, length, sym, ◌∙◌}
use Rattle.std.specs.Prelude.{is_some}
use Rattle.ps_product.specs.Groups.{StandFor}
use Rattle.ps_product.proofs.CircuitFunctions.TruthNodes.{stand_kept, truths_kept}
use Rattle.ps_tableau_product.proofs.TableauStates.ViewLemmas.{padding_done, padding_first, padding_more}
use Rattle.ps_tableau_product.proofs.TableauStates.Scenes.{roles_given}
use Rattle.ps_tableau_product.proofs.plan.Plan.nodes.Goals as goal

pub nodes_of-requires-clause-different : goal.nodes_of-requires-clause-different
nodes_of-requires-clause-different c = rw c.deref.ensures.value (roles_given c.args.self.cast).outputs_differ

pub loop-none-init : goal.loop-none-init
loop-none-init c =
    let list = c.args.self.roles.now.outputs.items in
    let outs = c.args.outputs.now in
    let nodes = c.in_ok-nodes.nodes.items in
    let first : StandFor c.nodes_of.new.store list outs nodes =
    rw c.deref.ensures.value at c.in_ok-nodes.ensures.nodes in
    let stand : StandFor c.none.new.self list outs nodes = stand_kept list outs (sym c.requires.one_each)
    (truths_kept outs c.nodes_of.ensures.keeps c.requires.outputs) c.none.ensures.keeps nodes first in
    padding_first nodes (length c.args.self.names.now) (c.in_ok-nodes.ensures.count ∙ c.requires.store) c.args.self.few
    stand

pub loop-none-preserved : goal.loop-none-preserved
loop-none-preserved c =
    let room : length c.loop-none.nodes.items < 64 = omega arith in
    padding_more c.in_ok-none.none c.loop-none.invariant c.in_ok-push.ensures.items room c.in_ok-none.ensures.held
    (λ letter. ap is_some (c.in_ok-none.ensures.leaf letter))

pub returns-clause-nodes : goal.returns-clause-nodes
returns-clause-nodes c =
    let full : 64 ≤ length c.loop-none.nodes.items = omega arith in
    padding_done c.loop-none.invariant full
