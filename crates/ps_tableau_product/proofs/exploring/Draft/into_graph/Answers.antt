use Rattle.std.proofs.Common.{arith, map, subst, sym}
use Rattle.std.proofs.lemmas.List.{get_or_default, length-map}
use Rattle.ps_hoa.specs.Memory.{bytes_of}
use Rattle.ps_tableau_product.specs.Graphs.{GraphData, IsModelGraph}
use Rattle.ps_tableau_product.specs.Plans.{scene_of}
use Rattle.ps_tableau_product.proofs.FairProducts.GraphMade.{is_stored, model_graph}
use Rattle.ps_tableau_product.proofs.TableauStates.Scenes.{roles_given}
use Rattle.ps_tableau_product.proofs.exploring.Draft.into_graph.Goals as goal

pub new-requires : goal.new-requires
new-requires c =
    let plan = c.args.plan in
    let inputs = plan.roles.now.inputs.items in
    rw c.deref.ensures.value (is_stored {s = scene_of plan} c.requires.explored c.requires.covers (λ i p lt.
    let at = get_or_default inputs i p 0 lt in
    let low = ((roles_given plan.cast).inputs_are i lt).within in
    omega (arith, at, low, plan.few, length-map plan.names.now bytes_of)))

pub returns : goal.returns
returns c = λ f is_of.
    let plan = c.args.plan in
    subst (λ (g : GraphData). IsModelGraph (map bytes_of plan.names.now) plan.circuit.now f g) (sym c.new.ensures)
    (rw c.deref.ensures.value
    (model_graph {s = scene_of plan} c.requires.explored c.requires.covers f is_of))
