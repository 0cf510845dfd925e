use Rattle.std.proofs.Common.{ap, arith, length, sym, ◌∙◌}
use Rattle.std.proofs.lemmas.List.{get_or_default, length-map}
use Rattle.ps_circuit.specs.Circuits.{CircuitData}
use Rattle.ps_hoa.specs.Memory.{bytes_of}
use Rattle.ps_tableau_product.proofs.TableauStates.Scenes.{roles_given}
use Rattle.ps_tableau_product.proofs.plan.Plan.evaluated.Goals as goal

pub at-requires-clause-inputs : goal.at-requires-clause-inputs
at-requires-clause-inputs c =
    ap length c.deref.ensures.value ∙ (roles_given c.args.self.cast).inputs_each
    ∙ c.parts_fit.ensures.draft.inputs_named
    ∙ ap (λ (d : CircuitData). length d.inputs) (sym c.requires.evaluator)

pub at-requires-clause-named : goal.at-requires-clause-named
at-requires-clause-named c =
    let names = c.args.self.names.now in
    let inputs = c.args.self.roles.now.inputs.items in
    rw c.deref.ensures.value (λ i p lt.
    let at = get_or_default inputs i p 0 lt in
    let low = ((roles_given c.args.self.cast).inputs_are i lt).within in
    omega (arith, at, low, length-map names bytes_of, c.requires.store, c.in_ok-truths.ensures))
