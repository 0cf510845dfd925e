use Rattle.std.proofs.Common.{◌∙◌, ap}
use Rattle.ps_circuit.specs.Drafts.{place_in}
use Rattle.ps_circuit.specs.Literals.{variable}
use Rattle.ps_circuit.proofs.GatesAndLinks.LinksLemmas.{links_by-more}
use Rattle.ps_circuit.proofs.links.links_to.Goals as goal

pub loop-gate-preserved : goal.loop-gate-preserved
loop-gate-preserved c = links_by-more c.args.variables.now c.args.gates.now c.loop-gate.gate-index c.gate-item.result
    c.loop-gate-test.true c.loop-gate.invariant c.in_ok-push.ensures.items (c.place.ensures.place ∙ ap
    (place_in c.args.variables.now) (c.from.ensures ∙ c.variable.ensures ∙ ap (λ g. variable g.first) c.gate-item.is))
    (c.place-in-loop-gate.ensures.place ∙ ap (place_in c.args.variables.now)
    (c.from-in-loop-gate.ensures ∙ c.variable-in-loop-gate.ensures ∙ ap (λ g. variable g.second) c.gate-item.is))
