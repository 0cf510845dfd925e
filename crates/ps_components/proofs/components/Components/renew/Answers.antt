use Rattle.std.proofs.Common.{◌<◌}
use Rattle.std.proofs.lemmas.Option.{slice_get_within, get_or_from_slice_get}
use Rattle.std.proofs.lemmas.List.Elements.{All-get_or}
use Rattle.ps_components.proofs.Ended.{components-sound, roots_met, all_listed}
use Rattle.ps_components.proofs.components.Components.renew.Goals as goal

pub invariant_of-self : goal.invariant_of-self
invariant_of-self g c = (let idle = c.in-Ok.ensures.idle in all_listed idle.sound idle.ended)

pub returns-in-Ok-clause-components : goal.returns-in-Ok-clause-components
returns-in-Ok-clause-components g c = components-sound c.in-Ok.ensures.idle.sound

pub returns-in-Ok-clause-met : goal.returns-in-Ok-clause-met
returns-in-Ok-clause-met g c =
    let roots = c.args.roots.now in
    roots_met c.in-Ok.ensures.idle.sound c.in-Ok.ensures.idle.ended roots
    (λ i v h. rw (← get_or_from_slice_get roots i v 0 h) (All-get_or (λ x. x < (g.G.Graph.graph c.args.graph.now).count)
    roots i 0 (slice_get_within roots i v h) c.requires)) c.in-Ok.ensures.met.seen c.in-Ok.ensures.met.reached
