use Rattle.std.proofs.Common.{◌∙◌, ℕ, subst}
use Rattle.ps_brief.specs.Inner.Parts.{AreRelabelled}
use Rattle.ps_brief.proofs.DrawnMachines.DrawnParts.{is_drawing, within_values}
use Rattle.ps_brief.proofs.DrawnMachines.MachineDrawn.{relabelled_stay}
use Rattle.ps_brief.proofs.drawing.copied.Goals as goal

pub relabelled-requires-clause-within : goal.relabelled-requires-clause-within
relabelled-requires-clause-within c =
    let (pairs, has) = c.requires.paired in
    λ i d less x. within_values c.args.plan.now c.args.reached.now c.args.memories.now.kept.items pairs
    c.args.nodes.now c.args.values.now has.paired has.memories.many i d less x

pub returns : goal.returns
returns c =
    let plan = c.args.plan.now in
    let (pairs, has) = c.requires.paired in
    let own = c.relabelled.new.own in
    let made = c.in_ok-nodes.ensures.relabelled in
    let to = c.in_ok-bits.ensures.keeps in
    let letters = to.propositions ∙ c.in_ok-nodes.ensures.keeps.propositions ∙ c.new-own.ensures.propositions
    ∙ c.propositions.ensures.value in
    is_drawing plan c.requires.drawable.ready c.propositions.ensures.sound c.args.reached.now c.requires.drawable.reached
    c.args.memories.now c.requires.drawable.memories pairs has.differ c.args.nodes.now c.args.values.now
    (record { store = c.copied_bits.new.own; nodes = c.in_ok-nodes.nodes; bits = c.in_ok-bits.bits }) has.paired
    has.memories (relabelled_stay to (subst (λ (n : ℕ). AreRelabelled c.args.store.now own c.args.values.now
    c.args.nodes.now c.in_ok-nodes.nodes.items n) has.paired.many made)) c.in_ok-bits.ensures.copied letters
