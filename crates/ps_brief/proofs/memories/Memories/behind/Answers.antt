use Rattle.std.proofs.Common.{◌∙◌, Some, ap, eqb, rules, subst, sym}
use Rattle.std.proofs.lemmas.Bool.{eqb-true}
use Rattle.ps_automaton.specs.declared.step.Step.{Step}
use Rattle.ps_machine.specs.Inner.Drawing.{anchor_of}
use Rattle.ps_machine.specs.Numbering.{StandsAt}
use Rattle.ps_machine.specs.declared.key.Key.TheVariants.{First}
use Rattle.ps_machine.proofs.Machines.Diagrams.DrawingLemmas.{at_position, has_anchor}
use Rattle.ps_brief.specs.Inner.Drafts.{play_of}
use Rattle.ps_brief.proofs.DrawnMachines.MachineDrawn.{has_memory, memory_for}
use Rattle.ps_brief.proofs.memories.Memories.behind.Goals as goal

pub unwrap-requires : goal.unwrap-requires
unwrap-requires c =
    let plan = c.args.plan.now in
    let (t, reached, drawable) = c.requires.drawable in
    let (y, good) = c.requires.good in
    let place = c.unwrap-place.result in
    let at = subst (λ (s : Step). StandsAt (play_of plan).keys place (First s.state s.priority))
    c.pair-step.ensures.pair (rw c.unwrap-place.ensures at c.place_of.ensures) in
    let anchor = c.anchor.ensures
    ∙ ap (λ (s : Step). anchor_of plan.moves_first place s.state) c.pair-step.ensures.pair in
    let there = has_memory plan reached drawable.reached c.args.self.now drawable.memories (c.args.leaf, y) good place at in
    search (rules, has_anchor)

pub returns : goal.returns
returns c =
    let plan = c.args.plan.now in
    let (t, reached, drawable) = c.requires.drawable in
    let place = c.unwrap-place.result in
    let anchors = c.args.self.now.anchors.keys in
    let at = subst (λ (s : Step). StandsAt (play_of plan).keys place (First s.state s.priority))
    c.pair-step.ensures.pair (rw c.unwrap-place.ensures at c.place_of.ensures) in
    let anchor = c.anchor.ensures
    ∙ ap (λ (s : Step). anchor_of plan.moves_first place s.state) c.pair-step.ensures.pair in
    let (x, is_x, same) =
    at_position (eqb c.anchor.result) anchors 0 (sym c.get_index_of.ensures.index ∙ c.unwrap.ensures) in
    let anchored = is_x ∙ ap (λ k. Some k) (sym (eqb-true c.anchor.result x same) ∙ anchor) in
    memory_for plan reached c.args.self.now drawable.memories drawable.ready.playable.different c.args.leaf c.unwrap.result place at anchored
