use Rattle.std.proofs.Common.{◌≡◌, Some, sym, ◌∙◌, eqb, rules}
use Rattle.std.specs.List.{slice_get}
use Rattle.std.proofs.lemmas.Bool.{eqb-true}
use Rattle.ps_machine.specs.Inner.Drawing.{anchor_of}
use Rattle.ps_machine.proofs.Machines.Diagrams.DrawingLemmas.{at_position, has_anchor, stands_for}
use Rattle.ps_machine.proofs.Lassos.Rounds.{one_place}
use Rattle.ps_machine.proofs.drawing.Plan.memory_at.Goals as goal

pub unwrap-requires : goal.unwrap-requires
unwrap-requires c =
    let step = c.args.step in
    let e = c.requires.enters in
    let plan = e.plan in
    let same : e.vertex ≡ c.args.vertex =
    one_place c.args.self.now.keys.now plan.is_game.by_keys.different e.vertex c.args.vertex e.stands c.requires.at in
    let m = plan.memories.found e.vertex step.state step.priority ((plan.are_used e.vertex).1 e.is_used) e.stands in
    search (rules, has_anchor)

pub returns-clause-stands : goal.returns-clause-stands
returns-clause-stands c v at =
    let self = c.args.self.now in
    let step = c.args.step in
    let plan = c.requires.enters.plan in
    let anchors = self.memories.now.anchors.keys in
    let there = at_position (eqb c.anchor-anchor.result) anchors 0 (sym c.get_index_of.ensures.index ∙ c.unwrap.ensures) in
    let is : slice_get anchors c.unwrap.result ≡ Some (anchor_of self.moves_first c.args.vertex step.state) =
    search (rules, eqb-true) in
    stands_for c.args.vertex step.priority plan.is_game.by_keys.different plan.memories c.requires.at is at
